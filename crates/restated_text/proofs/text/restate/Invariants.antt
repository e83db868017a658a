-- What is restated so far, and what the rest comes to, are the whole.
use Rattle.std.proofs.Common.{length}
use Rattle.restated_text.proofs.Restating.{Restating}
use Rattle.restated_text.proofs.text.restate.Given as goal

abbrev pub invariant-loop-part : goal.invariant-loop-part
invariant-loop-part l = Restating l.states l.text l.restated.items l.counts l.rest

abbrev pub decreases-loop-part : goal.decreases-loop-part
decreases-loop-part l = length l.rest
