-- What is wrong is so with the words that are left.
use Rattle.std.proofs.Common.{◌≡◌, [], drop}
use Rattle.shown_fault.specs.Lent.{lists_of}
use Rattle.shown_fault.specs.Watch.{names_advice}
use Rattle.shown_fault.proofs.watch.names_advice.Given as goal

abbrev pub invariant-loop-word : goal.invariant-loop-word
invariant-loop-word l = names_advice (lists_of l.lines) l.owned l.before (lists_of (drop l.word-index l.words)) ≡ names_advice (lists_of l.lines) 0 [] (lists_of l.words)
