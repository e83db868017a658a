-- The part stands in the rest of the word, if it stands in the word.
use Rattle.std.proofs.Common.{◌≡◌, length}
use Rattle.shown_fault.specs.Table.{has_part}
use Rattle.shown_fault.proofs.table.has_part.Given as goal

abbrev pub invariant-loop-after : goal.invariant-loop-after
invariant-loop-after l = has_part l.rest l.part ≡ has_part l.word l.part

abbrev pub decreases-loop-after : goal.decreases-loop-after
decreases-loop-after l = length l.rest
