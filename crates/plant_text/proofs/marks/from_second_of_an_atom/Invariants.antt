-- Fewer and fewer words are left.
use Rattle.std.proofs.Common.{length}
use Rattle.plant_text.proofs.marks.from_second_of_an_atom.Given as goal

abbrev pub invariant-loop-word : goal.invariant-loop-word
invariant-loop-word l = Unit {0}

abbrev pub decreases-loop-word : goal.decreases-loop-word
decreases-loop-word l = length l.words
