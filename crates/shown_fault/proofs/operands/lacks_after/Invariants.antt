-- The words that are left are too few for the operands that are left, if all were.
use Rattle.std.proofs.Common.{◌≡◌, ◌+◌, ◌≤◌, drop, length}
use Rattle.plant_words.specs.Words.{words_of}
use Rattle.shown_fault.specs.Operands.{lacks}
use Rattle.shown_fault.proofs.operands.lacks_after.Given as goal

abbrev pub invariant-loop-wanted : goal.invariant-loop-wanted
invariant-loop-wanted l = (lacks l.wanted l.words ≡ lacks l.operands (drop l.number (words_of l.front))) × (l.wanted + length l.words ≤ 2 + length l.front)

abbrev pub decreases-loop-wanted : goal.decreases-loop-wanted
decreases-loop-wanted l = length l.words
