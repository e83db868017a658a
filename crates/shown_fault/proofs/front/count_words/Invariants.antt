-- The words that are left are not counted yet.
use Rattle.std.proofs.Common.{◌≡◌, ◌+◌, ◌≤◌, length}
use Rattle.plant_words.specs.Words.{words_of}
use Rattle.shown_fault.proofs.front.count_words.Given as goal

abbrev pub invariant-loop-words : goal.invariant-loop-words
invariant-loop-words l = (l.count + length l.words ≡ length (words_of l.front)) × (length (words_of l.front) ≤ length l.front)

abbrev pub decreases-loop-words : goal.decreases-loop-words
decreases-loop-words l = length l.words
