-- The word is one of those that are left.
use Rattle.std.proofs.Common.{◌≡◌, length}
use Rattle.std.specs.Prelude.{slice_get}
use Rattle.plant_words.specs.Words.{words_of}
use Rattle.shown_fault.proofs.front.word_at.Given as goal

abbrev pub invariant-loop-word : goal.invariant-loop-word
invariant-loop-word l = slice_get l.words l.left ≡ slice_get (words_of l.front) l.number

abbrev pub decreases-loop-word : goal.decreases-loop-word
decreases-loop-word l = length l.words
