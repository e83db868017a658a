-- The word is one of those that are left.
use Rattle.std.proofs.Common.{◌≡◌, length}
use Rattle.std.specs.Prelude.{slice_get}
use Rattle.plant_words.specs.Words.{words_of}
use Rattle.script_lines.proofs.mistake_text.word_in.Given as goal

abbrev pub invariant-loop-word : goal.invariant-loop-word
invariant-loop-word l = slice_get l.words l.left ≡ slice_get (words_of l.line) l.place

abbrev pub decreases-loop-word : goal.decreases-loop-word
decreases-loop-word l = length l.words
