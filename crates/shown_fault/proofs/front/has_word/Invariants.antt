-- The word is one of those that are left, if it is one.
use Rattle.std.proofs.Common.{◌≡◌, length}
use Rattle.plant_words.specs.Words.{words_of}
use Rattle.shown_fault.specs.Front.{has_word}
use Rattle.shown_fault.proofs.front.has_word.Given as goal

abbrev pub invariant-loop-found : goal.invariant-loop-found
invariant-loop-found l = has_word l.words l.word ≡ has_word (words_of l.front) l.word

abbrev pub decreases-loop-found : goal.decreases-loop-found
decreases-loop-found l = length l.words
