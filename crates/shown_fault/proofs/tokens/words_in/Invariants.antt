-- The words that are left stand after those so far.
use Rattle.std.proofs.Common.{◌≡◌, ◌++◌, length}
use Rattle.plant_words.specs.Words.{words_of}
use Rattle.shown_fault.specs.Lent.{lists_of}
use Rattle.shown_fault.proofs.tokens.words_in.Given as goal

abbrev pub invariant-loop-word : goal.invariant-loop-word
invariant-loop-word l = lists_of l.list.items ++ l.words ≡ words_of l.line

abbrev pub decreases-loop-word : goal.decreases-loop-word
decreases-loop-word l = length l.words
