-- The last one is one of the words that are left, or else the one so far.
use Rattle.std.proofs.Common.{◌≡◌, ◌+◌, ◌≤◌, drop, length}
use Rattle.std.specs.Prelude.{option_map}
use Rattle.plant_words.specs.Words.{words_of}
use Rattle.shown_fault.specs.Operands.{lacking_after, lacking_in}
use Rattle.shown_fault.proofs.operands.lacking.Given as goal

abbrev pub invariant-loop-word : goal.invariant-loop-word
invariant-loop-word l = (lacking_after (option_map (λ word. word.now) l.found) l.words ≡ lacking_in (words_of l.front)) × (l.words ≡ drop l.number (words_of l.front)) × (l.number + length l.words ≤ length l.front)

abbrev pub decreases-loop-word : goal.decreases-loop-word
decreases-loop-word l = length l.words
