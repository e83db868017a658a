use Rattle.std.proofs.Common.{◌≡◌, ◌++◌, length}
use Rattle.plant_words.specs.Words.{words_of}
use Rattle.run_watches.specs.Joined.{joined_from, joined_text}
use Rattle.run_watches.proofs.joining.joined.Given as goal

-- what was written, and what is still to be written of the words that are left, is the whole
abbrev pub invariant-loop-word : goal.invariant-loop-word
invariant-loop-word l = record {
  whole : l.joined.items ++ joined_from l.owned l.words ≡ joined_text (words_of l.text);
}

abbrev pub decreases-loop-word : goal.decreases-loop-word
decreases-loop-word l = length l.words
