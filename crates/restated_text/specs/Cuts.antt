-- A line, cut before and behind its first word.
use Rattle.std.specs.Prelude.{ℕ, ◌-◌, List, length, take, drop}
use Rattle.std.specs.List.{prefix_len, position_or_len}
use Rattle.plant_words.specs.Words.{is_blank}

-- the blanks before the first word
abbrev pub blanks_before : List ℕ → List ℕ
blanks_before line = take (prefix_len is_blank line) line

-- the line from its first word on
abbrev pub from_word : List ℕ → List ℕ
from_word line = drop (prefix_len is_blank line) line

-- the first word; empty if there is none
abbrev pub word_at : List ℕ → List ℕ
word_at line = take (position_or_len is_blank (from_word line)) (from_word line)

-- what stands behind the first word
abbrev pub behind_word : List ℕ → List ℕ
behind_word line = drop (position_or_len is_blank (from_word line)) (from_word line)

-- what stands behind the second word: in a line `place` or `var` that is the name of the place or the variable
abbrev pub behind_name : List ℕ → List ℕ
behind_name line = behind_word (behind_word line)

-- the line up to the end of its second word
abbrev pub up_to_name : List ℕ → List ℕ
up_to_name line = take (length line - length (behind_name line)) line
