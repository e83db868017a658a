-- A word of a line as it is shown.
use Rattle.std.specs.Prelude.{ℕ, ◌-◌, ◌&&◌, Bool, if◌then◌else◌, nat_le, nat_lt, List, [], ◌++◌, length, map, take, replicate, codes}
use Rattle.run_text.specs.declared.shown_word.TheConstants.{MOST_CHARACTERS, MOST_SHOWN}

-- a printable ASCII character: from the space to `~`
abbrev pub is_printable : ℕ → Bool
is_printable byte = nat_le 32 byte && nat_le byte 126

-- a byte as it is shown: a printable character as it is, and any other as `?` (63)
abbrev pub shown_byte : ℕ → ℕ
shown_byte byte = if is_printable byte then byte else 63

-- what stands behind the bytes that are shown: `..` where the word has more
abbrev pub rest_text : List ℕ → List ℕ
rest_text word = if nat_lt MOST_SHOWN (length word) then codes ".." else []

-- a word as it is shown: its first bytes, as many as are shown, and `..` behind them where it has more
abbrev pub shown_word : List ℕ → List ℕ
shown_word word = map shown_byte (take MOST_SHOWN word) ++ rest_text word

-- characters as they are kept: zeros behind them, up to the most
abbrev pub kept_row : List ℕ → List ℕ
kept_row text = text ++ replicate (MOST_CHARACTERS - length text) 0
