-- Bytes as a terminal may show them.
use Rattle.std.specs.Prelude.{ℕ, ◌+◌, ◌-◌, ◌/◌, ◌%◌, List, [], ◌∷◌, ◌++◌, ◌==◌, length, take, flat_map, nat_lt, nat_le, if◌then◌else◌, codes}
use Rattle.plant_words.specs.Lines.{is_legal_byte}
use Rattle.plant_words.specs.Words.{is_filled}
use Rattle.shown_fault.specs.declared.shown.TheConstants.{MAX_WORD_SHOWN}

-- a digit of a number to the base 16
abbrev pub hex_digit : ℕ → ℕ
hex_digit n = if nat_lt n 10 then 48 + n else 87 + n

-- A byte as it is shown: a tab as a space, so that what stands under it can be seen, and a byte that may not stand in a plant text by
-- its number to the base 16, so that no terminal takes it for a command.
abbrev pub shown_byte : ℕ → List ℕ
shown_byte byte =
    if byte == 9 then codes " "
    else if is_legal_byte byte then byte ∷ []
    else codes "\\x" ++ hex_digit (byte / 16) ∷ hex_digit (byte % 16) ∷ []

-- bytes as they are shown
abbrev pub shown : List ℕ → List ℕ
shown bytes = flat_map shown_byte bytes

-- parts, one after the other
abbrev pub joined : List (List ℕ) → List ℕ
joined [] = []
joined (part ∷ parts) = part ++ joined parts

-- characters, if there is room for so many; and else as many as leave room for `...` after them
abbrev pub cut_to : ℕ → List ℕ → List ℕ
cut_to room chars = if nat_le (length chars) room then chars else joined (take (room - 3) chars ∷ codes "..." ∷ [])

-- a word in quotes, as it is shown; of a long one the first characters
unfoldable pub quoted : List ℕ → List ℕ
quoted word = joined (codes "'" ∷ cut_to MAX_WORD_SHOWN (shown word) ∷ codes "'" ∷ [])

-- a piece of advice, of these parts, as a line
abbrev pub advice_line : List (List ℕ) → List ℕ
advice_line parts = joined (codes "  " ∷ joined parts ∷ codes "\n" ∷ [])

-- a piece of advice as a line; nothing of an empty one
abbrev pub filled_line : List ℕ → List ℕ
filled_line text = if is_filled text then advice_line (text ∷ []) else []
