-- The lines of a text.
use Rattle.std.specs.Prelude.{ℕ, Bool, ◌&&◌, ◌||◌, List, nat_le, ◌==◌}
use Rattle.std.specs.List.{list_all}
use Rattle.std.specs.Str.Lines.{lines}

-- The lines of a text: what stands before each LF (10), without the one CR (13) that may stand directly before
-- it, and what stands after the last LF, if there is something.
abbrev pub lines_of : List ℕ → List (List ℕ)
lines_of text = lines text

-- a printed ASCII character, a space or a tab
abbrev pub is_legal_byte : ℕ → Bool
is_legal_byte byte = (nat_le 32 byte && nat_le byte 126) || byte == 9

-- each byte of the line is legal
abbrev pub is_legal_line : List ℕ → Bool
is_legal_line line = list_all is_legal_byte line
