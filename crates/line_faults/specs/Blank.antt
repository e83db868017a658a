-- A text with a blank line.
use Rattle.std.specs.Prelude.{ℕ, ◌-◌, ◌==◌, not, ◌&&◌, if◌then◌else◌, List, [], ◌∷◌}

-- a byte as it stands in the text with the blank line, whose number is counted from the byte's own line as 1: there each byte is a space,
-- but for the line feed (10)
abbrev pub blanked : ℕ → ℕ → ℕ
blanked left byte = if left == 1 && not (byte == 10) then 32 else byte

-- the number of the blank line, counted from the line of the next byte as 1: a line feed ends a line; 0 where the blank line is past
abbrev pub left_after : ℕ → ℕ → ℕ
left_after left byte = if byte == 10 then left - 1 else left

-- The text with a space in the place of each byte of the line with this number, from 1. The line feed of that line stays, so all other
-- lines keep their numbers. With the number 0 it is the text itself.
abbrev pub without_line : ℕ → List ℕ → List ℕ
without_line number [] = []
without_line number (byte ∷ text) = blanked number byte ∷ without_line (left_after number byte) text
