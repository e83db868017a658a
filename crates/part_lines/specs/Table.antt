-- The table of a text: an entry for each line that adds a part.
use Rattle.std.specs.Prelude.{ℕ, ◌+◌, min, List, [], ◌∷◌, ◌++◌, Option, None}
use Rattle.std.specs.Option.{option_map_or}
use Rattle.plant_words.specs.LineKinds.{kind_in}
use Rattle.plant_words.specs.Lines.{lines_of}
use Rattle.plant_words.specs.Words.{words_of}
use Rattle.plant_words.specs.declared.line_kind.LineKind.{LineKind}
use Rattle.part_lines.specs.declared.table.PartLine.{PartLine}

-- the kind of part that the words of a line add, by the first of them
abbrev pub kind_of_words : List (List ℕ) → Option LineKind
kind_of_words [] = None
kind_of_words (word ∷ words) = kind_in word

-- the entry of the line with a number, if it adds a part
abbrev pub entry_of : ℕ → List ℕ → List PartLine
entry_of number line =
    option_map_or (λ kind. record { kind = kind; line = number } ∷ []) (kind_of_words (words_of line)) []

-- the number of the next line, as long as 32 bits hold it
abbrev pub next_number : ℕ → ℕ
next_number number = min (number + 1) 4294967295

-- the entries of lines, the first of which has this number
abbrev pub entries_from : ℕ → List (List ℕ) → List PartLine
entries_from number [] = []
entries_from number (line ∷ lines) = entry_of number line ++ entries_from (next_number number) lines

-- the entries of a text, whose lines are numbered from 1
abbrev pub part_lines : List ℕ → List PartLine
part_lines text = entries_from 1 (lines_of text)
