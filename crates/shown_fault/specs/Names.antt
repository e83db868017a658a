-- The names that lines declare, and the lines that do.
use Rattle.std.specs.Prelude.{ℕ, ◌+◌, Bool, false, if◌then◌else◌, List, [], ◌∷◌, ◌++◌, Option, Some, None, slice_get, unwrap_or, codes}
use Rattle.std.specs.Option.{option_map_or}
use Rattle.std.specs.List.{filter_map, list_any}
use Rattle.petri_atom.specs.Name.{is_same_text}
use Rattle.plant_words.specs.Words.{words_of}
use Rattle.plant_words.specs.Reading.{leads}

-- the second word of a line that begins with this first one
abbrev pub second_word : List ℕ → List ℕ → Option (List ℕ)
second_word first line = if leads first (words_of line) then slice_get (words_of line) 1 else None

-- the second words of the lines that begin with this first one
abbrev pub names_in : List ℕ → List (List ℕ) → List (List ℕ)
names_in first lines = filter_map (second_word first) lines

-- the second word of the last line that begins with this first one, or else this
abbrev pub latest_after : List ℕ → List ℕ → List (List ℕ) → List ℕ
latest_after latest first [] = latest
latest_after latest first (line ∷ lines) = latest_after (unwrap_or (second_word first line) latest) first lines

-- the same; empty if there is none
abbrev pub latest_in : List ℕ → List (List ℕ) → List ℕ
latest_in first lines = latest_after [] first lines

-- the names of the parts of an atom that the lines declare, where the lines begin inside of the atom or outside: they are second
-- words of lines with this first word, after the line of the atom and before that of another
abbrev pub part_names_from : Bool → List ℕ → List ℕ → List (List ℕ) → List (List ℕ)
part_names_from inside atom first [] = []
part_names_from inside atom first (line ∷ lines) =
    option_map_or (λ name. part_names_from (is_same_text name atom) atom first lines)
    (second_word (codes "atom") line)
    ((if inside then option_map_or (λ name. name ∷ []) (second_word first line) [] else []) ++ part_names_from inside atom first lines)

-- the names of the parts of an atom, by the first word of their lines
abbrev pub part_names_in : List ℕ → List ℕ → List (List ℕ) → List (List ℕ)
part_names_in atom first lines = part_names_from false atom first lines

-- the line begins with these two words
abbrev pub says : List ℕ → List ℕ → List ℕ → Bool
says first second line = option_map_or (λ word. is_same_text word second) (second_word first line) false

-- the number of the last of these lines that begins with these two words, numbered from this on; or else this
abbrev pub last_line_from : Option ℕ → ℕ → List ℕ → List ℕ → List (List ℕ) → Option ℕ
last_line_from last number first second [] = last
last_line_from last number first second (line ∷ lines) =
    last_line_from (if says first second line then Some number else last) (number + 1) first second lines

-- the number, from 1, of the last line that begins with these two words
abbrev pub last_line : List ℕ → List ℕ → List (List ℕ) → Option ℕ
last_line first second lines = last_line_from None 1 first second lines

-- the word is one of the names
abbrev pub is_among : List (List ℕ) → List ℕ → Bool
is_among names word = list_any (λ name. is_same_text name word) names
