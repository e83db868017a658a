-- Tables, each row with the word that it is found by.
use Rattle.std.specs.Prelude.{ℕ, Bool, false, ◌||◌, nat_eq, if◌then◌else◌, List, [], ◌∷◌, map, Option, Some, None}
use Rattle.std.specs.List.{starts_with}
use Rattle.std.specs.Borrow.{Bor}
use Rattle.std.specs.Option.{option_map_or}
use Rattle.petri_atom.specs.Name.{is_same_text}

-- the rows of a table that is lent
abbrev pub rows_of : {T : Type 0} → List (Bor (List ℕ) × T) → List (List ℕ × T)
rows_of rows = map (λ row. (row.0.now, row.1)) rows

-- the same of a table of texts
abbrev pub texts_of : List (Bor (List ℕ) × Bor (List ℕ)) → List (List ℕ × List ℕ)
texts_of rows = map (λ row. (row.0.now, row.1.now)) rows

-- what the first row with the word holds
abbrev pub row_of : {T : Type 0} → List (List ℕ × T) → List ℕ → Option T
row_of [] word = None
row_of (row ∷ rows) word = if is_same_text row.0 word then Some row.1 else row_of rows word

-- the text of the first row with the word; empty if none has it
abbrev pub text_of : List (List ℕ × List ℕ) → List ℕ → List ℕ
text_of rows word = option_map_or (λ text. text) (row_of rows word) []

-- the part stands in the word
abbrev pub has_part : List ℕ → List ℕ → Bool
has_part [] part = false
has_part (byte ∷ bytes) part = starts_with nat_eq (byte ∷ bytes) part || has_part bytes part

-- the text of the first row whose key stands in the word; empty if none does
abbrev pub text_of_part : List (List ℕ × List ℕ) → List ℕ → List ℕ
text_of_part [] word = []
text_of_part (row ∷ rows) word = if has_part word row.0 then row.1 else text_of_part rows word
