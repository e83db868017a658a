-- The lines of a label, broken where they grow too long.
use Rattle.std.specs.Prelude.{◌≡◌, ℕ, ◌+◌, ◌-◌, Bool, if◌then◌else◌, ◌||◌, ◌==◌, nat_lt, List, [], ◌∷◌, ◌++◌, length, codes, Option}
use Rattle.std.specs.Io.KnownBytes.{Appends}
use Rattle.std.specs.Fmt.{signed_decimal}
use Rattle.petri_atom.specs.Expression.{Tree, number, variable, negation, operation}
use Rattle.part_text.specs.Expression.{operator_word}
use Rattle.plant_drawing.specs.declared.wrapping.TheConstants.{COLUMNS, INDENT}

-- a word of a length goes on a line where it and the space before it fit into the columns that are left, or nothing stands there yet
abbrev pub fits : ℕ → ℕ → Bool
fits left size = left == COLUMNS || nat_lt size left

-- how a word is set off from the one before it: by a space, or by the begin of a further line
abbrev pub gap : Bool → List ℕ
gap here = if here then codes " " else codes "\\n    "

-- the columns that are left after a word of a length
abbrev pub left_past : ℕ → ℕ → ℕ
left_past left size = if fits left size then left - (1 + size) else COLUMNS - (INDENT + size)

-- words, each set off from the one before it, where so many columns are left of the line
abbrev pub wrapped : ℕ → List (List ℕ) → List ℕ
wrapped left [] = []
wrapped left (word ∷ words) = gap (fits left (length word)) ++ word ++ wrapped (left_past left (length word)) words

-- the columns that are left after words
abbrev pub left_after : ℕ → List (List ℕ) → ℕ
left_after left [] = left
left_after left (word ∷ words) = left_after (left_past left (length word)) words

-- the words were printed, where so many columns were left, and so many are left now
pub record Wraps (columns : ℕ) (words : List (List ℕ)) (old new : Option (List ℕ)) (left : ℕ) : Type 0 where
  pub text : Appends old new (wrapped columns words)
  pub room : left ≡ left_after columns words

-- the columns of a line that are left after its first word
abbrev pub columns_past : List ℕ → ℕ
columns_past word = COLUMNS - length word

-- the words of an expression in prefix form, whose variables have the names that `name` tells
abbrev pub expression_words : {V : Type 0} → (V → List ℕ) → Tree V → List (List ℕ)
expression_words name (number n) = signed_decimal n ∷ []
expression_words name (variable v) = name v ∷ []
expression_words name (negation e) = codes "!" ∷ expression_words name e
expression_words name (operation op e f) = operator_word op ∷ (expression_words name e ++ expression_words name f)

-- the words that set a variable to the value of an expression
abbrev pub assigned_words : {V : Type 0} → (V → List ℕ) → Tree V → List (List ℕ)
assigned_words name value = codes ":=" ∷ expression_words name value
