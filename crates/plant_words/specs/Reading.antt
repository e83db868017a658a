-- The steps of reading a line that lines of every kind share.
use Rattle.std.specs.Prelude.{ℕ, Bool, false, if◌then◌else◌, List, [], ◌∷◌, Result, Ok, Err}
use Rattle.std.specs.Option.{ok_or}
use Rattle.petri_atom.specs.Name.{is_same_text}
use Rattle.plant_words.specs.Lines.{is_legal_line}
use Rattle.plant_words.specs.Names.{name_in}
use Rattle.plant_words.specs.LineFaults.{line_fault}
use Rattle.plant_words.specs.declared.expression_fault.ExpressionFault.{ExpressionFault}
use Rattle.plant_words.specs.declared.line_fault.LineFault.{LineFault}
use Rattle.plant_words.specs.declared.line_fault.LineFault.TheVariants.{NotAscii, BadName, Shape}

infixl 10 ◌>>=◌
-- what comes next is judged only where nothing before it is at fault
abbrev pub ◌>>=◌ : {A B F : Type 0} → Result A F → (A → Result B F) → Result B F
Ok x >>= next = next x
Err fault >>= next = Err fault

-- the fault, unless the test passes
abbrev pub check : {F : Type 0} → Bool → F → Result (Unit {0}) F
check passes fault = if passes then Ok tt else Err fault

-- the first word; there must be one, and its bytes must be legal
abbrev pub first_word : List (List ℕ) → Result (List ℕ) LineFault
first_word [] = Err Shape
first_word (word ∷ words) = if is_legal_line word then Ok word else Err NotAscii

-- the first word as a name
abbrev pub first_name : List (List ℕ) → Result (List ℕ) LineFault
first_name words = do
  word ← first_word words
  ok_or (name_in word) BadName

-- the first word, which must be this one
abbrev pub first_keyword : List ℕ → List (List ℕ) → Result (Unit {0}) LineFault
first_keyword keyword words = do
  word ← first_word words
  check (is_same_text word keyword) Shape

-- no word may be left over; if one is, an illegal byte in it is found first
abbrev pub at_end : List (List ℕ) → Result (Unit {0}) LineFault
at_end [] = Ok tt
at_end (word ∷ words) = Err (if is_legal_line word then Shape else NotAscii)

-- the first word is this one
abbrev pub leads : List ℕ → List (List ℕ) → Bool
leads keyword [] = false
leads keyword (word ∷ words) = is_same_text word keyword

-- what an expression's words say, with its fault as one of the line
abbrev pub on_line : {A : Type 0} → Result A ExpressionFault → Result A LineFault
on_line (Ok x) = Ok x
on_line (Err fault) = Err (line_fault fault)
