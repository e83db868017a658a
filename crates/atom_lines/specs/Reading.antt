-- The steps of reading the line of an atom, beside those that lines of every kind share.
use Rattle.std.specs.Prelude.{ℕ, Bool, true, false, List, [], ◌∷◌, drop, Result, Ok, codes, ℤ}
use Rattle.std.specs.Option.{ok_or}
use Rattle.plant_words.specs.Numbers.{int_in}
use Rattle.plant_words.specs.Reading.{◌>>=◌, first_word, first_keyword, at_end}
use Rattle.plant_words.specs.declared.line_fault.LineFault.{LineFault}
use Rattle.plant_words.specs.declared.line_fault.LineFault.TheVariants.{BadNumber}

-- the first word as a number of the plant
abbrev pub first_number : List (List ℕ) → Result ℤ LineFault
first_number words = do
  word ← first_word words
  ok_or (int_in word) BadNumber

-- whether the line goes on, which it may by this word alone
abbrev pub goes_on : List ℕ → List (List ℕ) → Result Bool LineFault
goes_on keyword [] = Ok false
goes_on keyword (word ∷ words) = do
  _ ← first_keyword keyword (word ∷ words)
  Ok true

-- whether a place is marked at first: nothing says that it is not, and `init` that it is
abbrev pub mark_in : List (List ℕ) → Result Bool LineFault
mark_in words = do
  marked ← goes_on (codes "init") words
  _ ← at_end (drop 1 words)
  Ok marked

-- the first value of a variable: a number, and no word after it
abbrev pub value_in : List (List ℕ) → Result ℤ LineFault
value_in words = do
  first ← first_number words
  _ ← at_end (drop 1 words)
  Ok first
