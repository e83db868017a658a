-- A line `place` or `var` with another first state.
use Rattle.std.specs.Prelude.{ℕ, ℤ, Bool, false, if◌then◌else◌, List, ◌++◌, codes}
use Rattle.std.specs.Fmt.{signed_decimal}
use Rattle.std.specs.Option.{option_map_or}
use Rattle.std.specs.Ordering.{int_eq}
use Rattle.plant_words.specs.Numbers.{int_in}
use Rattle.plant_words.specs.Words.{is_filled}
use Rattle.restated_text.specs.Cuts.{blanks_before, from_word, word_at, behind_word, behind_name, up_to_name}

-- the line of a place says that it is marked: a word stands behind the name
abbrev pub says_marked : List ℕ → Bool
says_marked line = is_filled (from_word (behind_name line))

-- the line without the word behind the name, and without the blanks before it
abbrev pub unmarked_line : List ℕ → List ℕ
unmarked_line line = up_to_name line ++ behind_word (behind_name line)

-- the line with `init` behind the name
abbrev pub marked_line : List ℕ → List ℕ
marked_line line = up_to_name line ++ (codes " init" ++ behind_name line)

-- the line of a place that is marked, or is not; as it was where it says so
abbrev pub place_line : Bool → List ℕ → List ℕ
place_line marked line =
    if says_marked line then (if marked then line else unmarked_line line) else (if marked then marked_line line else line)

-- a word says the value
abbrev pub says_value : ℤ → List ℕ → Bool
says_value value word = option_map_or (λ number. int_eq number value) (int_in word) false

-- the line with the value in the place of the word behind the name
abbrev pub valued_line : ℤ → List ℕ → List ℕ
valued_line value line =
    up_to_name line ++ (blanks_before (behind_name line) ++ (signed_decimal value ++ behind_word (behind_name line)))

-- the line of a variable that has the value; as it was where it says so
abbrev pub variable_line : ℤ → List ℕ → List ℕ
variable_line value line = if says_value value (word_at (behind_name line)) then line else valued_line value line
