-- What is printed of the numbers of a connector's choices.
use Rattle.std.specs.Prelude.{ℕ, ◌-◌, nat_lt, if◌then◌else◌, List, [], ◌∷◌, ◌++◌, length, take, flat_map, codes, decimal}
use Rattle.run_text.specs.declared.choices.TheConstants.{MOST_LISTED}

-- a number after others
abbrev pub later_number : ℕ → List ℕ
later_number number = codes ", " ++ decimal number

-- two dots, if there are more numbers than are told
abbrev pub dots_text : ℕ → List ℕ
dots_text count = if nat_lt MOST_LISTED count then codes ", .." else []

-- so many choices have these numbers, of which the first 1,000 are told
abbrev pub told_numbers : ℕ → List ℕ → List ℕ
told_numbers first others =
    decimal first ++ flat_map later_number (take (MOST_LISTED - 1) others) ++ dots_text (length (first ∷ others))

-- a connector has several choices, with these numbers
abbrev pub several_text : List ℕ → ℕ → List ℕ → List ℕ
several_text name first others =
    name ++ codes " has " ++ decimal (length (first ∷ others)) ++ codes " choices: " ++ told_numbers first others ++ codes "\n"
