-- Words that are numbers.
use Rattle.std.specs.Prelude.{ℕ, ℤ, pos, neg_ℤ, ◌+◌, ◌-◌, ◌*◌, ◌^◌, Bool, ◌&&◌, if◌then◌else◌, List, [], ◌∷◌, length, drop, Option, Some, None, nat_le, nat_lt}
use Rattle.std.specs.List.{list_all}
use Rattle.std.specs.Option.{option_map}
use Rattle.plant_words.specs.Words.{begins_with, is_filled}
use Rattle.plant_words.specs.declared.numbers.TheConstants.{MAX_DIGITS}

-- a decimal digit
abbrev pub is_digit : ℕ → Bool
is_digit byte = nat_le 48 byte && nat_le byte 57

-- digits alone, and one at least
abbrev pub has_digits_alone : List ℕ → Bool
has_digits_alone word = is_filled word && list_all is_digit word

-- an optional `-` (45) and digits, however many
abbrev pub is_numeric : List ℕ → Bool
is_numeric word = has_digits_alone (if begins_with 45 word then drop 1 word else word)

-- what digits write: the sum of each one, times ten as often as there are digits after it
abbrev pub decimal_value : List ℕ → ℕ
decimal_value [] = 0
decimal_value (digit ∷ digits) = (digit - 48) * 10 ^ length digits + decimal_value digits

-- the number that a word of digits alone writes
abbrev pub decimal_in : List ℕ → Option ℕ
decimal_in word = if has_digits_alone word then Some (decimal_value word) else None

-- the number, where it is below the bound
abbrev pub below : ℕ → Option ℕ → Option ℕ
below bound None = None
below bound (Some number) = if nat_lt number bound then Some number else None

-- a pick or a mask: digits alone, of a number within 64 bits
abbrev pub pick_in : List ℕ → Option ℕ
pick_in word = below (2 ^ 64) (decimal_in word)

-- the number that 1 to 19 digits write
abbrev pub magnitude_in : List ℕ → Option ℕ
magnitude_in word = if nat_le (length word) MAX_DIGITS then decimal_in word else None

-- a number of the plant: 1 to 19 digits, where a `-` (45) may stand before them, of a number within a signed 64-bit one
abbrev pub int_in : List ℕ → Option ℤ
int_in word =
    if begins_with 45 word
    then option_map (λ n. neg_ℤ (pos n)) (below (2 ^ 63 + 1) (magnitude_in (drop 1 word)))
    else option_map pos (below (2 ^ 63) (magnitude_in word))
