-- The signals of a value change dump: their codes and their values.
use Rattle.std.specs.Prelude.{ℕ, ℤ, Bool, false, if◌then◌else◌, List, ◌++◌, codes, decimal}
use Rattle.std.specs.Fmt.{digits}
use Rattle.std.specs.Int.{cast_unsigned, w64}

-- a signal's code: its kind, the number of its atom, and its own number in the atom
abbrev pub signal_code : List ℕ → ℕ → ℕ → List ℕ
signal_code kind atom number = kind ++ decimal atom ++ codes "_" ++ decimal number

-- a value's digits to the base 2: of a number that is not negative without leading zeros, of a negative one all 64 of its two's complement
abbrev pub binary : ℤ → List ℕ
binary value = digits 2 false (cast_unsigned w64 value)

-- the bit of a place: 1 if it is marked
abbrev pub bit : Bool → List ℕ
bit marked = if marked then codes "1" else codes "0"

-- the value of a place
abbrev pub place_value : ℕ → ℕ → Bool → List ℕ
place_value atom number marked = bit marked ++ signal_code (codes "p") atom number ++ codes "\n"

-- the value of a variable
abbrev pub variable_value : ℕ → ℕ → ℤ → List ℕ
variable_value atom number value = codes "b" ++ binary value ++ codes " " ++ signal_code (codes "v") atom number ++ codes "\n"
