use Rattle.std.specs.Prelude.{◌≡◌, ℕ, zero, suc, ◌+◌, ◌^◌, ◌≤◌, ℤ, pos, Bool, cond, not, ◌&&◌, ◌||◌, List, slice_index_or, slice_get, slice_set, ◌==◌, nat_lt, Option, None, Some, if◌then◌else◌, length, filter, map, unwrap_or, is_some}
use Rattle.std.specs.Int.{bit_at}
use Rattle.std.specs.List.{list_all, list_any, range_with_len}
use Rattle.std.specs.Option.{option_or}
use Rattle.petri_atom.specs.declared.state.TheConstants.{MAX_PLACES, MAX_EXPORTS}

-- a local state: the set of marked places, as the number whose bit k says that place k is marked, and the variables' values
pub record Local : Type 0 where
  pub marking : ℕ
  pub values : List ℤ

-- the set has the number
abbrev pub has : ℕ → ℕ → Bool
has set k = bit_at set k == 1

-- the number is in the list
abbrev pub is_in : List ℕ → ℕ → Bool
is_in ks k = list_any (λ j. j == k) ks

-- the set of the numbers below a bound that pass a test
unfoldable pub set_below : ℕ → (ℕ → Bool) → ℕ
set_below zero test = 0
set_below (suc n) test = set_below n test + cond (test n) (2 ^ n) 0

-- the numbers below a bound that are in a set, rising
unfoldable pub numbers_below : ℕ → ℕ → List ℕ
numbers_below n set = filter (has set) (range_with_len 0 n)

-- the numbers are places that a marking has room for
abbrev pub are_places : List ℕ → Bool
are_places ks = list_all (λ k. nat_lt k MAX_PLACES) ks

-- the places of a list are all marked
abbrev pub all_marked : ℕ → List ℕ → Bool
all_marked marking places = list_all (has marking) places

-- some place of one list that is not in the other is marked
abbrev pub is_blocked : ℕ → List ℕ → List ℕ → Bool
is_blocked marking targets sources = list_any (λ p. has marking p && not (is_in sources p)) targets

-- the marking minus the sources, plus the targets
unfoldable pub moved : ℕ → List ℕ → List ℕ → ℕ
moved marking sources targets =
    set_below MAX_PLACES (λ p. (has marking p && not (is_in sources p)) || is_in targets p)

-- the value of a variable, 0 of one that is not there
abbrev pub value_in : List ℤ → ℕ → ℤ
value_in values variable = slice_index_or values variable (pos 0)

-- from an index on there are only zeros
abbrev pub IsZeroFrom : ℕ → List ℤ → Type 0
IsZeroFrom low values = (k : ℕ) → low ≤ k → value_in values k ≡ pos 0

-- what is delivered to an atom is a row: for each exported variable of a port, from number 0 on, its value or none
abbrev pub Row : Type 0
Row = List (Option ℤ)

-- a row is kept as a mask, which says who gets a value, and as the values, 0 of those that get none
abbrev pub mask_of : Row → ℕ
mask_of row = set_below (length row) (λ j. is_some (slice_index_or row j None))

abbrev pub values_of : Row → List ℤ
values_of row = map (λ value. unwrap_or value (pos 0)) row

-- the row that is kept so
abbrev pub row_in : ℕ → List ℤ → Row
row_in mask values = map (λ j. if has mask j then slice_get values j else None) (range_with_len 0 MAX_EXPORTS)

-- a mask and values are those of a row, with nothing else in them
abbrev pub AreOfRow : ℕ → List ℤ → Type 0
AreOfRow mask values = (mask ≡ mask_of (row_in mask values)) × (values ≡ values_of (row_in mask values))

-- a row of values in which the exported variable with a number has the value, unless it had one before
abbrev pub given : ℕ → ℤ → Row → Row
given export value row = slice_set row export (option_or (slice_index_or row export None) (Some value))

-- what is delivered to the exported variable number j of a port, if anything is
abbrev pub delivered_value : Row → ℕ → Option ℤ
delivered_value row j = slice_index_or row j None
