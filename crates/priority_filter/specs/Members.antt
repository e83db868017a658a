-- Which interactions a row of words holds.
use Rattle.std.specs.Prelude.{ℕ, ◌*◌, ◌/◌, ◌%◌, Bool, List, length, filter, nat_eq, slice_index}
use Rattle.std.specs.List.{range_with_len}
use Rattle.std.specs.Int.{bit_at}
use Rattle.std.specs.Ordering.{nat_cmp}
use Rattle.std.specs.FinSet.{FinSet, from_list}

-- bit k of a word is set
abbrev pub has_bit : ℕ → ℕ → Bool
has_bit word k = nat_eq (bit_at word k) 1

-- interaction k is held by bit k % 64 of word k / 64
abbrev pub holds : List ℕ → ℕ → Bool
holds words k = nat_eq (bit_at (slice_index words (k / 64)) (k % 64)) 1

-- the set of all interactions that the words hold
unfoldable pub members_of : List ℕ → FinSet nat_cmp
members_of words = from_list (filter (holds words) (range_with_len 0 (64 * length words)))
