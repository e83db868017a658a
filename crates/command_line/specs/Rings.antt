-- Which length of a ring a word writes.
use Rattle.std.specs.Prelude.{ℕ, Bool, ◌&&◌, if◌then◌else◌, List, Option, None, Some, nat_le, option_and_then}
use Rattle.plant_words.specs.Numbers.{pick_in}
use Rattle.record_codec.specs.declared.layout.TheConstants.{LEAST_RING, MOST_RING}

-- a ring may have so many records
abbrev pub is_ring : ℕ → Bool
is_ring records = nat_le LEAST_RING records && nat_le records MOST_RING

-- the length of a ring that a word writes: digits alone, of a number that a ring may have
abbrev pub ring_in : List ℕ → Option ℕ
ring_in word = option_and_then (λ records. if is_ring records then Some records else None) (pick_in word)
