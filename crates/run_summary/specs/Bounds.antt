-- The least and the greatest of values.
use Rattle.std.specs.Prelude.{ℕ, ◌+◌, ℤ, List, [], ◌∷◌}
use Rattle.std.specs.Int.{int_min, int_max}
use Rattle.petri_atom.specs.Local.{value_in}
use Rattle.run_summary.specs.declared.bounds.Bounds.{Bounds}

-- the bounds with one more value
abbrev pub widened : Bounds → ℤ → Bounds
widened b value = record { least = int_min b.least value; greatest = int_max b.greatest value }

-- the bounds of a value and of those that came after it, of which the last stands first
abbrev pub bounds_of : ℤ → List ℤ → Bounds
bounds_of first [] = record { least = first; greatest = first }
bounds_of first (value ∷ values) = widened (bounds_of first values) value

-- the bounds of variables, from the one with number k on, each with one more value
abbrev pub widened_from : ℕ → List Bounds → List ℤ → List Bounds
widened_from k [] values = []
widened_from k (b ∷ bs) values = widened b (value_in values k) ∷ widened_from (k + 1) bs values
