-- What holds of the bytes outside of a stretch.
use Rattle.std.specs.Prelude.{◌≡◌, ◌⊎◌, ℕ, ◌<◌, ◌≤◌, Bool, false, List, slice_index, slice_index_or}
use Rattle.disk_model.specs.declared.stretch.Stretch.{Stretch}

-- the number is before the stretch or behind it
abbrev pub IsOutside : Stretch → ℕ → Type 0
IsOutside stretch i = (i < stretch.from) ⊎ (stretch.to ≤ i)

-- outside of the stretch both have the same bytes
abbrev pub AreSameOutside : Stretch → List ℕ → List ℕ → Type 0
AreSameOutside stretch one other = (i : ℕ) → IsOutside stretch i → slice_index one i ≡ slice_index other i

-- outside of the stretch no byte is marked
abbrev pub AreClearOutside : Stretch → List Bool → Type 0
AreClearOutside stretch marks = (i : ℕ) → IsOutside stretch i → slice_index_or marks i false ≡ false
