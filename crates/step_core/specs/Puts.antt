-- What is put of leaves of connectors, one put after the other.
use Rattle.std.specs.Prelude.{◌≡◌, ◌==◌, ◌&&◌, ℕ, Bool, List}
use Rattle.std.specs.List.{list_any}
use Rattle.connector_tree.specs.Masks.{is_set}
use Rattle.plant_model.specs.declared.usual.Put.{Put}

-- one of the puts is of this leaf of this connector
abbrev pub is_put : List Put → ℕ → ℕ → Bool
is_put puts connector leaf = list_any (λ put. put.connector == connector && is_set put.mask leaf) puts

-- of the leaves that a put is of, a word of it has exactly those for which it is right
abbrev pub IsRight : (ℕ → ℕ → Bool) → ℕ → Put → Type 0
IsRight right word put = (leaf : ℕ) → is_set word leaf ≡ (is_set put.mask leaf && right put.connector leaf)
