-- The interaction that a record can be of, by its connector and by the leaves that take part.
use Rattle.std.specs.Prelude.{ℕ, ◌==◌, ◌&&◌, Bool, false, List, slice_get}
use Rattle.std.specs.Option.{option_map_or}
use Rattle.petri_atom.specs.Local.{has}
use Rattle.connector_tree.specs.declared.tree.Port.{Port}
use Rattle.plant_model.specs.Choice.{Interaction}

-- the leaf with a number is there, and its atom is one of these
abbrev pub is_leaf_of : List Port → ℕ → ℕ → Bool
is_leaf_of leaves atoms j = option_map_or (λ p. has atoms p.atom) (slice_get leaves j) false

-- the interaction is of the connector with a number, and has a mask
abbrev pub is_named : ℕ → ℕ → Interaction → Bool
is_named connector mask i = i.connector == connector && i.mask == mask
