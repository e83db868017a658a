-- How many choices an interaction has, where nothing forbids it.
use Rattle.std.specs.Prelude.{ℕ, List, length, slice_get}
use Rattle.std.specs.Option.{option_map_or}
use Rattle.petri_atom.specs.Local.{Local}
use Rattle.petri_atom.specs.Definition.{AtomDefinition}
use Rattle.plant_model.specs.Choice.{Interaction, choices_of}

-- how many choices the interaction with a number has, where nothing forbids it
abbrev pub ways_at : List AtomDefinition → List Local → List Interaction → ℕ → ℕ
ways_at atoms states interactions n = option_map_or (λ i. length (choices_of atoms states i)) (slice_get interactions n) 0
