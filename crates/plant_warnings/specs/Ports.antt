-- Which ports are of no use.
use Rattle.std.specs.Prelude.{ℕ, Bool, not, ◌&&◌, ◌==◌}
use Rattle.std.specs.List.{list_any}
use Rattle.petri_atom.specs.Definition.{AtomDefinition}
use Rattle.connector_tree.specs.Tree.{leaves}
use Rattle.plant_model.specs.Plant.{PlantDefinition, WireDefinition}

-- a port of an atom stands in a connector: it is one of its leaves
abbrev pub has_leaf : ℕ → ℕ → WireDefinition → Bool
has_leaf atom port w = list_any (λ leaf. leaf.atom == atom && leaf.port == port) (leaves w.connector)

-- a port of an atom stands in no connector of the plant
abbrev pub is_in_no_connector : PlantDefinition → ℕ → ℕ → Bool
is_in_no_connector plant atom port = not (list_any (has_leaf atom port) plant.wires)

-- no transition of the atom has the port
abbrev pub has_no_transition : AtomDefinition → ℕ → Bool
has_no_transition a port = not (list_any (λ t. t.port == port) a.transitions)
