-- What is drawn of a plant: some of its atoms, and what stands on these.
use Rattle.std.specs.Prelude.{ℕ, Bool, false, ◌&&◌, ◌==◌, List, slice_get}
use Rattle.std.specs.List.{list_any}
use Rattle.std.specs.Option.{option_map_or}
use Rattle.petri_atom.specs.Local.{Local, has}
use Rattle.connector_tree.specs.Tree.{leaves}
use Rattle.connector_tree.specs.declared.tree.Port.{Port}
use Rattle.priority_filter.specs.declared.rule.Side.{Side}
use Rattle.priority_filter.specs.declared.rule.Side.TheVariants.{Whole, One}
use Rattle.priority_filter.specs.declared.rule.Rule.{Rule}
use Rattle.priority_filter.specs.declared.rule.Rule.TheVariants.{Under, UnderAt, Maximal}
use Rattle.plant_model.specs.Plant.{PlantDefinition, WireDefinition}
use Rattle.plant_model.specs.Choice.{ChoiceDefinition, choices}
use Rattle.plant_drawing.specs.declared.filling.Filling.{Filling}
use Rattle.plant_drawing.specs.declared.filling.Filling.TheVariants.{Alike, ByChoice}

-- the atom of a port is one of the set
abbrev pub is_of_drawn : ℕ → Port → Bool
is_of_drawn drawn port = has drawn port.atom

-- a connector is drawn if it has a leaf of an atom of the set
abbrev pub is_drawn : ℕ → WireDefinition → Bool
is_drawn drawn wire = list_any (is_of_drawn drawn) (leaves wire.connector)

-- the connector with a number is there, and is drawn
abbrev pub is_drawn_at : ℕ → PlantDefinition → ℕ → Bool
is_drawn_at drawn plant number = option_map_or (is_drawn drawn) (slice_get plant.wires number) false

-- the number of the connector of a side
abbrev pub side_connector : Side → ℕ
side_connector (Whole connector) = connector
side_connector (One connector mask) = connector

-- a priority rule is drawn if the connectors that it names are
abbrev pub is_drawn_rule : ℕ → PlantDefinition → Rule → Bool
is_drawn_rule drawn plant (Under left right) =
    is_drawn_at drawn plant (side_connector left) && is_drawn_at drawn plant (side_connector right)
is_drawn_rule drawn plant (UnderAt left right at) =
    is_drawn_at drawn plant (side_connector left) && is_drawn_at drawn plant (side_connector right)
is_drawn_rule drawn plant (Maximal connector) = is_drawn_at drawn plant connector

-- a choice is of the connector with a number
abbrev pub is_of_connector : ℕ → ChoiceDefinition → Bool
is_of_connector number c = c.connector == number

-- the connector with a number has one of these choices
abbrev pub has_choice : List ChoiceDefinition → ℕ → Bool
has_choice cs number = list_any (is_of_connector number) cs

-- the connector with a number is filled as one that has a choice: none is where all are filled alike
abbrev pub is_coloured : Filling → PlantDefinition → List Local → ℕ → Bool
is_coloured Alike plant states number = false
is_coloured ByChoice plant states number = has_choice (choices plant states) number
