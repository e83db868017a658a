-- What a plant is.
use Rattle.std.specs.Prelude.{ℕ, List, [], slice_get}
use Rattle.std.specs.Option.{option_map_or}
use Rattle.petri_atom.specs.Local.{Local}
use Rattle.petri_atom.specs.Expression.{Tree}
use Rattle.petri_atom.specs.Definition.{AtomDefinition}
use Rattle.connector_tree.specs.Tree as connectors
use Rattle.priority_filter.specs.declared.rule.Rule.{Rule}
use Rattle.plant_model.specs.declared.wire.Export.{Export}
use Rattle.plant_model.specs.declared.wire.Input.{Input}

-- a transfer: the exported variable of one leaf gets the value of an expression over exported variables
pub record TransferDefinition : Type 0 where
  pub target : Export
  pub value : Tree Export

-- a wire: a connector with its name, its guard clauses, its transfers, and its inputs: the exported variables whose values come from outside
pub record WireDefinition : Type 0 where
  pub name : List ℕ
  pub connector : connectors.Tree
  pub guards : List (Tree Export)
  pub transfers : List TransferDefinition
  pub inputs : List Input

-- a plant: its atoms and its wires, each numbered from 0 in written order, and its priority rules
pub record PlantDefinition : Type 0 where
  pub atoms : List AtomDefinition
  pub wires : List WireDefinition
  pub rules : List Rule

-- the name of the connector with a number; empty where it is not there
abbrev pub wire_name : PlantDefinition → ℕ → List ℕ
wire_name plant connector = option_map_or (λ w. w.name) (slice_get plant.wires connector) []

-- the atom and the local state with a number, and what is read of both; nothing where one is not there
abbrev pub of_atom : {X : Type 0} → List AtomDefinition → List Local → ℕ → (AtomDefinition → Local → X) → X → X
of_atom atoms states n read nothing =
    option_map_or (λ a. option_map_or (λ s. read a s) (slice_get states n) nothing) (slice_get atoms n) nothing
