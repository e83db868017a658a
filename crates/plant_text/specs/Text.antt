-- What the lines of a text say of a plant.
use Rattle.std.specs.Prelude.{ℕ, List, map}
use Rattle.petri_atom.specs.Expression.{Tree}
use Rattle.petri_atom.specs.Definition.{AtomDefinition}
use Rattle.priority_filter.specs.declared.rule.Rule.{Rule}
use Rattle.plant_model.specs.Plant.{TransferDefinition, WireDefinition, PlantDefinition}
use Rattle.plant_model.specs.declared.wire.Export.{Export}
use Rattle.plant_model.specs.declared.wire.Input.{Input}
use Rattle.connector_tree.specs.declared.token.Token.{Token}
use Rattle.connector_tree.specs.Tokens.{tokens_of}

-- a connector as it is written: its tree as a list of tokens
pub record WireText : Type 0 where
  pub name : List ℕ
  pub tree : List Token
  pub guards : List (Tree Export)
  pub transfers : List TransferDefinition
  pub inputs : List Input

-- a plant as it is written: its atoms and its connectors, each numbered from 0 in written order, and its priority rules
pub record PlantText : Type 0 where
  pub atoms : List AtomDefinition
  pub wires : List WireText
  pub rules : List Rule

-- how a connector is written
abbrev pub wire_text_of : WireDefinition → WireText
wire_text_of w = record { name = w.name; tree = tokens_of w.connector; guards = w.guards; transfers = w.transfers; inputs = w.inputs }

-- how a plant is written
abbrev pub text_of : PlantDefinition → PlantText
text_of plant = record { atoms = plant.atoms; wires = map wire_text_of plant.wires; rules = plant.rules }
