-- What is said of a reason.
use Rattle.std.specs.Prelude.{ℕ, List, [], slice_get}
use Rattle.std.specs.Option.{option_map_or}
use Rattle.petri_atom.specs.Definition.{AtomDefinition}
use Rattle.petri_atom.specs.Local.{Local}
use Rattle.connector_tree.specs.Tree.{leaves}
use Rattle.plant_model.specs.Choice.{Interaction}
use Rattle.plant_model.specs.Exports.{value_at}
use Rattle.plant_model.specs.Plant.{PlantDefinition, WireDefinition}
use Rattle.plant_model.specs.Rules.{is_same_export}
use Rattle.part_text.specs.Export.{export_name}
use Rattle.blocked_text.specs.Idle.{port_text}
use Rattle.blocked_text.specs.Way.{way_text}
use Rattle.blocked_text.specs.Zero.{zero_text}
use Rattle.blocked_text.specs.declared.reason.Reason.{Reason}
use Rattle.blocked_text.specs.declared.reason.Reason.TheVariants.{NotOffered, GuardIsZero, GivesWay}

-- the guard clause of a connector with a number is 0; nothing of one that is not there
abbrev pub clause_text : List AtomDefinition → List Local → WireDefinition → ℕ → List ℕ
clause_text atoms states w k =
    option_map_or (zero_text is_same_export (export_name atoms (leaves w.connector)) (value_at atoms states (leaves w.connector))) (slice_get w.guards k) []

-- what is said of a reason of an interaction of these
abbrev pub reason_text : PlantDefinition → List Local → List Interaction → List ℕ → Interaction → Reason → List ℕ
reason_text plant states interactions lines i (NotOffered port) = port_text plant.atoms states port
reason_text plant states interactions lines i (GuardIsZero k) =
    option_map_or (λ w. clause_text plant.atoms states w k) (slice_get plant.wires i.connector) []
reason_text plant states interactions lines i (GivesWay m) =
    option_map_or (way_text plant states interactions lines i) (slice_get interactions m) []
