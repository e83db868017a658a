-- What a reason says of an interaction, and a hindrance of a transition.
use Rattle.std.specs.Prelude.{◌≡◌, ℕ, true, false, pos, List, Some, Contains, map, slice_get}
use Rattle.petri_atom.specs.Definition.{TransitionDefinition}
use Rattle.petri_atom.specs.Expression.{Tree, value_of}
use Rattle.petri_atom.specs.Local.{Local, has, is_in, value_in}
use Rattle.connector_tree.specs.Tree.{leaves}
use Rattle.priority_filter.specs.Order.{IsBelow}
use Rattle.plant_model.specs.Choice.{Interaction, active_in, is_offered_port, is_possible_at, named, plant_interactions}
use Rattle.plant_model.specs.Exports.{clause_applies, value_at}
use Rattle.plant_model.specs.Plant.{PlantDefinition, WireDefinition}
use Rattle.plant_model.specs.declared.wire.Export.{Export}
use Rattle.blocked_text.specs.declared.hindrance.Hindrance.{Hindrance}
use Rattle.blocked_text.specs.declared.hindrance.Hindrance.TheVariants.{Unmarked, Marked, ZeroGuard}
use Rattle.blocked_text.specs.declared.reason.Reason.{Reason}
use Rattle.blocked_text.specs.declared.reason.Reason.TheVariants.{NotOffered, GuardIsZero, GivesWay}

-- a clause with a number is one of an interaction's connector, applies to the interaction, and is 0
pub record IsZeroClause (plant : PlantDefinition) (states : List Local) (i : Interaction) (k : ℕ) : Type 0 where
  pub wire : WireDefinition
  pub clause : Tree Export
  pub connector : slice_get plant.wires i.connector ≡ Some wire
  pub written : slice_get wire.guards k ≡ Some clause
  pub applies : clause_applies i.mask clause ≡ true
  pub zero : value_of (value_at plant.atoms states (leaves wire.connector)) clause ≡ pos 0

-- a reason is right: the port is one of the interaction and is not offered; the clause applies and is 0; the interaction itself is possible, and so is the one that it names, which is above it
abbrev pub IsRight : PlantDefinition → List Local → ℕ → Interaction → Reason → Type 0
IsRight plant states n i (NotOffered p) = Contains i.ports p × (is_offered_port plant.atoms states p ≡ false)
IsRight plant states n i (GuardIsZero k) = IsZeroClause plant states i k
IsRight plant states n i (GivesWay m) =
    (is_possible_at plant.atoms plant.wires states (plant_interactions plant) n ≡ true) ×
    (is_possible_at plant.atoms plant.wires states (plant_interactions plant) m ≡ true) ×
    IsBelow (active_in plant states) (map named (plant_interactions plant)) n m

-- a hindrance of a transition is right: the place is a source that is not marked, or is a target and no source, and is marked; or the guard is 0
abbrev pub IsHindering : Local → TransitionDefinition → Hindrance → Type 0
IsHindering state t (Unmarked p) = Contains t.sources p × (has state.marking p ≡ false)
IsHindering state t (Marked p) = Contains t.targets p × (has state.marking p ≡ true) × (is_in t.sources p ≡ false)
IsHindering state t ZeroGuard = value_of (value_in state.values) t.guard ≡ pos 0
