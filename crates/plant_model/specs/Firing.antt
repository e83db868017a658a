-- What is fired: a choice, with the values that come from outside.
use Rattle.std.specs.Prelude.{◌≡◌, ℕ, ℤ, pos, Bool, true, false, ◌&&◌, if◌then◌else◌, int_le, List, [], ◌∷◌, slice_get}
use Rattle.std.specs.Ordering.{int_eq}
use Rattle.std.specs.Option.{option_map_or}
use Rattle.petri_atom.specs.Expression.{number}
use Rattle.petri_atom.specs.Local.{Local}
use Rattle.plant_model.specs.Plant.{PlantDefinition, TransferDefinition}
use Rattle.plant_model.specs.Exports.{takes_part}
use Rattle.plant_model.specs.Choice.{ChoiceDefinition, IsAllowed}
use Rattle.plant_model.specs.declared.choice.Move.{Move}
use Rattle.plant_model.specs.declared.wire.Input.{Input}

-- a firing: a choice, and a value for each input of its connector, in the order of the inputs
pub record FiringDefinition : Type 0 where
  pub connector : ℕ
  pub mask : ℕ
  pub moves : List Move
  pub inputs : List ℤ

-- the choice that is fired
abbrev pub choice_in : FiringDefinition → ChoiceDefinition
choice_in f = record { connector = f.connector; mask = f.mask; moves = f.moves }

-- the firing of a choice with these values
abbrev pub firing_by : ChoiceDefinition → List ℤ → FiringDefinition
firing_by c inputs = record { connector = c.connector; mask = c.mask; moves = c.moves; inputs = inputs }

-- the value may come in: it lies in the range of the input if its leaf takes part, and else it is 0
abbrev pub may_come : ℕ → Input → ℤ → Bool
may_come mask i value = if takes_part mask i.target then int_le i.low value && int_le value i.high else int_eq value (pos 0)

-- there is a value for each input, and each may come in
abbrev pub may_all_come : ℕ → List Input → List ℤ → Bool
may_all_come mask [] [] = true
may_all_come mask [] (v ∷ vs) = false
may_all_come mask (i ∷ is) [] = false
may_all_come mask (i ∷ is) (v ∷ vs) = may_come mask i v && may_all_come mask is vs

-- the inputs of the connector with a number
abbrev pub inputs_at : PlantDefinition → ℕ → List Input
inputs_at plant connector = option_map_or (λ w. w.inputs) (slice_get plant.wires connector) []

-- the values of a firing may come in
abbrev pub has_its_inputs : PlantDefinition → FiringDefinition → Bool
has_its_inputs plant f = may_all_come f.mask (inputs_at plant f.connector) f.inputs

-- a firing can happen in a state: its choice is allowed there, and its values may come in
abbrev pub CanFire : PlantDefinition → List Local → FiringDefinition → Type 0
CanFire plant states f = IsAllowed plant states (choice_in f) × (has_its_inputs plant f ≡ true)

-- the values that come in, as transfers: each input gives its target its value
abbrev pub handed : List Input → List ℤ → List TransferDefinition
handed [] values = []
handed (i ∷ is) [] = []
handed (i ∷ is) (v ∷ vs) = record { target = i.target; value = number v } ∷ handed is vs
