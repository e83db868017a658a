-- How many choices the kept interactions of each connector have.
use Rattle.std.specs.Prelude.{◌≡◌, ◌<◌, ◌+◌, ◌*◌, ◌&&◌, ℕ, zero, suc, Bool, List, [], ◌∷◌, Option, Some, length, slice_get, slice_index_or}
use Rattle.petri_atom.specs.Local.{Local}
use Rattle.petri_atom.specs.Definition.{AtomDefinition}
use Rattle.plant_model.specs.Choice.{Interaction, ChoiceDefinition, choices_of}
use Rattle.plant_model.specs.ConnectorRows.{is_of_connector}
use Rattle.plant_model.specs.Ways.{ways_at}
use Rattle.step_core.specs.ChoicesIn.{choices_in}
use Rattle.step_core.specs.declared.weights.Weights.{Weights}

-- those interactions of a set that are of a connector
abbrev pub is_kept_of : List Interaction → (ℕ → Bool) → ℕ → ℕ → Bool
is_kept_of interactions kept connector n = kept n && is_of_connector interactions connector n

-- the choices of these, in order; and how many there are
abbrev pub choices_of_connector : List AtomDefinition → List Local → List Interaction → (ℕ → Bool) → ℕ → List ChoiceDefinition
choices_of_connector atoms states interactions kept connector = choices_in atoms states interactions (is_kept_of interactions kept connector)

abbrev pub weight_of : List AtomDefinition → List Local → List Interaction → (ℕ → Bool) → ℕ → ℕ
weight_of atoms states interactions kept connector = length (choices_of_connector atoms states interactions kept connector)

-- the row has the weight of each connector, by the connectors' numbers
abbrev pub AreWeights : List AtomDefinition → List Local → List Interaction → (ℕ → Bool) → List ℕ → Type 0
AreWeights atoms states interactions kept weights = (k : ℕ) → slice_index_or weights k 0 ≡ weight_of atoms states interactions kept k

-- the sum of numbers
abbrev pub sum_of : List ℕ → ℕ
sum_of [] = 0
sum_of (x ∷ xs) = x + sum_of xs

-- the sum of so many of them, from one on
abbrev pub sum_from : List ℕ → ℕ → ℕ → ℕ
sum_from xs k zero = 0
sum_from xs k (suc count) = slice_index_or xs k 0 + sum_from xs (suc k) count

-- there are 64 weights, each group is the sum of its eight, and the total is that of all
pub record AreSums (w : Weights) : Type 0 where
  pub many : length w.of_connectors ≡ 64
  pub groups : (g : ℕ) → slice_index_or w.groups g 0 ≡ sum_from w.of_connectors (8 * g) 8
  pub total : w.total ≡ sum_of w.of_connectors

-- each weight is that of its connector, and the sums are theirs
pub record AreWeighed (atoms : List AtomDefinition) (states : List Local) (interactions : List Interaction) (kept : ℕ → Bool) (w : Weights) : Type 0 where
  pub each : AreWeights atoms states interactions kept w.of_connectors
  pub sums : AreSums w

-- of choices that stand connector by connector, so many of each, the one with a place is the one with another place among those of a connector
pub record IsAtConnector (weights : List ℕ) (place connector own : ℕ) : Type 0 where
  pub inside : own < slice_index_or weights connector 0
  pub behind : place ≡ sum_from weights 0 connector + own

-- the interaction with a number has so many choices, and what is looked for is the one with a place among them
pub record IsFound (atoms : List AtomDefinition) (states : List Local) (interactions : List Interaction) (choice : Option ChoiceDefinition) (number ways place : ℕ) : Type 0 where
  pub its_ways : ways ≡ ways_at atoms states interactions number
  pub inside : place < ways
  pub is : (i : Interaction) → slice_get interactions number ≡ Some i → choice ≡ slice_get (choices_of atoms states i) place
