-- What is left to settle of a judgement once a change reached some connectors.
use Rattle.std.specs.Prelude.{◌≡◌, ◌≤◌, ◌+◌, ◌*◌, ◌^◌, ◌==◌, ◌&&◌, not, if◌then◌else◌, ℕ, Bool, true, false, List, [], ◌∷◌, length, slice_index_or}
use Rattle.std.specs.FinSet.{contains}
use Rattle.petri_atom.specs.Local.{Local}
use Rattle.plant_model.specs.Choice.{Interaction, is_marked_at, is_possible_at}
use Rattle.plant_model.specs.ConnectorRows.{is_of_connector}
use Rattle.plant_model.specs.Plant.{PlantDefinition}
use Rattle.plant_model.specs.Sights.{AreSeen}
use Rattle.plant_model.specs.declared.ranks.Ranks.{Ranks}
use Rattle.step_core.specs.EnabledTransitions.{AreOffered, AreMovable, AreCounted}
use Rattle.step_core.specs.Leaves.{AreLeaves}
use Rattle.step_core.specs.Standing.{IsStanding, is_kept_always}
use Rattle.step_core.specs.Weights.{AreSums, weight_of}
use Rattle.step_core.specs.declared.judgement.Judgement.{Judgement}

-- how many interactions the connector has
abbrev pub own_count : List Interaction → ℕ → ℕ
own_count [] connector = 0
own_count (i ∷ is) connector = (if i.connector == connector then 1 else 0) + own_count is connector

-- each connector has a weight that so many interactions can have, with 2 ^ 112 choices each at most
abbrev pub AreBounded : List Interaction → List ℕ → Type 0
AreBounded interactions weights = (k : ℕ) → slice_index_or weights k 0 ≤ own_count interactions k * 2 ^ 112

-- what passes a test, but for one number
abbrev pub but : ℕ → (ℕ → Bool) → ℕ → Bool
but connector test k = test k && not (k == connector)

-- what atoms and leaves offer, and what is seen, is that of a state of a plant in which no rule has a condition. What is possible is right but of the
-- stale connectors; what stands and what is kept is right for what is possible as it is kept now; and the weights are so, but of those to weigh
pub record IsSettledBut (plant : PlantDefinition) (interactions : List Interaction) (ranks : Ranks) (states : List Local) (stale unweighed : ℕ → Bool) (j : Judgement) : Type 0 where
  pub offered : AreOffered plant.atoms states j.offers.sets
  pub movable : AreMovable plant.atoms states j.offers.movable
  pub counted : AreCounted plant.atoms j.offers.sets j.offers.counts
  pub leaves : AreLeaves plant.wires j.offers.counts j.leaves
  pub seen : AreSeen plant.rules (is_marked_at states) j.seen
  pub possible : (n k : ℕ) → is_of_connector interactions k n ≡ true → stale k ≡ false → contains j.possible n ≡ is_possible_at plant.atoms plant.wires states interactions n
  pub past : (n : ℕ) → length interactions ≤ n → contains j.possible n ≡ false
  pub standing : IsStanding plant interactions ranks (contains j.possible) j.standing
  pub kept : (n : ℕ) → contains j.kept n ≡ is_kept_always plant interactions (contains j.possible) n
  pub weights : (k : ℕ) → unweighed k ≡ false → slice_index_or j.weights.of_connectors k 0 ≡ weight_of plant.atoms states interactions (contains j.kept) k
  pub sums : AreSums j.weights
  pub bounded : AreBounded interactions j.weights.of_connectors
