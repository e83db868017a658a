-- What a state offers, as it is kept.
use Rattle.std.specs.Prelude.{◌≡◌, ◌≤◌, ℕ, Bool, false, IsTrue, List, Some, length, slice_get}
use Rattle.std.specs.FinSet.{contains}
use Rattle.petri_atom.specs.Local.{Local, Row, is_in}
use Rattle.petri_atom.specs.Definition.{AtomDefinition, fired, offers_number}
use Rattle.connector_tree.specs.declared.tree.Port.{Port}
use Rattle.priority_filter.specs.Active.{AskAlike}
use Rattle.priority_filter.specs.Members.{has_bit}
use Rattle.plant_model.specs.Choice.{Interaction, is_marked_at, moves_of}
use Rattle.plant_model.specs.Plant.{PlantDefinition}
use Rattle.plant_model.specs.Sights.{AreSeen}
use Rattle.plant_model.specs.declared.ranks.Ranks.{Ranks}
use Rattle.plant_model.specs.declared.choice.Move.{Move}
use Rattle.step_core.specs.EnabledTransitions.{AreOffered, AreMovable, AreCounted, atoms_of}
use Rattle.step_core.specs.Leaves.{AreLeaves, AreToldOf, count_of}
use Rattle.step_core.specs.ChoicesIn.{AreAllPossible}
use Rattle.step_core.specs.Possible.{ArePossible, AreAllowed}
use Rattle.step_core.specs.Standing.{IsStanding}
use Rattle.step_core.specs.Weights.{AreWeighed}
use Rattle.step_core.specs.declared.changes.Changes.{Changes}
use Rattle.step_core.specs.declared.leaves.Leaves.{Leaves}
use Rattle.step_core.specs.declared.judgement.Judgement.{Judgement}

-- it is that of a state of a plant, by the plant's interactions
pub record IsJudgement (plant : PlantDefinition) (interactions : List Interaction) (ranks : Ranks) (states : List Local) (j : Judgement) : Type 0 where
  pub offered : AreOffered plant.atoms states j.offers.sets
  pub movable : AreMovable plant.atoms states j.offers.movable
  pub counted : AreCounted plant.atoms j.offers.sets j.offers.counts
  pub leaves : AreLeaves plant.wires j.offers.counts j.leaves
  pub possible : ArePossible plant.atoms plant.wires states interactions j.possible
  pub seen : AreSeen plant.rules (is_marked_at states) j.seen
  pub standing : IsStanding plant interactions ranks (contains j.possible) j.standing
  pub allowed : AreAllowed plant states interactions j.kept
  pub weights : AreWeighed plant.atoms states interactions (contains j.kept) j.weights

-- what atoms and leaves offer is that of a state of a plant
pub record IsOffers (plant : PlantDefinition) (states : List Local) (sets : List ℕ) (counts : List (List ℕ)) (l : Leaves) : Type 0 where
  pub offered : AreOffered plant.atoms states sets
  pub counted : AreCounted plant.atoms sets counts
  pub leaves : AreLeaves plant.wires counts l

-- it is, and each interaction that is kept is possible
pub record IsOffering (plant : PlantDefinition) (interactions : List Interaction) (states : List Local) (sets : List ℕ) (counts : List (List ℕ)) (l : Leaves) (test : ℕ → Bool) : Type 0 where
  pub offers : IsOffers plant states sets counts l
  pub kept : AreAllPossible plant.atoms plant.wires states interactions test

-- it is that of a state in which all atoms but some were as they are now
pub record IsBehind (plant : PlantDefinition) (interactions : List Interaction) (ranks : Ranks) (changed : List ℕ) (states : List Local) (j : Judgement) : Type 0 where
  pub before : List Local
  pub judged : IsJudgement plant interactions ranks before j
  pub as_many : length before ≡ length states
  pub stays : (n : ℕ) → is_in changed n ≡ false → slice_get states n ≡ slice_get before n

-- it is that of a state in which each move's transition was offered, and of which the firing of the moves left the present one
pub record IsMovedBehind (plant : PlantDefinition) (interactions : List Interaction) (ranks : Ranks) (moves : List Move) (states : List Local) (j : Judgement) : Type 0 where
  pub behind : IsBehind plant interactions ranks (atoms_of moves) states j
  pub fired : (k : ℕ) (m : Move) (a : AtomDefinition) (b s : Local) → slice_get moves k ≡ Some m → slice_get plant.atoms m.atom ≡ Some a → slice_get behind.before m.atom ≡ Some b → slice_get states m.atom ≡ Some s
      → IsTrue (offers_number a b m.transition) × ((d : Row) × (s ≡ fired a m.transition d b))

-- what atoms and leaves offer, and what is seen, is that of the present state; the rest is that of a state in which all atoms but some were as
-- they are now, and the changes tell which connectors that reaches
pub record IsUnsettled (plant : PlantDefinition) (interactions : List Interaction) (ranks : Ranks) (states : List Local) (changes : Changes) (is_seen_new : Bool) (j : Judgement) : Type 0 where
  pub changed : List ℕ
  pub before : List Local
  pub as_many : length before ≡ length states
  pub stays : (n : ℕ) → is_in changed n ≡ false → slice_get states n ≡ slice_get before n
  pub counts : List (List ℕ)
  pub were_counted : (p : Port) → count_of counts p ≡ length (moves_of plant.atoms before p)
  pub offered : AreOffered plant.atoms states j.offers.sets
  pub movable : AreMovable plant.atoms states j.offers.movable
  pub counted : AreCounted plant.atoms j.offers.sets j.offers.counts
  pub leaves : AreLeaves plant.wires j.offers.counts j.leaves
  pub told : AreToldOf plant.wires changed counts j.offers.counts changes
  pub within : (k : ℕ) → length plant.wires ≤ k → (has_bit changes.dirty k ≡ false) × (has_bit changes.heavy k ≡ false)
  pub possible : ArePossible plant.atoms plant.wires before interactions j.possible
  pub seen : AreSeen plant.rules (is_marked_at states) j.seen
  pub seen_alike : is_seen_new ≡ false → AskAlike plant.rules (is_marked_at states) (is_marked_at before)
  pub standing : IsStanding plant interactions ranks (contains j.possible) j.standing
  pub allowed : AreAllowed plant before interactions j.kept
  pub weights : AreWeighed plant.atoms before interactions (contains j.kept) j.weights
