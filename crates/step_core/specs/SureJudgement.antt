-- What is sure while atoms are away, as it is kept.
use Rattle.std.specs.Prelude.{◌≡◌, ◌≤◌, ◌||◌, ℕ, Bool, true, false, IsTrue, List, [], Option, Some, length, slice_get}
use Rattle.std.specs.Ordering.{nat_cmp}
use Rattle.std.specs.FinSet.{FinSet, contains}
use Rattle.std.specs.Option.{option_map_or}
use Rattle.petri_atom.specs.Local.{Local, Row, is_in}
use Rattle.petri_atom.specs.Definition.{AtomDefinition, fired, offers_number}
use Rattle.connector_tree.specs.declared.tree.Port.{Port}
use Rattle.priority_filter.specs.Active.{AskAlike}
use Rattle.priority_filter.specs.Members.{has_bit}
use Rattle.plant_model.specs.Choice.{Interaction, moves_of}
use Rattle.plant_model.specs.Plant.{PlantDefinition, WireDefinition}
use Rattle.connector_tree.specs.Tree.{leaves}
use Rattle.plant_model.specs.Reach.{has_atom}
use Rattle.plant_model.specs.Sights.{AreSeen}
use Rattle.plant_model.specs.declared.ranks.Ranks.{Ranks}
use Rattle.plant_model.specs.declared.choice.Move.{Move}
use Rattle.step_core.specs.EnabledTransitions.{AreOffered, AreMovable, AreCounted, atoms_of}
use Rattle.step_core.specs.Leaves.{AreLeaves, AreToldOf, count_of}
use Rattle.step_core.specs.Parts.{is_present, may_be_marked_in, shown_in}
use Rattle.step_core.specs.Possible.{ArePossible}
use Rattle.step_core.specs.Standing.{AreRivals, IsStanding}
use Rattle.step_core.specs.Sure.{is_open_at, is_sure_at}
use Rattle.step_core.specs.Weights.{AreWeighed}
use Rattle.step_core.specs.declared.changes.Changes.{Changes}
use Rattle.step_core.specs.declared.sure.SureJudgement.{SureJudgement}

-- the set holds the numbers of the interactions that are open, and no other
abbrev pub AreOpen : List AtomDefinition → List (Option Local) → List Interaction → FinSet nat_cmp → Type 0
AreOpen atoms parts interactions set = (n : ℕ) → contains set n ≡ is_open_at atoms parts interactions n

-- the set holds the numbers of the interactions that are sure, and no other
abbrev pub AreSure : PlantDefinition → List (Option Local) → List Interaction → FinSet nat_cmp → Type 0
AreSure plant parts interactions set = (n : ℕ) → contains set n ≡ is_sure_at plant parts interactions n

-- the connector has a leaf of the atom
abbrev pub has_leaf_of : List WireDefinition → ℕ → ℕ → Bool
has_leaf_of wires atom connector = option_map_or (λ w. has_atom (leaves w.connector) atom) (slice_get wires connector) false

-- it is that of the parts of a state of a plant, by the plant's interactions: what is offered and possible is that of the states that
-- the parts show, and what is kept are the sure ones
pub record IsSureJudgement (plant : PlantDefinition) (interactions : List Interaction) (ranks : Ranks) (parts : List (Option Local)) (j : SureJudgement) : Type 0 where
  pub offered : AreOffered plant.atoms (shown_in parts) j.judgement.offers.sets
  pub movable : AreMovable plant.atoms (shown_in parts) j.judgement.offers.movable
  pub counted : AreCounted plant.atoms j.judgement.offers.sets j.judgement.offers.counts
  pub leaves : AreLeaves plant.wires j.judgement.offers.counts j.judgement.leaves
  pub possible : ArePossible plant.atoms plant.wires (shown_in parts) interactions j.judgement.possible
  pub seen : AreSeen plant.rules (may_be_marked_in parts) j.judgement.seen
  pub opened : AreOpen plant.atoms parts interactions j.opened
  pub rivals : AreRivals interactions (λ n. contains j.judgement.possible n || contains j.opened n) j.rivals
  pub standing : IsStanding plant interactions ranks (contains j.rivals) j.judgement.standing
  pub sure : AreSure plant parts interactions j.judgement.kept
  pub weights : AreWeighed plant.atoms (shown_in parts) interactions (contains j.judgement.kept) j.judgement.weights

-- it is that of parts of which all but some were as they are now, and of these some alone have left or come back
pub record IsSureBehind (plant : PlantDefinition) (interactions : List Interaction) (ranks : Ranks) (changed flipped : List ℕ) (parts : List (Option Local)) (j : SureJudgement) : Type 0 where
  pub before : List (Option Local)
  pub judged : IsSureJudgement plant interactions ranks before j
  pub as_many : length before ≡ length parts
  pub stays : (n : ℕ) → is_in changed n ≡ false → slice_get parts n ≡ slice_get before n
  pub present : (n : ℕ) → is_in flipped n ≡ false → is_present parts n ≡ is_present before n

-- it is that of parts in whose shown states each move's transition was offered, and of which the firing of the moves left the present ones
pub record IsSureMovedBehind (plant : PlantDefinition) (interactions : List Interaction) (ranks : Ranks) (moves : List Move) (parts : List (Option Local)) (j : SureJudgement) : Type 0 where
  pub behind : IsSureBehind plant interactions ranks (atoms_of moves) [] parts j
  pub fired : (k : ℕ) (m : Move) (a : AtomDefinition) (b s : Local) → slice_get moves k ≡ Some m → slice_get plant.atoms m.atom ≡ Some a → slice_get (shown_in behind.before) m.atom ≡ Some b → slice_get (shown_in parts) m.atom ≡ Some s
      → IsTrue (offers_number a b m.transition) × ((d : Row) × (s ≡ fired a m.transition d b))

-- what atoms and leaves offer, and what is seen, is that of the present parts; the rest is that of parts of which all but some were as they are
-- now, and the changes tell which connectors that reaches. Those with a leaf of an atom that has left or come back are told too
pub record IsSureUnsettled (plant : PlantDefinition) (interactions : List Interaction) (ranks : Ranks) (parts : List (Option Local)) (changes : Changes) (flipped_connectors : ℕ) (is_seen_new : Bool) (j : SureJudgement) : Type 0 where
  pub changed : List ℕ
  pub flipped : List ℕ
  pub before : List (Option Local)
  pub as_many : length before ≡ length parts
  pub stays : (n : ℕ) → is_in changed n ≡ false → slice_get parts n ≡ slice_get before n
  pub present : (n : ℕ) → is_in flipped n ≡ false → is_present parts n ≡ is_present before n
  pub flipped_told : (k atom : ℕ) → has_bit flipped_connectors k ≡ false → is_in flipped atom ≡ true → has_leaf_of plant.wires atom k ≡ false
  pub counts : List (List ℕ)
  pub were_counted : (p : Port) → count_of counts p ≡ length (moves_of plant.atoms (shown_in before) p)
  pub offered : AreOffered plant.atoms (shown_in parts) j.judgement.offers.sets
  pub movable : AreMovable plant.atoms (shown_in parts) j.judgement.offers.movable
  pub counted : AreCounted plant.atoms j.judgement.offers.sets j.judgement.offers.counts
  pub leaves : AreLeaves plant.wires j.judgement.offers.counts j.judgement.leaves
  pub told : AreToldOf plant.wires changed counts j.judgement.offers.counts changes
  pub within : (k : ℕ) → length plant.wires ≤ k → (has_bit changes.dirty k ≡ false) × (has_bit changes.heavy k ≡ false)
  pub flipped_within : (k : ℕ) → length plant.wires ≤ k → has_bit flipped_connectors k ≡ false
  pub possible : ArePossible plant.atoms plant.wires (shown_in before) interactions j.judgement.possible
  pub seen : AreSeen plant.rules (may_be_marked_in parts) j.judgement.seen
  pub seen_alike : is_seen_new ≡ false → AskAlike plant.rules (may_be_marked_in parts) (may_be_marked_in before)
  pub opened : AreOpen plant.atoms before interactions j.opened
  pub rivals : AreRivals interactions (λ n. contains j.judgement.possible n || contains j.opened n) j.rivals
  pub standing : IsStanding plant interactions ranks (contains j.rivals) j.judgement.standing
  pub sure : AreSure plant before interactions j.judgement.kept
  pub weights : AreWeighed plant.atoms (shown_in before) interactions (contains j.judgement.kept) j.judgement.weights
