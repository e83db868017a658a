-- Which connectors have a rival, as it is kept, and what is known of a connector of which the rivals are others than before.
use Rattle.std.specs.Prelude.{◌≡◌, ◌≢◌, ◌≤◌, ◌↔◌, ◌&&◌, ◌||◌, not, ℕ, Bool, true, false, List, length, map, slice_get}
use Rattle.std.specs.Ordering.{nat_cmp}
use Rattle.std.specs.FinSet.{FinSet, contains}
use Rattle.std.specs.Option.{option_map_or}
use Rattle.priority_filter.specs.Active.{unconditional}
use Rattle.priority_filter.specs.Decided.{is_below, is_overruled}
use Rattle.priority_filter.specs.Members.{has_bit}
use Rattle.plant_model.specs.Choice.{Interaction, named}
use Rattle.plant_model.specs.ConnectorRows.{is_of_connector}
use Rattle.plant_model.specs.Plant.{PlantDefinition}
use Rattle.plant_model.specs.Ranks.{HasRival, is_head_of}
use Rattle.plant_model.specs.declared.ranks.Rank.{Rank}
use Rattle.plant_model.specs.declared.ranks.Ranks.{Ranks}
use Rattle.step_core.specs.declared.standing.Rivalry.{Rivalry}
use Rattle.step_core.specs.declared.standing.Standing.{Standing}

-- one interaction is below another by the rules without a condition
abbrev pub is_always_below : PlantDefinition → List Interaction → ℕ → ℕ → Bool
is_always_below plant interactions n m = is_below (unconditional plant.rules) (map named interactions) n m

-- some rival is above an interaction by these rules
abbrev pub is_always_overruled : PlantDefinition → List Interaction → (ℕ → Bool) → ℕ → Bool
is_always_overruled plant interactions rivals n = is_overruled (unconditional plant.rules) (map named interactions) rivals n

-- an interaction is kept of the possible ones where none of these is above it by these rules
abbrev pub is_kept_always : PlantDefinition → List Interaction → (ℕ → Bool) → ℕ → Bool
is_kept_always plant interactions possible n = possible n && not (is_always_overruled plant interactions possible n)

-- the connector is tied to another one: an interaction of it is below or above one of that
abbrev pub IsTied : PlantDefinition → List Interaction → ℕ → Type 0
IsTied plant interactions k =
    (e : ℕ) × (n : ℕ) × (m : ℕ) × (e ≢ k) × (is_of_connector interactions k n ≡ true) × (is_of_connector interactions e m ≡ true) ×
    ((is_always_below plant interactions n m || is_always_below plant interactions m n) ≡ true)

-- a head of the connector is a rival
abbrev pub HasHead : Ranks → (ℕ → Bool) → ℕ → Type 0
HasHead ranks rivals k = (m : ℕ) × (is_head_of ranks m k ≡ true) × (rivals m ≡ true)

-- of each tied connector the word has the bit exactly if it has one of the rivals
abbrev pub AreLive : PlantDefinition → List Interaction → (ℕ → Bool) → ℕ → Type 0
AreLive plant interactions rivals live = (k : ℕ) → IsTied plant interactions k → (has_bit live k ≡ true) ↔ HasRival interactions rivals k

-- of each connector with an interaction the word has the bit exactly if a head of it is a rival, and it has none of one that is not there
pub record AreOver (plant : PlantDefinition) (interactions : List Interaction) (ranks : Ranks) (rivals : ℕ → Bool) (over : ℕ) : Type 0 where
  pub right : (k n : ℕ) → is_of_connector interactions k n ≡ true → (has_bit over k ≡ true) ↔ HasHead ranks rivals k
  pub within : (k : ℕ) → length plant.wires ≤ k → has_bit over k ≡ false

-- so it is of both words
abbrev pub IsStanding : PlantDefinition → List Interaction → Ranks → (ℕ → Bool) → Standing → Type 0
IsStanding plant interactions ranks rivals s = ∥ AreLive plant interactions rivals s.live × AreOver plant interactions ranks rivals s.over ∥₁

-- a set has the rivals that pass a test, of the interactions that are there
abbrev pub AreRivals : List Interaction → (ℕ → Bool) → FinSet nat_cmp → Type 0
AreRivals interactions rivals set = (n k : ℕ) → is_of_connector interactions k n ≡ true → contains set n ≡ rivals n

-- it is what is known of a connector once its rivals are others: whether it has one now, and whether one that is in a rest may have come or gone,
-- or a head; the rivals of all other connectors are as before
pub record IsRivalry (interactions : List Interaction) (ranks : Ranks) (connector : ℕ) (old new : ℕ → Bool) (r : Rivalry) : Type 0 where
  pub others : (n : ℕ) → is_of_connector interactions connector n ≡ false → new n ≡ old n
  pub some : (r.has_rival ≡ true) ↔ HasRival interactions new connector
  pub same : r.is_watched_new ≡ false → (n : ℕ) → is_of_connector interactions connector n ≡ true → contains ranks.watched n ≡ true → new n ≡ old n
  pub same_heads : r.is_head_new ≡ false → (n : ℕ) → is_of_connector interactions connector n ≡ true → contains ranks.heads n ≡ true → new n ≡ old n

-- the interaction m is of a connector that the connector k has in `whole`
abbrev pub is_in_whole : Ranks → List Interaction → ℕ → ℕ → Bool
is_in_whole ranks interactions k m =
    option_map_or (λ (i : Interaction). option_map_or (λ (r : Rank). has_bit r.whole i.connector) (slice_get ranks.of_connectors.items k) false) (slice_get interactions m) false

-- the rivals, without those that are above the connector k as heads alone
abbrev pub but_heads : Ranks → List Interaction → ℕ → (ℕ → Bool) → ℕ → Bool
but_heads ranks interactions k rivals m = rivals m && (is_in_whole ranks interactions k m || not (is_head_of ranks m k))

-- what is above all of the connector with this rank is no rival: no interaction of one in its `whole`, and no head of it
pub record IsFree (interactions : List Interaction) (ranks : Ranks) (rivals : ℕ → Bool) (connector : ℕ) (r : Rank) : Type 0 where
  pub whole : (e n m : ℕ) → is_of_connector interactions connector n ≡ true → has_bit r.whole e ≡ true → is_of_connector interactions e m ≡ true → rivals m ≡ false
  pub heads : (n m : ℕ) → is_of_connector interactions connector n ≡ true → is_head_of ranks m connector ≡ true → rivals m ≡ false
