-- Where a connector stands among the others by the rules without a condition.
use Rattle.std.specs.Prelude.{◌≡◌, ◌≢◌, ◌<◌, ◌≤◌, ◌+◌, ◌⊎◌, ◌↔◌, ◌/◌, ◌%◌, ◌==◌, ◌&&◌, ◌||◌, not, ℕ, Bool, true, false, List, [], length, map, Some, slice_get, slice_index_or}
use Rattle.std.specs.FinSet.{contains}
use Rattle.std.specs.List.{list_any}
use Rattle.std.specs.Option.{option_map_or}
use Rattle.std.specs.declared.alloc.Global.{Global}
use Rattle.std.specs.declared.vec.Vec.{Vec}
use Rattle.priority_filter.specs.Active.{unconditional}
use Rattle.priority_filter.specs.Decided.{is_below}
use Rattle.priority_filter.specs.Members.{has_bit}
use Rattle.priority_filter.specs.declared.interaction_set.TheConstants.{INTERACTION_LIMIT, ROW_WORDS}
use Rattle.priority_filter.specs.declared.rule.Rule.{Rule}
use Rattle.plant_model.specs.Choice.{Interaction, named}
use Rattle.plant_model.specs.ConnectorRows.{is_from, is_of_connector}
use Rattle.plant_model.specs.declared.connector_rows.ConnectorRows.{ConnectorRows}
use Rattle.plant_model.specs.declared.ranks.Part.{Part}
use Rattle.plant_model.specs.declared.ranks.Rank.{Rank}
use Rattle.plant_model.specs.declared.ranks.Ranks.{Ranks}
use Rattle.plant_model.specs.declared.ranks.Rests.{Rests}
use Rattle.plant_model.specs.declared.ranks.Shared.{Shared}

-- ---- parts

-- the interaction with a number is one of the part's
abbrev pub is_in_part : ℕ → Part → Bool
is_in_part n p = (n / 64 == p.place) && has_bit p.word (n % 64)

-- it is in one of the parts
abbrev pub is_in_parts : List Part → ℕ → Bool
is_in_parts parts n = list_any (is_in_part n) parts

-- ---- connectors that have a rival

-- the connector has an interaction
abbrev pub has_interaction : List Interaction → ℕ → Bool
has_interaction interactions connector = list_any (λ i. i.connector == connector) interactions

-- some interaction of the connector is a rival
abbrev pub HasRival : List Interaction → (ℕ → Bool) → ℕ → Type 0
HasRival interactions rivals connector = (m : ℕ) × (is_of_connector interactions connector m ≡ true) × (rivals m ≡ true)

-- a word has the bits of exactly those connectors that have a rival
abbrev pub IsLive : List Interaction → (ℕ → Bool) → ℕ → Type 0
IsLive interactions rivals live = (k : ℕ) → (has_bit live k ≡ true) ↔ HasRival interactions rivals k

-- ---- ranks, by what is below what, of interactions of so many connectors

-- the interaction m is one of the heads that are above all interactions of the connector k
abbrev pub is_head_of : Ranks → ℕ → ℕ → Bool
is_head_of r m k = contains r.heads m && has_bit (slice_index_or r.below_head.items m 0) k

-- the parts at a place
abbrev pub parts_at : List (Vec Part Global) → ℕ → List Part
parts_at all n = option_map_or (λ parts. parts.items) (slice_get all n) []

-- the rest of what is above the interaction n, in parts; and m is in it
abbrev pub rest_of : Ranks → ℕ → List Part
rest_of r n = parts_at r.rest.items n

abbrev pub is_in_rest : Ranks → ℕ → ℕ → Bool
is_in_rest r n m = is_in_parts (rest_of r n) m

-- no interaction of a connector is above or below one of another: own tells which interactions are of which connector
abbrev pub IsAlone : (ℕ → ℕ → Bool) → (ℕ → ℕ → Bool) → ℕ → Type 0
IsAlone under own k =
    (e n m : ℕ) → e ≢ k → own k n ≡ true → own e m ≡ true → (under n m ≡ false) × (under m n ≡ false)

-- where one of the connectors stands
pub record IsRank (under : ℕ → ℕ → Bool) (connectors : ℕ) (interactions : List Interaction) (all : Ranks) (connector : ℕ) (r : Rank) : Type 0 where
  -- what is in `whole` are other connectors, each with an interaction, and each of its interactions is above each of this one's
  pub whole_there : (e : ℕ) → has_bit r.whole e ≡ true → (e < connectors) × (e ≢ connector) × (has_interaction interactions e ≡ true)
  pub whole : (e n m : ℕ) → has_bit r.whole e ≡ true → is_of_connector interactions connector n ≡ true → is_of_connector interactions e m ≡ true → under n m ≡ true
  pub flat : (r.is_flat ≡ true) ↔ ((n m : ℕ) → is_of_connector interactions connector n ≡ true → is_of_connector interactions connector m ≡ true → under n m ≡ false)
  -- the connectors that have this one in `whole`, and those with an interaction that has one of this one's in its rest
  pub below_whole : (k : ℕ) (s : Rank) → slice_get all.of_connectors.items k ≡ Some s → has_bit r.below_whole k ≡ has_bit s.whole connector
  pub below_whole_there : (k : ℕ) → has_bit r.below_whole k ≡ true → k < connectors
  pub below_rest : (k n m : ℕ) → is_of_connector interactions k n ≡ true → is_of_connector interactions connector m ≡ true → is_in_rest all n m ≡ true → has_bit r.below_rest k ≡ true
  pub below_rest_there : (k : ℕ) → has_bit r.below_rest k ≡ true → k < connectors

-- there is a rank of each connector, by the connectors' numbers; and what is above an interaction, of other connectors than its own, are all
-- interactions of the connectors in `whole` of its connector, the heads that are above all of its connector, and its rest
pub record AreRanksBy (under : ℕ → ℕ → Bool) (connectors : ℕ) (interactions : List Interaction) (r : Ranks) : Type 0 where
  pub as_many : length r.of_connectors.items ≡ connectors
  pub known : (n : ℕ) (i : Interaction) → slice_get interactions n ≡ Some i → i.connector < connectors
  pub each : (k : ℕ) (rank : Rank) → slice_get r.of_connectors.items k ≡ Some rank → IsRank under connectors interactions r k rank
  pub heads_as_many : length r.below_head.items ≡ length interactions
  pub heads_there : (m : ℕ) → contains r.heads m ≡ true → m < length interactions
  pub head_there : (m k : ℕ) → is_head_of r m k ≡ true → (k < connectors) × (is_of_connector interactions k m ≡ false)
  pub head : (n m k : ℕ) → is_head_of r m k ≡ true → is_of_connector interactions k n ≡ true → under n m ≡ true
  pub rest_as_many : length r.rest.items ≡ length interactions
  pub places : (n k : ℕ) (p : Part) → slice_get (rest_of r n) k ≡ Some p → p.place < ROW_WORDS
  pub rest : (n m : ℕ) → is_in_rest r n m ≡ true → under n m ≡ true
  pub rest_there : (n m : ℕ) → is_in_rest r n m ≡ true → m < length interactions
  pub rest_apart : (e n m : ℕ) → is_in_rest r n m ≡ true → is_of_connector interactions e n ≡ true → is_of_connector interactions e m ≡ false
  pub with_rest : (n m : ℕ) → is_in_rest r n m ≡ true → contains r.with_rest n ≡ true
  pub watched : (n m : ℕ) → is_in_rest r n m ≡ true → contains r.watched m ≡ true
  pub all : (k e n m : ℕ) (rank : Rank) → slice_get r.of_connectors.items k ≡ Some rank → e ≢ k → is_of_connector interactions k n ≡ true → is_of_connector interactions e m ≡ true → under n m ≡ true
      → (has_bit rank.whole e || (is_head_of r m k || is_in_rest r n m)) ≡ true
  -- of the connectors in `alone` no interaction is above or below one of another connector
  pub alone : (k e n m : ℕ) → has_bit r.alone k ≡ true → e ≢ k → is_of_connector interactions k n ≡ true → is_of_connector interactions e m ≡ true → (under n m ≡ false) × (under m n ≡ false)
  pub alone_there : (k : ℕ) → has_bit r.alone k ≡ true → k < connectors
  pub alone_all : (k : ℕ) → k < connectors → IsAlone under (is_of_connector interactions) k → has_bit r.alone k ≡ true

-- so it is by the rules without a condition
abbrev pub AreRanks : ℕ → List Rule → List Interaction → Ranks → Type 0
AreRanks connectors rules interactions r = AreRanksBy (is_below (unconditional rules) (map named interactions)) connectors interactions r

-- ---- how they are found

-- the rows of a connector hold the interactions of its range, and these are numbers that an interaction can have
pub record IsRange (r : ConnectorRows) : Type 0 where
  pub few : r.first + r.count ≤ INTERACTION_LIMIT
  pub low : r.low ≡ r.first / 64
  pub high : r.high ≡ (r.first + r.count + 63) / 64
  pub own : (n : ℕ) → contains r.own n ≡ is_from r.first (r.first + r.count) n

-- there are such rows of each connector, by the connectors' numbers, with its interactions
pub record AreRanges (interactions : List Interaction) (rows : List ConnectorRows) : Type 0 where
  pub range : (k : ℕ) (r : ConnectorRows) → slice_get rows k ≡ Some r → IsRange r
  pub within : (k : ℕ) (r : ConnectorRows) → slice_get rows k ≡ Some r → r.first + r.count ≤ length interactions
  pub own : (k n : ℕ) (r : ConnectorRows) → slice_get rows k ≡ Some r → contains r.own n ≡ is_of_connector interactions k n
  pub known : (n : ℕ) (i : Interaction) → slice_get interactions n ≡ Some i → i.connector < length rows

-- the interaction n is one of the connector k, by the connectors' rows
abbrev pub is_own : List ConnectorRows → ℕ → ℕ → Bool
is_own rows k n = option_map_or (λ r. contains r.own n) (slice_get rows k) false

-- it is above each interaction of a connector that has some, and of another connector
pub record IsAbove (under : ℕ → ℕ → Bool) (own : ℕ → Bool) (m : ℕ) : Type 0 where
  pub apart : own m ≡ false
  pub some : (n : ℕ) × (own n ≡ true)
  pub each : (n : ℕ) → own n ≡ true → under n m ≡ true

-- this is above each interaction of the connector k: all of some connectors, and heads
pub record IsShared (under own : ℕ → ℕ → Bool) (k : ℕ) (s : Shared) : Type 0 where
  pub whole : (e : ℕ) → (has_bit s.whole e ≡ true) ↔ (((m : ℕ) × (own e m ≡ true)) × ((m : ℕ) → own e m ≡ true → IsAbove under (own k) m))
  pub heads : (m : ℕ) → (contains s.heads m ≡ true) ↔ (IsAbove under (own k) m × ((e : ℕ) → has_bit s.whole e ≡ true → own e m ≡ false))
  pub covered : (m : ℕ) → (contains s.covered m ≡ true) ↔ ((own k m ≡ true) ⊎ IsAbove under (own k) m)

-- so it is of each connector, by the connectors' numbers
pub record AreShared (under : ℕ → ℕ → Bool) (rows : List ConnectorRows) (all : List Shared) : Type 0 where
  pub as_many : length all ≡ length rows
  pub each : (k : ℕ) (s : Shared) → slice_get all k ≡ Some s → IsShared under (is_own rows) k s

-- the connector k has e in `whole`; and it has the head m
abbrev pub has_whole : List Shared → ℕ → ℕ → Bool
has_whole all e k = option_map_or (λ s. has_bit s.whole e) (slice_get all k) false

abbrev pub is_head_at : List Shared → ℕ → ℕ → Bool
is_head_at all m k = option_map_or (λ s. contains s.heads m) (slice_get all k) false

-- these are the rests of so many interactions: what is above each, and not covered by what is of its connector
pub record AreRests (under : ℕ → ℕ → Bool) (interactions : List Interaction) (shared : List Shared) (count : ℕ) (r : Rests) : Type 0 where
  pub as_many : length r.parts.items ≡ count
  pub places : (n k : ℕ) (p : Part) → slice_get (parts_at r.parts.items n) k ≡ Some p → p.place < ROW_WORDS
  pub each : (n m : ℕ) (i : Interaction) (s : Shared) → n < count → slice_get interactions n ≡ Some i → slice_get shared i.connector ≡ Some s → is_in_parts (parts_at r.parts.items n) m ≡ (under n m && not (contains s.covered m))
  pub with_rest : (n : ℕ) → (contains r.with_rest n ≡ true) ↔ ((m : ℕ) × (is_in_parts (parts_at r.parts.items n) m ≡ true))
  pub watched : (m : ℕ) → (contains r.watched m ≡ true) ↔ ((n : ℕ) × (is_in_parts (parts_at r.parts.items n) m ≡ true))

-- an interaction of the connector k is in the rest of one of e
abbrev pub IsInRestOf : (ℕ → ℕ → Bool) → List (Vec Part Global) → ℕ → ℕ → Type 0
IsInRestOf own rest k e = (n : ℕ) × (m : ℕ) × (own e n ≡ true) × (own k m ≡ true) × (is_in_parts (parts_at rest n) m ≡ true)

-- this is where the connector k stands
pub record IsRankBy (under : ℕ → ℕ → Bool) (rows : List ConnectorRows) (shared : List Shared) (rest : List (Vec Part Global)) (k : ℕ) (r : Rank) : Type 0 where
  pub whole : (s : Shared) → slice_get shared k ≡ Some s → r.whole ≡ s.whole
  pub flat : (r.is_flat ≡ true) ↔ ((n m : ℕ) → is_own rows k n ≡ true → is_own rows k m ≡ true → under n m ≡ false)
  pub below_whole : (e : ℕ) → has_bit r.below_whole e ≡ has_whole shared k e
  pub below_rest : (e : ℕ) → (has_bit r.below_rest e ≡ true) ↔ ((e < length rows) × IsInRestOf (is_own rows) rest k e)
