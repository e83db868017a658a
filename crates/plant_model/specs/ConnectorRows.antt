-- The interactions of each connector as a range of numbers, and as sets: of each of its leaves those in which that takes part, and of
-- each of its guard clauses those to which that applies.
use Rattle.std.specs.Prelude.{◌≡◌, ◌≤◌, ◌<◌, ◌+◌, ◌/◌, ◌%◌, ◌↔◌, ◌==◌, ◌&&◌, ◌^◌, not, nat_lt, ℕ, Bool, true, false, List, length, Some, slice_get, slice_index}
use Rattle.std.specs.Ordering.{nat_cmp}
use Rattle.std.specs.FinSet.{FinSet, contains}
use Rattle.std.specs.Option.{option_map_or}
use Rattle.petri_atom.specs.Expression.{is_true, value_of}
use Rattle.petri_atom.specs.Local.{Local}
use Rattle.petri_atom.specs.Definition.{AtomDefinition}
use Rattle.connector_tree.specs.Masks.{is_set}
use Rattle.connector_tree.specs.Tree.{leaves}
use Rattle.priority_filter.specs.Members.{has_bit}
use Rattle.priority_filter.specs.declared.interaction_set.TheConstants.{ROW_WORDS}
use Rattle.plant_model.specs.BoundExpressions.{clause_of, has_all}
use Rattle.plant_model.specs.Values.{value_there}
use Rattle.plant_model.specs.Choice.{Interaction, is_offered_port}
use Rattle.plant_model.specs.Plant.{WireDefinition}
use Rattle.plant_model.specs.declared.bound_expressions.BoundExpressions.{BoundExpressions}
use Rattle.plant_model.specs.declared.bound_expressions.Clause.{Clause}
use Rattle.plant_model.specs.declared.connector_rows.ConnectorRows.{ConnectorRows}

-- ---- the interactions of a connector, by their numbers

-- the interaction with a number is there, and of a connector before this one
abbrev pub is_before : List Interaction → ℕ → ℕ → Bool
is_before interactions connector n = option_map_or (λ i. nat_lt i.connector connector) (slice_get interactions n) false

-- it is there, and of the connector
abbrev pub is_of_connector : List Interaction → ℕ → ℕ → Bool
is_of_connector interactions connector n = option_map_or (λ i. i.connector == connector) (slice_get interactions n) false

-- it is there, of the connector, and the leaf takes part in it
abbrev pub is_with_leaf : List Interaction → ℕ → ℕ → ℕ → Bool
is_with_leaf interactions connector leaf n =
    option_map_or (λ i. i.connector == connector && is_set i.mask leaf) (slice_get interactions n) false

-- it is there, of the connector, and each of the leaves takes part in it
abbrev pub is_with_all : List Interaction → ℕ → ℕ → ℕ → Bool
is_with_all interactions connector leaves n =
    option_map_or (λ i. i.connector == connector && has_all i.mask leaves) (slice_get interactions n) false

-- the number is one from a first one on, and before an end
abbrev pub is_from : ℕ → ℕ → ℕ → Bool
is_from first end n = not (nat_lt n first) && nat_lt n end

-- the interaction with a number is there, and each of the leaves takes part in it
abbrev pub has_all_at : List Interaction → ℕ → ℕ → Bool
has_all_at interactions leaves n = option_map_or (λ i. has_all i.mask leaves) (slice_get interactions n) false

-- the leaf takes part in each of the interactions with the numbers from a first one on, and before an end
abbrev pub IsInAll : List Interaction → ℕ → ℕ → ℕ → Type 0
IsInAll interactions first end leaf =
    (n : ℕ) (i : Interaction) → first ≤ n → n < end → slice_get interactions n ≡ Some i → is_set i.mask leaf ≡ true

-- interactions stand in the order of their connectors, and each mask has 16 bits
pub record AreByConnector (interactions : List Interaction) : Type 0 where
  pub rising : (m n : ℕ) (i j : Interaction) → m ≤ n → slice_get interactions m ≡ Some i → slice_get interactions n ≡ Some j → i.connector ≤ j.connector
  pub small : (n : ℕ) (i : Interaction) → slice_get interactions n ≡ Some i → i.mask < 2 ^ 16

-- ---- its rows

-- the interaction is in the row with a place
abbrev pub is_in_row : List (FinSet nat_cmp) → ℕ → ℕ → Bool
is_in_row rows n place = option_map_or (λ row. contains row n) (slice_get rows place) false

-- these are words of rows, one of each: that of the 64 interactions from 64 times a place on, bit k for the one with k after these
pub record AreWordsAt (place : ℕ) (rows : List (FinSet nat_cmp)) (words : List ℕ) : Type 0 where
  pub as_many : length words ≡ length rows
  pub same : (k n : ℕ) → n / 64 ≡ place → has_bit (slice_index words k) (n % 64) ≡ is_in_row rows n k

-- the words of a connector are those of its rows at the place `low`
pub record AreLowWords (r : ConnectorRows) : Type 0 where
  pub own : (n : ℕ) → n / 64 ≡ r.low → has_bit r.low_own (n % 64) ≡ contains r.own n
  pub on_leaf : AreWordsAt r.low r.on_leaf.items r.low_on_leaf.items
  pub under_clause : AreWordsAt r.low r.under_clause.items r.low_under_clause.items

-- these are the rows of the connector with a number, which has so many leaves and these clauses: before its first number stand exactly
-- the interactions of earlier connectors, and before its end those and its own; `own` has these; and there is a row for each leaf and
-- one for each clause. `own` stands in the words of 64 numbers from `low` on and before `high`, and `must` has the leaves that take part in
-- each interaction. Where there is a word `low`, the words are those of the rows there
pub record AreRowsOf (interactions : List Interaction) (connector leaf_count : ℕ) (written : List Clause) (r : ConnectorRows) : Type 0 where
  pub begins : (n : ℕ) → is_before interactions connector n ≡ nat_lt n r.first
  pub ends : (n : ℕ) → is_before interactions (connector + 1) n ≡ nat_lt n (r.first + r.count)
  pub low : r.low ≡ r.first / 64
  pub high : r.high ≡ (r.first + r.count + 63) / 64
  pub own : (n : ℕ) → contains r.own n ≡ is_of_connector interactions connector n
  pub must : (j : ℕ) → (is_set r.must j ≡ true) ↔ ((j < leaf_count) × ((n : ℕ) → is_of_connector interactions connector n ≡ true → is_with_leaf interactions connector j n ≡ true))
  pub leaves : length r.on_leaf.items ≡ leaf_count
  pub on_leaf : (leaf n : ℕ) → leaf < leaf_count → is_in_row r.on_leaf.items n leaf ≡ is_with_leaf interactions connector leaf n
  pub clauses : length r.under_clause.items ≡ length written
  pub under_clause : (k n : ℕ) (clause : Clause) → slice_get written k ≡ Some clause → is_in_row r.under_clause.items n k ≡ is_with_all interactions connector clause.leaves n
  pub low_words : r.low < ROW_WORDS → AreLowWords r

-- there are such rows of each connector, by the connectors' numbers
pub record AreConnectorRows (wires : List WireDefinition) (bound : List BoundExpressions) (interactions : List Interaction) (all : List ConnectorRows) : Type 0 where
  pub as_many : length all ≡ length wires
  pub each : (k : ℕ) (r : ConnectorRows) (w : WireDefinition) (b : BoundExpressions) → slice_get all k ≡ Some r → slice_get wires k ≡ Some w → slice_get bound k ≡ Some b
      → AreRowsOf interactions k (length (leaves w.connector)) b.clauses.items r

-- ---- leaves that offer nothing

-- the leaf of the connector is there, and its port offers nothing
abbrev pub is_leaf_off : List AtomDefinition → List WireDefinition → List Local → ℕ → ℕ → Bool
is_leaf_off atoms wires states connector leaf =
    option_map_or (λ w. option_map_or (λ p. not (is_offered_port atoms states p)) (slice_get (leaves w.connector) leaf) false) (slice_get wires connector) false

-- a word has the bits of exactly these leaves
abbrev pub IsOff : List AtomDefinition → List WireDefinition → List Local → ℕ → ℕ → Type 0
IsOff atoms wires states connector off = (leaf : ℕ) → is_set off leaf ≡ is_leaf_off atoms wires states connector leaf

-- ---- interactions judged by the rows

-- a set is right at some interactions of a connector by its rows: it has those that are in no row of a leaf in `off`, and in no row of a
-- clause that is 0 in a global state; and it is as it was at all others
pub record IsJudged (own : ℕ → Bool) (r : ConnectorRows) (off : ℕ) (clauses : List Clause) (states : List Local) (old new : FinSet nat_cmp) : Type 0 where
  pub put : (n : ℕ) → own n ≡ true
      → ((j : ℕ) → is_set off j ≡ true → is_in_row r.on_leaf.items n j ≡ false)
      → ((k : ℕ) (clause : Clause) → slice_get clauses k ≡ Some clause → is_in_row r.under_clause.items n k ≡ true → is_true (value_of (value_there states) (clause_of clause).value) ≡ true)
      → contains new n ≡ true
  pub blocked : (n j : ℕ) → own n ≡ true → is_set off j ≡ true → is_in_row r.on_leaf.items n j ≡ true → contains new n ≡ false
  pub forbidden : (n k : ℕ) (clause : Clause) → own n ≡ true → slice_get clauses k ≡ Some clause → is_in_row r.under_clause.items n k ≡ true
      → is_true (value_of (value_there states) (clause_of clause).value) ≡ false → contains new n ≡ false
  pub others : (n : ℕ) → own n ≡ false → contains new n ≡ contains old n

-- of the 64 interactions from 64 times a place on a word has those of the connector that are possible by its rows: they are in no row of a
-- leaf in `off`, and in no row of a clause that is 0 in a global state
pub record ArePossibleAt (place : ℕ) (r : ConnectorRows) (off : ℕ) (clauses : List Clause) (states : List Local) (word : ℕ) : Type 0 where
  pub put : (n : ℕ) → n / 64 ≡ place → contains r.own n ≡ true
      → ((j : ℕ) → is_set off j ≡ true → is_in_row r.on_leaf.items n j ≡ false)
      → ((k : ℕ) (clause : Clause) → slice_get clauses k ≡ Some clause → is_in_row r.under_clause.items n k ≡ true → is_true (value_of (value_there states) (clause_of clause).value) ≡ true)
      → has_bit word (n % 64) ≡ true
  pub blocked : (n j : ℕ) → n / 64 ≡ place → is_set off j ≡ true → is_in_row r.on_leaf.items n j ≡ true → has_bit word (n % 64) ≡ false
  pub forbidden : (n k : ℕ) (clause : Clause) → n / 64 ≡ place → slice_get clauses k ≡ Some clause → is_in_row r.under_clause.items n k ≡ true
      → is_true (value_of (value_there states) (clause_of clause).value) ≡ false → has_bit word (n % 64) ≡ false
  pub within : (n : ℕ) → n / 64 ≡ place → contains r.own n ≡ false → has_bit word (n % 64) ≡ false
