-- The rows of a connector: what they say of an interaction of it, by the leaves that take part in all of them.
use Rattle.std.proofs.Common.{◌≡◌, ℕ, ◌<◌, ◌==◌, ◌^◌, ◌+◌, ◌/◌, refl, sym, ◌∙◌, ap, subst, List, length, nat_lt, arith, Bool, true, false, not, ◌&&◌, w64, ⊎_elim}
use Rattle.std.specs.Prelude.{Option, Some, None, bit_and, slice_get}
use Rattle.std.specs.FinSet.{contains}
use Rattle.std.specs.Int.{trailing_zeros}
use Rattle.std.specs.Option.{option_map_or}
use Rattle.std.proofs.lemmas.Bool.{and_from, and_parts, cases_Bool, cases_lt, eqb-true, false≢true, le-ltb, lt-ltb}
use Rattle.std.proofs.lemmas.List.{length-map}
use Rattle.std.proofs.lemmas.Nat.{and_le_r}
use Rattle.std.proofs.lemmas.Option.{slice_get_past, slice_get_within}
use Rattle.connector_tree.specs.Masks.{is_set}
use Rattle.connector_tree.specs.Tree.{leaves}
use Rattle.petri_atom.specs.Local.{Local}
use Rattle.priority_filter.proofs.Words.{bit-and}
use Rattle.plant_model.specs.Choice.{Interaction, is_possible_at}
use Rattle.plant_model.specs.ConnectorRows.{AreByConnector, AreRowsOf, IsOff, is_of_connector, is_with_leaf}
use Rattle.plant_model.specs.ConnectorRows.{is_in_row}
use Rattle.plant_model.specs.Plant.{WireDefinition}
use Rattle.plant_model.specs.Rules.{early_fault, fault_of_order, first_of, late_fault}
use Rattle.plant_model.specs.System.{interactions_in, plant_of}
use Rattle.plant_model.specs.Wire.{wire_of}
use Rattle.plant_model.specs.declared.bound_expressions.BoundExpressions.{BoundExpressions}
use Rattle.plant_model.specs.declared.connector_rows.ConnectorRows.{ConnectorRows}
use Rattle.plant_model.specs.declared.system.System.{System}
use Rattle.plant_model.proofs.ByConnector.{by-connector, in-own-range}
use Rattle.plant_model.proofs.OfConnector.{possible-by-rows}
use Rattle.plant_model.proofs.TreeRules.{early_trees, first_none}
use Rattle.plant_model.proofs.BitsLeft.{lowest-set, no-bit}
use Rattle.step_core.proofs.OfSystem.{some-at}
use Rattle.step_core.proofs.OwnRange.{in-range}

-- the interactions of a system stand in the order of their connectors
pub in-order : (s : System) → AreByConnector (interactions_in s)
in-order s =
    let plant = plant_of s in
    subst AreByConnector (sym s.listed) (by-connector plant (early_trees plant (first_none (early_fault plant) (first_of (late_fault plant) (fault_of_order plant)) s.valid)))

-- two masks that have something in common have a bit in common
pub common-bit : (a b : ℕ) → b < 2 ^ 16 → 0 < bit_and a b → (j : ℕ) × (is_set a j ≡ true) × (is_set b j ≡ true)
common-bit a b small some =
    let both = bit_and a b in
    let low : ℕ = trailing_zeros w64 both in
    let bits = and_parts (is_set a low) (is_set b low) (sym (bit-and a b low) ∙ lowest-set both some (omega (arith, small, and_le_r a b))) in
    (low, bits.0, bits.1)

-- and those that have nothing have none
pub no-common-bit : (a b : ℕ) → bit_and a b ≡ 0 → (j : ℕ) → is_set a j ≡ true → is_set b j ≡ false
no-common-bit a b none j set =
    ⊎_elim
    (λ both. absurd (false≢true (sym (ap (λ w. is_set w j) none ∙ no-bit j) ∙ bit-and a b j ∙ and_from (is_set a j) (is_set b j) set both)))
    (λ no. no)
    (cases_Bool (is_set b j))

module _ (system : System) (k : ℕ) (r : ConnectorRows) (within : k < length (plant_of system).wires) (at : slice_get system.connector_rows.items k ≡ Some r) where
  abbrev all : List Interaction
  all = interactions_in system

  wire : (w : WireDefinition) × (slice_get (plant_of system).wires k ≡ Some w)
  wire = some-at (plant_of system).wires k within

  found : (b : BoundExpressions) × (slice_get system.bound.items k ≡ Some b)
  found = some-at system.bound.items k (omega (arith, within, system.all_bound, length-map system.wires.items wire_of))

  right : AreRowsOf all k (length (leaves wire.0.connector)) found.0.clauses.items r
  right = system.in_rows.each k r wire.0 found.0 at wire.1 found.1

  -- its words begin with that of its first number, and none of its numbers is behind them
  pub low-is : r.low ≡ r.first / 64
  low-is = right.low

  pub high-is : r.high ≡ (r.first + r.count + 63) / 64
  high-is = right.high

  -- the first number is that of one that is there, where there is one
  pub first-own : r.count ≡ 1 → is_of_connector all k r.first ≡ true
  first-own one =
      let end : r.first < r.first + r.count = omega (arith, one) in
      sym (in-own-range all k r (length (leaves wire.0.connector)) found.0.clauses.items right r.first) ∙
      ap (λ b. not b && nat_lt r.first (r.first + r.count)) (le-ltb r.first r.first (omega arith)) ∙ lt-ltb r.first (r.first + r.count) end

  -- two interactions of a connector that has one are the same
  pub only-one : r.count ≡ 1 → (n m : ℕ) → is_of_connector all k n ≡ true → is_of_connector all k m ≡ true → m ≡ n
  only-one one n m own its =
      let first = in-range system k r within at n own in
      let second = in-range system k r within at m its in
      omega (arith, one, first.0, first.1, second.0, second.1)

  -- the leaf of a row that has something is there
  row-within : (n leaf : ℕ) → is_in_row r.on_leaf.items n leaf ≡ true → leaf < length (leaves wire.0.connector)
  row-within n leaf inside =
      ⊎_elim (λ low. low)
      (λ past. absurd (false≢true (sym (ap (λ o. option_map_or (λ row. contains row n) o false) (slice_get_past r.on_leaf.items leaf (omega (arith, past, right.leaves)))) ∙ inside)))
      (cases_lt leaf (length (leaves wire.0.connector)))

  -- ---- by leaves of which some offer nothing

  module _ (states : List Local) (off : ℕ) (leaves_off : IsOff (plant_of system).atoms (plant_of system).wires states k off) where
    abbrev possible : ℕ → Bool
    possible n = is_possible_at (plant_of system).atoms (plant_of system).wires states all n

    -- an interaction of the connector is there
    each-own : (n : ℕ) (b : Bool) → is_of_connector all k n ≡ true → ((i : Interaction) → slice_get all n ≡ Some i → i.connector ≡ k → b ≡ possible n) → b ≡ possible n
    each-own n b own told = each (slice_get all n) refl
      where
        each : (o : Option Interaction) → slice_get all n ≡ o → b ≡ possible n
        each None none = absurd (false≢true (sym (ap (λ o. option_map_or (λ (j : Interaction). j.connector == k) o false) none) ∙ own))
        each (Some i) some = told i some (eqb-true i.connector k (sym (ap (λ o. option_map_or (λ (j : Interaction). j.connector == k) o false) some) ∙ own))

    -- where a leaf that takes part in all of them offers nothing, none is possible
    pub none-possible : (j : ℕ) → is_set off j ≡ true → is_set r.must j ≡ true → (n : ℕ) → is_of_connector all k n ≡ true → possible n ≡ false
    none-possible j set must n own =
        sym (each-own n false own
        (λ i there its.
        possible-by-rows (plant_of system) system.valid system.bound.items system.guarding k wire.0 found.0 wire.1 found.1 all system.listed r right states n i there its ((in-order system).small n i there)
        false
        (λ none _. absurd (false≢true (sym (none j (sym (leaves_off j) ∙ set)) ∙ in_row)))
        (λ _ _ _. refl)
        (λ _ _ _ _ _. refl)))
      where
        in_row : is_in_row r.on_leaf.items n j ≡ true
        in_row = let its = (right.must j).0 must in right.on_leaf j n its.0 ∙ its.1 n own

    -- where none of these offers nothing, and no clause forbids anything, the only one of a connector is possible
    pub one-possible : r.count ≡ 1 → length r.under_clause.items ≡ 0 → ((j : ℕ) → is_set off j ≡ true → is_set r.must j ≡ false) → (n : ℕ) → is_of_connector all k n ≡ true → true ≡ possible n
    one-possible one unguarded none n own =
        each-own n true own
        (λ i there its.
        possible-by-rows (plant_of system) system.valid system.bound.items system.guarding k wire.0 found.0 wire.1 found.1 all system.listed r right states n i there its ((in-order system).small n i there)
        true
        (λ _ _. refl)
        (λ leaf blocked in_row. absurd (false≢true (sym (none leaf (leaves_off leaf ∙ blocked)) ∙ must leaf in_row)))
        (λ j clause written _ _. absurd (omega (arith, slice_get_within found.0.clauses.items j clause written, right.clauses, unguarded))))
      where
        -- a leaf that takes part in it takes part in all
        must : (leaf : ℕ) → is_in_row r.on_leaf.items n leaf ≡ true → is_set r.must leaf ≡ true
        must leaf in_row =
            let low = row-within n leaf in_row in
            (right.must leaf).1 (low, λ m its. ap (is_with_leaf all k leaf) (only-one one n m own its) ∙ sym (right.on_leaf leaf n low) ∙ in_row)
