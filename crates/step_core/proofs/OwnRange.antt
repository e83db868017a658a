-- The words in which the interactions of a connector stand.
use Rattle.std.proofs.Common.{◌≡◌, ℕ, ◌+◌, ◌*◌, ◌/◌, ◌<◌, ◌≤◌, refl, ◌∙◌, length, get_or, nat_lt, arith, true, not}
use Rattle.std.specs.Prelude.{Some, slice_get}
use Rattle.std.specs.FinSet.{contains}
use Rattle.std.proofs.lemmas.Bool.{and_parts, ltb-false, ltb-true, not-true}
use Rattle.std.proofs.lemmas.List.{length-map}
use Rattle.std.proofs.lemmas.Option.{slice_get_read}
use Rattle.connector_tree.specs.Tree.{leaves}
use Rattle.priority_filter.specs.declared.interaction_set.TheConstants.{ROW_WORDS}
use Rattle.plant_model.specs.ConnectorRows.{AreRowsOf, is_of_connector}
use Rattle.plant_model.specs.Plant.{WireDefinition}
use Rattle.plant_model.specs.System.{interactions_in, plant_of}
use Rattle.plant_model.specs.Wire.{wire_of}
use Rattle.plant_model.specs.declared.bound_expressions.BoundExpressions.{BoundExpressions}
use Rattle.plant_model.specs.declared.connector_rows.ConnectorRows.{ConnectorRows}
use Rattle.plant_model.specs.declared.system.System.{System}
use Rattle.plant_model.proofs.ByConnector.{in-own-range, range-within}
use Rattle.step_core.proofs.SystemConnectors.{few-interactions, some-at}

-- its rows stand at its number
pub row-at : (system : System) (k : ℕ) (r : ConnectorRows) → k < length (plant_of system).wires → r ≡ get_or system.connector_rows.items k r → slice_get system.connector_rows.items k ≡ Some r
row-at system k r within is = slice_get_read system.connector_rows.items (length system.connector_rows.items) k r refl (omega (arith, within, system.in_rows.as_many)) is

module _ (system : System) (k : ℕ) (r : ConnectorRows) (within : k < length (plant_of system).wires) (at : slice_get system.connector_rows.items k ≡ Some r) where
  right : (wire : WireDefinition) × (bound : BoundExpressions) × AreRowsOf (interactions_in system) k (length (leaves wire.connector)) bound.clauses.items r
  right =
      let wire = some-at (plant_of system).wires k within in
      let bound = some-at system.bound.items k (omega (arith, within, system.all_bound, length-map system.wires.items wire_of)) in
      (wire.0, bound.0, system.in_rows.each k r wire.0 bound.0 at wire.1 bound.1)

  -- its rows have exactly these
  pub own-of : (n : ℕ) → contains r.own n ≡ is_of_connector (interactions_in system) k n
  own-of = right.2.own

  -- its end is that of an interaction
  pub range-end : r.first + r.count ≤ 1024
  range-end = omega (arith, range-within (interactions_in system) k r (length (leaves right.0.connector)) right.1.clauses.items right.2, few-interactions system)

  -- they stand in the words of its range
  pub in-range : (n : ℕ) → is_of_connector (interactions_in system) k n ≡ true → (r.first ≤ n) × (n < r.first + r.count)
  in-range n own =
      let parts = and_parts (not (nat_lt n r.first)) (nat_lt n (r.first + r.count)) (in-own-range (interactions_in system) k r (length (leaves right.0.connector)) right.1.clauses.items right.2 n ∙ own) in
      (ltb-false n r.first (not-true (nat_lt n r.first) parts.0), ltb-true n (r.first + r.count) parts.1)

  pub in-words : (low high n : ℕ) → low ≡ r.first / 64 → r.first + r.count ≤ 64 * high → is_of_connector (interactions_in system) k n ≡ true → (low ≤ n / 64) × (n / 64 < high)
  in-words low high n is_low is_high own =
      let range = in-range n own in
      (omega (arith, range.0, is_low), omega (arith, range.1, is_high))

  -- which its rows name
  pub own-words : (n : ℕ) → is_of_connector (interactions_in system) k n ≡ true → (r.low ≤ n / 64) × (n / 64 < r.high)
  own-words n own = let range = in-range n own in (omega (arith, range.0, right.2.low), omega (arith, range.1, right.2.high))

  pub few-words : r.high ≤ ROW_WORDS
  few-words = omega (arith, range-end, right.2.high)
