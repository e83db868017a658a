use Rattle.std.proofs.Common.{◌≡◌, ℕ, map, length}
use Rattle.std.specs.Prelude.{Some, slice_get}
use Rattle.connector_tree.specs.Tree.{leaves}
use Rattle.plant_model.specs.ConnectorRows.{AreRowsOf}
use Rattle.plant_model.specs.Interaction.{interaction_of}
use Rattle.plant_model.specs.Plant.{WireDefinition}
use Rattle.plant_model.specs.Wire.{wire_of}
use Rattle.plant_model.specs.declared.bound_expressions.BoundExpressions.{BoundExpressions}
use Rattle.plant_model.specs.declared.connector_rows.ConnectorRows.{ConnectorRows}
use Rattle.plant_model.proofs.connector_rows.connector_rows.Given as goal

abbrev pub invariant-loop-number : goal.invariant-loop-number
invariant-loop-number l =
    (length l.all.items ≡ l.number) ×
    ((k : ℕ) (r : ConnectorRows) (w : WireDefinition) (b : BoundExpressions) → slice_get l.all.items k ≡ Some r → slice_get (map wire_of l.wires) k ≡ Some w → slice_get l.bound k ≡ Some b
    → AreRowsOf (map interaction_of l.interactions) k (length (leaves w.connector)) b.clauses.items r)
