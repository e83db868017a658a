use Rattle.std.proofs.Common.{◌≡◌, ℕ, true, false, map}
use Rattle.std.specs.FinSet.{contains}
use Rattle.priority_filter.specs.Members.{has_bit}
use Rattle.plant_model.specs.ConnectorRows.{is_of_connector}
use Rattle.plant_model.specs.Interaction.{interaction_of}
use Rattle.step_core.proofs.sure.interactions_of.Given as goal

-- the interactions of the connectors that are not left are in
abbrev pub invariant-loop-left : goal.invariant-loop-left
invariant-loop-left l = record {
  part : (k : ℕ) → has_bit l.left k ≡ true → has_bit l.connectors k ≡ true;
  put : (n k : ℕ) → is_of_connector (map interaction_of l.system.interactions.items) k n ≡ true → has_bit l.connectors k ≡ true → has_bit l.left k ≡ false → contains l.all n ≡ true;
}

abbrev pub decreases-loop-left : goal.decreases-loop-left
decreases-loop-left l = l.left
