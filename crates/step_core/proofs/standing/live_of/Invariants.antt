use Rattle.std.proofs.Common.{◌≡◌, ◌≤◌, ◌<◌, ◌↔◌, ℕ, true, false}
use Rattle.std.specs.FinSet.{contains}
use Rattle.priority_filter.specs.Members.{has_bit}
use Rattle.plant_model.specs.Ranks.{HasRival}
use Rattle.plant_model.specs.System.{interactions_in}
use Rattle.step_core.proofs.standing.live_of.Given as goal

-- of the connectors so far the bits are right, and those of all others are not set
abbrev pub invariant-loop-connector : goal.invariant-loop-connector
invariant-loop-connector l = record {
  right : (k : ℕ) → k < l.connector → (has_bit l.live k ≡ true) ↔ HasRival (interactions_in l.system) (contains l.rivals) k;
  none : (k : ℕ) → l.connector ≤ k → has_bit l.live k ≡ false;
}
