use Rattle.std.proofs.Common.{◌≡◌, ◌<◌, ◌/◌, ◌&&◌, not, ℕ, true, false}
use Rattle.std.specs.FinSet.{contains}
use Rattle.plant_model.specs.ConnectorRows.{is_of_connector}
use Rattle.plant_model.specs.System.{interactions_in, plant_of}
use Rattle.step_core.specs.Standing.{is_always_overruled}
use Rattle.step_core.proofs.keeping.Keeping.keep_connector.Given as goal

-- of the words so far the connector's interactions are right, and all others are as they were
abbrev pub invariant-loop-place : goal.invariant-loop-place
invariant-loop-place l = record {
  kept : (n : ℕ) → is_of_connector (interactions_in l.self.system.now) l.connector n ≡ true → n / 64 < l.place
      → contains l.kept n ≡ (contains l.self.possible.now n && not (is_always_overruled (plant_of l.self.system.now) (interactions_in l.self.system.now) (contains l.self.rivals.now) n));
  others : (n : ℕ) → is_of_connector (interactions_in l.self.system.now) l.connector n ≡ false → contains l.kept n ≡ contains l.fn.kept n;
  same : l.is_new ≡ false → (n : ℕ) → contains l.kept n ≡ contains l.fn.kept n;
}
