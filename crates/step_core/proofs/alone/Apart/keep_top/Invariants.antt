use Rattle.std.proofs.Common.{◌≡◌, ◌<◌, ◌≤◌, ◌/◌, ◌*◌, ℕ, length, true, false}
use Rattle.std.specs.Prelude.{slice_index_or}
use Rattle.std.specs.FinSet.{contains}
use Rattle.plant_model.specs.ConnectorRows.{is_of_connector}
use Rattle.plant_model.specs.System.{interactions_in, plant_of}
use Rattle.step_core.specs.ChoicesIn.{choices_in_below}
use Rattle.step_core.specs.Standing.{is_kept_always}
use Rattle.step_core.specs.Weights.{is_kept_of}
use Rattle.step_core.proofs.alone.Apart.keep_top.Given as goal

-- of the words so far the connector's interactions are right, and counted, and all others are as they were
abbrev pub invariant-loop-place : goal.invariant-loop-place
invariant-loop-place l =
    let plant = plant_of l.self.system.now in
    let all = interactions_in l.self.system.now in
    record {
      kept : (n : ℕ) → is_of_connector all l.connector n ≡ true → n / 64 < l.place → contains l.kept n ≡ is_kept_always plant all (contains l.possible) n;
      others : (n : ℕ) → is_of_connector all l.connector n ≡ false → contains l.kept n ≡ contains l.fn.kept n;
      same : l.is_new ≡ false → (n : ℕ) → contains l.kept n ≡ contains l.fn.kept n;
      few : l.count ≤ l.place * 64;
      counted : slice_index_or l.self.leaves.now.many l.connector 0 ≡ 0
          → length (choices_in_below plant.atoms l.self.states.now all (is_kept_of all (is_kept_always plant all (contains l.possible)) l.connector) (64 * l.place)) ≡ l.count;
    }
