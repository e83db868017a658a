use Rattle.std.proofs.Common.{◌≡◌, ◌<◌, ◌≤◌, ◌/◌, ℕ}
use Rattle.std.specs.FinSet.{contains}
use Rattle.plant_model.proofs.connector_judge.differ.Given as goal

abbrev pub invariant-loop-place : goal.invariant-loop-place
invariant-loop-place l = (n : ℕ) → l.low ≤ n / 64 → n / 64 < l.place → contains l.one n ≡ contains l.other n
