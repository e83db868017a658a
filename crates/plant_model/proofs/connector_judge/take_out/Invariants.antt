use Rattle.std.proofs.Common.{◌≡◌, ◌<◌, ◌≤◌, ◌/◌, ◌&&◌, not, ℕ}
use Rattle.std.specs.FinSet.{contains}
use Rattle.plant_model.proofs.connector_judge.take_out.Given as goal

abbrev pub invariant-loop-place : goal.invariant-loop-place
invariant-loop-place l =
    ((n : ℕ) → n / 64 < l.place → contains l.from n ≡ (contains l.fn.from n && not (contains l.set n))) ×
    ((n : ℕ) → l.place ≤ n / 64 → contains l.from n ≡ contains l.fn.from n)
