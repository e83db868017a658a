use Rattle.std.proofs.Common.{◌≡◌, ◌<◌, ◌/◌, ℕ, true, false}
use Rattle.std.specs.FinSet.{contains}
use Rattle.plant_model.proofs.connector_judge.has_common.Given as goal

abbrev pub invariant-loop-place : goal.invariant-loop-place
invariant-loop-place l = (n : ℕ) → n / 64 < l.place → contains l.set n ≡ true → contains l.other n ≡ false
