use Rattle.std.proofs.Common.{◌≡◌, ◌<◌, ◌/◌, ℕ, true}
use Rattle.std.specs.FinSet.{contains}
use Rattle.plant_model.proofs.ranks.is_whole_in.Given as goal

-- each of the connector's in the words before the place is in the set
abbrev pub invariant-loop-place : goal.invariant-loop-place
invariant-loop-place l =
    (m : ℕ) → contains l.rows.own m ≡ true → m / 64 < l.place → contains l.set m ≡ true
