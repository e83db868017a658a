use Rattle.std.proofs.Common.{◌≡◌, ◌<◌, ◌/◌, ℕ, true, false}
use Rattle.std.specs.FinSet.{contains}
use Rattle.plant_model.specs.ConnectorRows.{is_of_connector}
use Rattle.plant_model.specs.System.{interactions_in}
use Rattle.step_core.proofs.standing.has_rival.Given as goal

-- of the words so far no interaction of the connector is a rival
abbrev pub invariant-loop-place : goal.invariant-loop-place
invariant-loop-place l = (n : ℕ) → is_of_connector (interactions_in l.system) l.connector n ≡ true → n / 64 < l.place → contains l.rivals n ≡ false
