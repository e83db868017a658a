use Rattle.std.proofs.Common.{◌≡◌, ◌≤◌, ◌<◌, ◌/◌, ℕ, length, true, false}
use Rattle.std.specs.FinSet.{contains}
use Rattle.priority_filter.specs.Members.{has_bit}
use Rattle.plant_model.specs.ConnectorRows.{is_of_connector}
use Rattle.plant_model.specs.System.{interactions_in, plant_of}
use Rattle.step_core.proofs.choices.keep.Given as goal

-- of the words so far, what is kept of a connector that is not told is what was
abbrev pub invariant-loop-place : goal.invariant-loop-place
invariant-loop-place l =
    ((k : ℕ) → length (plant_of l.system).wires ≤ k → has_bit l.changed k ≡ false) ×
    ((n k : ℕ) → n / 64 < l.place → is_of_connector (interactions_in l.system) k n ≡ true → has_bit l.changed k ≡ false → contains l.kept n ≡ contains l.fn.kept n)
