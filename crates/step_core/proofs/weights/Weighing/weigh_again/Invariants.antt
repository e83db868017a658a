use Rattle.std.proofs.Common.{◌≡◌, ◌≤◌, ◌+◌, ◌^◌, ℕ, false}
use Rattle.std.specs.Prelude.{slice_index_or}
use Rattle.std.specs.FinSet.{contains}
use Rattle.priority_filter.specs.Members.{has_bit}
use Rattle.plant_model.specs.System.{interactions_in, plant_of}
use Rattle.step_core.specs.Weights.{AreSums, weight_of}
use Rattle.step_core.proofs.LowestBits.{IsRest}
use Rattle.step_core.proofs.Weighed.{lighter}
use Rattle.step_core.proofs.weights.Weighing.weigh_again.Given as goal

-- the connectors from one on are left of those to be weighed, and all others are weighed; those before it have added no more than
-- what they weigh
abbrev pub invariant-loop-left : goal.invariant-loop-left
invariant-loop-left l =
    let atoms = (plant_of l.self.system.now).atoms in
    let all = interactions_in l.self.system.now in
    (k : ℕ) × (k ≤ 64) × IsRest (has_bit l.heavy) l.left k ×
    ((j : ℕ) → has_bit l.left j ≡ false → slice_index_or l.weights.of_connectors j 0 ≡ weight_of atoms l.self.states.now all (contains l.self.kept.now) j) ×
    AreSums l.weights × (l.weights.total ≤ 2 ^ 122 + lighter atoms l.self.states.now all (contains l.self.kept.now) k)

abbrev pub decreases-loop-left : goal.decreases-loop-left
decreases-loop-left l = l.left
