use Rattle.std.proofs.Common.{◌≡◌, ◌≤◌, ◌+◌, ◌*◌, ◌^◌, ℕ, length}
use Rattle.std.specs.FinSet.{contains}
use Rattle.plant_model.specs.System.{interactions_in, plant_of}
use Rattle.step_core.specs.ChoicesIn.{choices_in_below}
use Rattle.step_core.specs.Weights.{is_kept_of}
use Rattle.step_core.proofs.LowestBits.{IsRest}
use Rattle.step_core.proofs.weights.Weighing.weight_in.Given as goal

-- the choices of the interactions below one of the 64 are counted, and the bits from it on are left
abbrev pub invariant-loop-left : goal.invariant-loop-left
invariant-loop-left l =
    let atoms = (plant_of l.self.system.now).atoms in
    let states = l.self.states.now in
    let all = interactions_in l.self.system.now in
    let kept = is_kept_of all (contains l.self.kept.now) l.connector in
    (k : ℕ) × (k ≤ 64) × IsRest (λ j. kept (64 * l.place + j)) l.left k × (l.sum ≤ k * 2 ^ 112) ×
    (length (choices_in_below atoms states all kept (64 * l.place + k)) ≡ length (choices_in_below atoms states all kept (64 * l.place)) + l.sum)

abbrev pub decreases-loop-left : goal.decreases-loop-left
decreases-loop-left l = l.left
