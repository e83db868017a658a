use Rattle.std.proofs.Common.{◌≡◌, ◌≤◌, ◌+◌, ◌*◌, ℕ}
use Rattle.std.specs.Prelude.{slice_get}
use Rattle.std.specs.FinSet.{contains}
use Rattle.plant_model.specs.System.{interactions_in, plant_of}
use Rattle.step_core.specs.ChoicesIn.{choices_in_from}
use Rattle.step_core.specs.Weights.{is_kept_of}
use Rattle.step_core.proofs.LowestBits.{IsRest}
use Rattle.step_core.proofs.weights.Weighing.found_in.Given as goal

-- the entry stands among the choices of the interactions from one of the 64 on, whose bits are left
abbrev pub invariant-loop-bits : goal.invariant-loop-bits
invariant-loop-bits l =
    let atoms = (plant_of l.self.system.now).atoms in
    let states = l.self.states.now in
    let all = interactions_in l.self.system.now in
    let kept = is_kept_of all (contains l.self.kept.now) l.connector in
    (k : ℕ) × (k ≤ 64) × IsRest (λ j. kept (64 * l.at + j)) l.bits k ×
    (slice_get (choices_in_from atoms states all kept (64 * l.at)) l.place ≡ slice_get (choices_in_from atoms states all kept (64 * l.at + k)) l.left)

abbrev pub decreases-loop-bits : goal.decreases-loop-bits
decreases-loop-bits l = l.bits
