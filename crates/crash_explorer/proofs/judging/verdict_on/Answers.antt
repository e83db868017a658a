use Rattle.std.proofs.Common.{◌≡◌, ℕ, ◌+◌, ◌-◌, List, length, map, None, Some, ◌∙◌, ap, subst, arith}
use Rattle.disk_model.specs.declared.cells.TheConstants.{BODY}
use Rattle.disk_model.specs.Cells.{Cell, cells_of, seen_cells}
use Rattle.disk_model.specs.DiskState.{DiskState, Moment, size_of}
use Rattle.disk_model.specs.MemDisk.{state_of}
use Rattle.disk_model.specs.Moments.{unchanged_from}
use Rattle.plant_image.specs.Contents.{Contents, contents_of, last_number}
use Rattle.plant_image.specs.Faults.{fault_of}
use Rattle.plant_image.specs.Reading.{IsStanding}
use Rattle.plant_image.specs.declared.fault.ImageFault.{ImageFault}
use Rattle.plant_image.specs.declared.standing.Standing.{Standing}
use Rattle.plant_model.specs.Firing.{FiringDefinition}
use Rattle.plant_model.specs.Chosen.{fired_of}
use Rattle.plant_model.specs.Plant.{PlantDefinition}
use Rattle.plant_model.specs.System.{digest_of, plant_of}
use Rattle.crash_explorer.proofs.Fronts.{asks-none}
use Rattle.crash_explorer.proofs.Judged.{judged, wrong-of-fault}
use Rattle.crash_explorer.proofs.judging.verdict_on.Goals as goal

pub returns-in-Ok-clause-verdict : goal.returns-in-Ok-clause-verdict
returns-in-Ok-clause-verdict c =
    let plant : PlantDefinition = plant_of c.args.system.now in
    let digest : List ℕ = digest_of c.args.system.now in
    let old : DiskState = state_of c.args.disk.now in
    let acked : List FiringDefinition = map fired_of c.args.acked.now in
    let tail : List FiringDefinition = map fired_of c.args.tail.now in
    let standing : Standing = c.in-Ok.standing in
    let bytes : c.size-bytes.result ≡ size_of old = c.size-bytes.ensures.size in
    let cells : c.deref.result.now ≡ seen_cells (BODY + 1) old =
    c.deref.ensures.value ∙ c.in_ok-cells.ensures.cells ∙ ap (λ (m : Moment). cells_of (BODY + 1) m.seen) c.size-bytes.ensures.kept.same.now in
    let sound : fault_of plant digest (size_of old) (seen_cells (BODY + 1) old) ≡ None =
    subst (λ (l : List Cell). fault_of plant digest (size_of old) l ≡ None) cells (subst (λ (n : ℕ). fault_of plant digest n c.deref.result.now ≡ None) bytes c.in-Ok.ensures.0) in
    let stands : IsStanding plant (seen_cells (BODY + 1) old) standing = subst (λ (l : List Cell). IsStanding plant l standing) cells c.in-Ok.ensures.1 in
    let many : c.len.result ≡ length standing.held.records.items = omega (arith, c.len.ensures, standing.held.records.ok.0) in
    let last : standing.held.base + c.len.result - 1 ≡ last_number (contents_of (length plant.atoms) (seen_cells (BODY + 1) old)) =
    ap (λ (n : ℕ). standing.held.base + n - 1) many ∙ ap (λ (held : Contents). last_number held) stands.led.contents in
    let iff = judged plant digest (size_of old) acked tail (seen_cells (BODY + 1) old) c.in_ok-right-in-Ok.right standing.states (standing.held.base + c.len.result - 1) sound stands.led.states last c.in_ok-right-in-Ok.ensures in
    (sound, last, iff)

pub returns : goal.returns
returns c =
    let plant : PlantDefinition = plant_of c.args.system.now in
    let digest : List ℕ = digest_of c.args.system.now in
    let old : DiskState = state_of c.args.disk.now in
    let bytes : c.size-bytes.result ≡ size_of old = c.size-bytes.ensures.size in
    let cells : c.deref.result.now ≡ seen_cells (BODY + 1) old =
    c.deref.ensures.value ∙ c.in_ok-cells.ensures.cells ∙ ap (λ (m : Moment). cells_of (BODY + 1) m.seen) c.size-bytes.ensures.kept.same.now in
    let fault : ImageFault = c.in-Err.fault in
    let told : fault_of plant digest c.size-bytes.result c.deref.result.now ≡ Some fault =
    wrong-of-fault (fault_of plant digest c.size-bytes.result c.deref.result.now) fault c.in_default.not-Memory c.in-Err.ensures in
    record {
      verdict = subst (λ (l : List Cell). fault_of plant digest (size_of old) l ≡ Some fault) cells (subst (λ (n : ℕ). fault_of plant digest n c.deref.result.now ≡ Some fault) bytes told);
      kept = record {
        same = unchanged_from old (state_of c.size-bytes.new.disk) (state_of c.load.new.disk) c.size-bytes.ensures.kept.same c.load.ensures.kept.same;
        rest = asks-none c.args.disk.now c.size-bytes.new.disk c.load.new.disk c.size-bytes.ensures.kept.rest c.load.ensures.kept.rest;
        failures = c.load.ensures.kept.failures ∙ c.size-bytes.ensures.kept.failures;
        unfused = c.load.ensures.kept.unfused;
      };
    }
