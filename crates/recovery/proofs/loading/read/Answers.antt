use Rattle.std.proofs.Common.{◌≡◌, ℕ, List, None, length, ◌∙◌, subst}
use Rattle.std.proofs.lemmas.Result.{err_from_is_err_and}
use Rattle.disk_model.specs.Cells.{Cell, cells_in, seen_cells}
use Rattle.disk_model.specs.DiskState.{DiskState, size_of}
use Rattle.disk_model.specs.Moments.{seen_length}
use Rattle.plant_model.specs.Plant.{PlantDefinition}
use Rattle.plant_model.specs.System.{plant_of, digest_of}
use Rattle.plant_image.specs.Faults.{fault_of}
use Rattle.plant_image.specs.Reading.{IsStanding, IsFault}
use Rattle.recovery.proofs.PartlyLoaded.{fault_judged, standing_judged}
use Rattle.recovery.proofs.loading.read.Goals as goal

pub returns-in_err-loaded-clause-refused : goal.returns-in_err-loaded-clause-refused
returns-in_err-loaded-clause-refused g c keeps =
    let p = err_from_is_err_and c.from_residual.result c.from_residual.ensures.1 in
    rw (p.1, p.2) (c.in_err-loaded.ensures.silent _)

pub returns-in_err-read_image-clause-refused : goal.returns-in_err-read_image-clause-refused
returns-in_err-read_image-clause-refused g c keeps =
    let p = err_from_is_err_and c.from_residual-in_err-read_image.result c.from_residual-in_err-read_image.ensures.1 in
    let plant : PlantDefinition = plant_of c.args.system.now in
    let digest : List ℕ = digest_of c.args.system.now in
    let old : DiskState = g.C.ReadAsToday.state c.args.cells.now in
    let size : ℕ = g.C.ReadAsToday.bytes_of_cell in
    let given : List Cell = seen_cells size old in
    rw (p.1, p.2) (fault_judged plant digest (g.C.ReadAsToday.todays_bytes (size_of old)) (cells_in size (size_of old)) old.keeps (g.C.ReadAsToday.todays (length plant.atoms) given) c.in_ok-loaded.loaded c.keeps_its_rules.ensures.few
    (g.met.C.ReadAsToday.as_many (length plant.atoms) given ∙ seen_length size old) (g.met.C.ReadAsToday.exact (size_of old)) c.in_ok-loaded.ensures.loaded keeps c.in_err-read_image.field-0.0
    (subst (λ (l : List Cell). IsFault (fault_of plant digest c.in_ok-loaded.loaded.bytes l) c.in_err-read_image.field-0.0) c.deref.ensures.value c.in_err-read_image.ensures))

pub returns-clause-read : goal.returns-clause-read
returns-clause-read g c =
    let plant : PlantDefinition = plant_of c.args.system.now in
    let digest : List ℕ = digest_of c.args.system.now in
    let old : DiskState = g.C.ReadAsToday.state c.args.cells.now in
    let size : ℕ = g.C.ReadAsToday.bytes_of_cell in
    let given : List Cell = seen_cells size old in
    standing_judged plant digest (g.C.ReadAsToday.todays_bytes (size_of old)) (cells_in size (size_of old)) old.keeps (g.C.ReadAsToday.todays (length plant.atoms) given) c.in_ok-loaded.loaded c.keeps_its_rules.ensures.few
    (g.met.C.ReadAsToday.as_many (length plant.atoms) given ∙ seen_length size old) (g.met.C.ReadAsToday.exact (size_of old)) c.in_ok-loaded.ensures.loaded c.in_ok-read_image.field-0
    (subst (λ (l : List Cell). (fault_of plant digest c.in_ok-loaded.loaded.bytes l ≡ None) × IsStanding plant l c.in_ok-read_image.field-0) c.deref.ensures.value c.in_ok-read_image.ensures)
