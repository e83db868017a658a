use Rattle.std.proofs.Common.{◌+◌, ◌≡◌, ℕ, List, refl, ap, subst}
use Rattle.disk_model.specs.declared.cells.TheConstants.{BODY}
use Rattle.disk_model.specs.Cells.{seen_cells}
use Rattle.disk_model.specs.DiskState.{DiskState, size_of}
use Rattle.disk_model.specs.MemDisk.{state_of}
use Rattle.disk_model.specs.declared.memory.MemDisk.{MemDisk}
use Rattle.plant_image.specs.Faults.{fault_of}
use Rattle.recovery.specs.Booting.{IsBootFault}
use Rattle.recovery.specs.declared.fault.BootFault.{BootFault}
use Rattle.plant_model.specs.Plant.{PlantDefinition}
use Rattle.plant_model.specs.System.{digest_of, plant_of}
use Rattle.crash_explorer.proofs.Judged.{wrong-of-fault}
use Rattle.crash_explorer.proofs.booting.open.Goals as goal

pub returns : goal.returns
returns c =
    let plant : PlantDefinition = plant_of c.args.system.now in
    let digest : List ℕ = digest_of c.args.system.now in
    let same : state_of c.over.result.disk ≡ state_of c.args.disk = ap (λ (m : MemDisk). state_of m) c.over.ensures in
    let s : DiskState = state_of c.args.disk in
    let told : IsBootFault (fault_of plant digest (size_of s) (seen_cells (BODY + 1) s)) c.in-Err.refused.fault =
    subst (λ (d : DiskState). IsBootFault (fault_of plant digest (size_of d) (seen_cells (BODY + 1) d)) c.in-Err.refused.fault) same (c.in-Err.ensures.refused refl) in
    wrong-of-fault (fault_of plant digest (size_of s) (seen_cells (BODY + 1) s)) c.in-Image.fault c.in_default.not-Memory
    (subst (λ (f : BootFault). IsBootFault (fault_of plant digest (size_of s) (seen_cells (BODY + 1) s)) f) c.in-Image.is told)
