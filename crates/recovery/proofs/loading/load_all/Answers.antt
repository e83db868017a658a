use Rattle.std.proofs.Common.{false, length, sym, ◌∙◌, ap}
use Rattle.std.proofs.lemmas.Result.{err_from_is_err_and}
use Rattle.disk_model.specs.DiskState.{DiskState, Reads}
use Rattle.disk_model.specs.Reading.{reads_then}
use Rattle.plant_model.specs.Plant.{PlantDefinition}
use Rattle.plant_model.specs.System.{plant_of}
use Rattle.recovery.proofs.PartlyLoaded.{loaded_before, most}
use Rattle.recovery.proofs.loading.load_all.Goals as goal

pub load-requires : goal.load-requires
load-requires g c = c.in_ok-bytes.ensures.size ∙ ap g.C.ReadAsToday.todays_bytes (sym c.in_ok-bytes.ensures.reads.counts.size)

pub returns-in_err-list-clause-reads : goal.returns-in_err-list-clause-reads
returns-in_err-list-clause-reads g c =
    let p = err_from_is_err_and c.from_residual-in_err-list.result c.from_residual-in_err-list.ensures.1 in
    rw (p.1, p.2) (reads_then (g.C.ReadAsToday.state c.args.cells.now) (g.C.ReadAsToday.state c.bytes.new.self) (g.C.ReadAsToday.state c.load.new.cells) c.in_ok-bytes.ensures.reads c.in_err-list.ensures.reads)

pub returns-in_err-list-clause-silent : goal.returns-in_err-list-clause-silent
returns-in_err-list-clause-silent g c found =
    let p = err_from_is_err_and c.from_residual-in_err-list.result c.from_residual-in_err-list.ensures.1 in
    rw (p.1, p.2) (c.in_err-list.ensures.silent found)

pub returns-clause-reads : goal.returns-clause-reads
returns-clause-reads g c = reads_then (g.C.ReadAsToday.state c.args.cells.now) (g.C.ReadAsToday.state c.bytes.new.self) (g.C.ReadAsToday.state c.load.new.cells) c.in_ok-bytes.ensures.reads c.in_ok-list.ensures.reads

pub returns-clause-loaded : goal.returns-clause-loaded
returns-clause-loaded g c =
    let plant : PlantDefinition = plant_of c.args.system.now in
    let old : DiskState = g.C.ReadAsToday.state c.args.cells.now in
    let reads : Reads false old (g.C.ReadAsToday.state c.bytes.new.self) = c.in_ok-bytes.ensures.reads in
    record {
      bytes = c.in_ok-bytes.ensures.size;
      cells = λ keeps. loaded_before g.C.ReadAsToday.bytes_of_cell (most plant) (g.C.ReadAsToday.todays (length plant.atoms)) old (g.C.ReadAsToday.state c.bytes.new.self) c.in_ok-list.list.items reads keeps (c.in_ok-list.ensures.loaded (reads.counts.keeps ∙ keeps));
    }
