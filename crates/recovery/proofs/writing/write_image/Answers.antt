use Rattle.std.proofs.Common.{◌∙◌, ◌+◌, inl}
use Rattle.disk_model.specs.Reading.{reads_leave}
use Rattle.plant_model.specs.System.{digest_of, plant_of}
use Rattle.disk_model.specs.declared.cells.TheConstants.{BODY}
use Rattle.recovery.specs.Writing.{IsWriting}
use Rattle.recovery.proofs.WrittenCells.{asked_leaves}
use Rattle.recovery.proofs.writing.write_image.Goals as goal

pub returns-in_default-clause-stops : goal.returns-in_default-clause-stops
returns-in_default-clause-stops g c keeps =
    reads_leave (BODY + 1) (IsWriting (plant_of c.args.system.now) (digest_of c.args.system.now) c.args.states.now c.args.number c.args.cells.now) c.args.cells.now c.size.new.self c.size.ensures.reads keeps (λ cells may. inl may)

pub returns-then-size-cells_for-clause-stops : goal.returns-then-size-cells_for-clause-stops
returns-then-size-cells_for-clause-stops g c keeps =
    reads_leave (BODY + 1) (IsWriting (plant_of c.args.system.now) (digest_of c.args.system.now) c.args.states.now c.args.number c.args.cells.now) c.args.cells.now c.size.new.self c.in-Ok.ensures.reads keeps (λ cells may. inl may)

pub returns-in-Ok-write_cells-clause-stops : goal.returns-in-Ok-write_cells-clause-stops
returns-in-Ok-write_cells-clause-stops g c keeps =
    asked_leaves (plant_of c.args.system.now) (digest_of c.args.system.now) c.args.states.now c.args.number c.args.cells.now c.size.new.self c.write_cells.new.cells c.in-Ok.ensures.reads keeps
    (c.write_cells.ensures.stops (c.in-Ok.ensures.reads.counts.keeps ∙ keeps))

pub returns-in-Err-clause-stops : goal.returns-in-Err-clause-stops
returns-in-Err-clause-stops g c keeps =
    asked_leaves (plant_of c.args.system.now) (digest_of c.args.system.now) c.args.states.now c.args.number c.args.cells.now c.size.new.self c.write_cells.new.cells c.in-Ok.ensures.reads keeps
    (c.write_cells.ensures.stops (c.in-Ok.ensures.reads.counts.keeps ∙ keeps))
