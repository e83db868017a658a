use Rattle.std.proofs.Common.{rules, ◌≡◌, ◌+◌, ℕ, Bool, true, false, ◌∙◌, is_some, arith}
use Rattle.disk_model.specs.Cells.{seen_cells}
use Rattle.disk_model.specs.Reading.{reads_seen, reads_then}
use Rattle.disk_model.specs.declared.cells.TheConstants.{BODY}
use Rattle.record_codec.specs.Ring.{record_cell}
use Rattle.image_backup.proofs.Counting.{holds_then, live_ends, live_goes, record_at}
use Rattle.image_backup.proofs.records.live_records.Goals as goal

pub returns-then-not-branch-clause-live : goal.returns-then-not-branch-clause-live
returns-then-not-branch-clause-live g c keeps =
    let held : Bool = c.in_ok-holds_record.field-0 in
    let fails : held ≡ false = search rules in
    let none : is_some (record_at (seen_cells (BODY + 1) c.args.cells.now) (record_cell c.args.atoms c.args.ring) c.loop-number.number) ≡ held =
    holds_then held (seen_cells (BODY + 1) c.args.cells.now) (seen_cells (BODY + 1) c.loop-number.cells) (record_cell c.args.atoms c.args.ring) c.loop-number.number c.record_cell.result
    (reads_seen (BODY + 1) c.args.cells.now c.loop-number.cells c.loop-number.invariant.reads keeps) c.record_cell.ensures
    (c.in_ok-holds_record.ensures.holds (c.loop-number.invariant.reads.counts.keeps ∙ keeps)) in
    live_ends (seen_cells (BODY + 1) c.args.cells.now) (record_cell c.args.atoms c.args.ring) c.args.base c.loop-number.number (c.args.base + c.args.ring) c.args.ring (omega arith) (none ∙ fails)
    (c.loop-number.invariant.live keeps)

pub loop-number-preserved : goal.loop-number-preserved
loop-number-preserved g c =
    let held : Bool = c.in_ok-holds_record.field-0 in
    let holds : held ≡ true = search rules in
    record {
      reads = reads_then c.args.cells.now c.loop-number.cells c.holds_record.new.cells c.loop-number.invariant.reads c.in_ok-holds_record.ensures.reads;
      live = λ keeps.
          let there : is_some (record_at (seen_cells (BODY + 1) c.args.cells.now) (record_cell c.args.atoms c.args.ring) c.loop-number.number) ≡ held =
          holds_then held (seen_cells (BODY + 1) c.args.cells.now) (seen_cells (BODY + 1) c.loop-number.cells) (record_cell c.args.atoms c.args.ring) c.loop-number.number c.record_cell.result
          (reads_seen (BODY + 1) c.args.cells.now c.loop-number.cells c.loop-number.invariant.reads keeps) c.record_cell.ensures
          (c.in_ok-holds_record.ensures.holds (c.loop-number.invariant.reads.counts.keeps ∙ keeps)) in
          live_goes (seen_cells (BODY + 1) c.args.cells.now) (record_cell c.args.atoms c.args.ring) c.args.base c.loop-number.number (c.args.base + c.args.ring) c.args.ring (omega arith) (omega arith) (there ∙ holds)
          (c.loop-number.invariant.live keeps);
    }
