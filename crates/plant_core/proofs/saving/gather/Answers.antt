use Rattle.std.proofs.Common.{◌≡◌, ◌+◌, ◌++◌, ℕ, List, Option, sym, ◌∙◌, ap, subst, true, false}
use Rattle.std.specs.Option.{option_to_list}
use Rattle.std.proofs.lemmas.List.{map-append}
use Rattle.petri_atom.specs.Local.{Local}
use Rattle.disk_model.specs.Cells.{Cell, seen_cells}
use Rattle.disk_model.specs.DiskState.{DiskState}
use Rattle.disk_model.specs.Reading.{reads_seen, reads_then}
use Rattle.disk_model.specs.declared.cells.TheConstants.{BODY}
use Rattle.record_codec.specs.Saved.{SavedFields}
use Rattle.snapshot_writer.specs.Batches.{SlottedFields}
use Rattle.step_executor.specs.Executing.{committed_in, plant_in}
use Rattle.plant_core.specs.Invariant.{AreNextSlots}
use Rattle.plant_core.specs.Saves.{batch_of, to_other_slot}
use Rattle.plant_core.specs.Snapshots.{copies_below, copy_if_behind}
use Rattle.plant_core.proofs.Behind.{below-more, below-within}
use Rattle.plant_core.proofs.SavedAll.{state-of}
use Rattle.plant_core.proofs.saving.gather.Goals as goal

pub add_if_behind-requires-clause-known : goal.add_if_behind-requires-clause-known
add_if_behind-requires-clause-known g c = λ keeps.
    let old : DiskState = c.args.cells.now in
    let mid : DiskState = c.loop-atom.cells in
    let kept : old.keeps ≡ true = sym c.loop-atom.invariant.reads.counts.keeps ∙ keeps in
    subst (AreNextSlots (plant_in c.args.executor.now) c.args.snapshots.now.next_slots) (sym (reads_seen (BODY + 1) old mid c.loop-atom.invariant.reads kept)) (c.requires.known kept)

pub add_if_behind-requires-clause-rises : goal.add_if_behind-requires-clause-rises
add_if_behind-requires-clause-rises g c i s at =
    let known = c.args.snapshots.now.saved in
    let counts : List ℕ = c.args.counts.now in
    let states : List Local = committed_in c.args.executor.now in
    let n : ℕ = c.loop-atom.atom in
    below-within known counts c.args.number states n i s.saved (state-of c.loop-atom.batch (copies_below known counts c.args.number states n) c.loop-atom.invariant.states i s at)

pub loop-atom-preserved : goal.loop-atom-preserved
loop-atom-preserved g c =
    let known = c.args.snapshots.now.saved in
    let counts : List ℕ = c.args.counts.now in
    let states : List Local = committed_in c.args.executor.now in
    let n : ℕ = c.loop-atom.atom in
    let old : DiskState = c.args.cells.now in
    let mid : DiskState = c.loop-atom.cells in
    let one : List SavedFields = option_to_list (copy_if_behind known counts c.args.number states n) in
    let before : List Cell = seen_cells (BODY + 1) old in
    let did = c.in_ok-add_if_behind.ensures in
    record {
      states = did.states ∙ ap (λ (l : List SavedFields). l ++ one) c.loop-atom.invariant.states ∙ sym (below-more known counts c.args.number states n);
      batch = λ keeps.
          did.batch (c.loop-atom.invariant.reads.counts.keeps ∙ keeps) ∙
          ap (λ (cells : List Cell). c.loop-atom.batch ++ batch_of cells one) (reads_seen (BODY + 1) old mid c.loop-atom.invariant.reads keeps) ∙
          ap (λ (b : List SlottedFields). b ++ batch_of before one) (c.loop-atom.invariant.batch keeps) ∙
          sym (map-append (to_other_slot before) (copies_below known counts c.args.number states n) one) ∙
          sym (ap (batch_of before) (below-more known counts c.args.number states n));
      small = c.add_if_behind.ensures.small;
      reads = reads_then {failed = false} old mid c.add_if_behind.new.cells c.loop-atom.invariant.reads did.reads;
    }
