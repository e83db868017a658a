use Rattle.std.proofs.Common.{◌≡◌, ◌+◌, Some, subst, sym}
use Rattle.disk_model.specs.Cells.{seen_cells}
use Rattle.disk_model.specs.DiskState.{size_of}
use Rattle.disk_model.specs.declared.cells.TheConstants.{BODY}
use Rattle.step_executor.specs.Executing.{committed_in, jobs_in, plant_in, states_in}
use Rattle.plant_core.specs.Events.{copy_in}
use Rattle.plant_core.specs.Invariant.{AreNextSlots, AreOnTheWay, FitsTogether, IsAtRest, IsFrontOf}
use Rattle.plant_core.specs.Plants.{text_digest, view_of}
use Rattle.plant_core.specs.Snapshots.{SnapshotFields, with_copy}
use Rattle.plant_core.specs.View.{view_by}
use Rattle.plant_core.proofs.Copies.{ways-asked}
use Rattle.plant_core.proofs.Noted.{asked-fits}
use Rattle.plant_core.proofs.plant.Plant.keep_copy.Goals as goal

pub invariant_of-self : goal.invariant_of-self
invariant_of-self g c =
    let self = c.args.self.now in
    let plant = plant_in self.executor in
    let v = view_of self in
    let saved = c.copy_of-copy.result in
    let is : copy_in v c.args.atom ≡ Some saved = c.copy_of-copy.ensures in
    let kept : c.keep.new.self ≡ with_copy saved self.snapshots = c.keep.ensures in
    record {
      fits_together = subst (λ (s : SnapshotFields). FitsTogether plant (view_by (committed_in self.executor) self.acked_counts self.number self.tail.items (states_in self.executor) self.counts self.journal self.marks.items s (jobs_in self.executor) self.broken) self.bodies.items) (sym kept)
          (asked-fits plant v self.bodies.items self.fits_together c.args.atom saved is self.executor.fits c.requires.new);
      room_of_tail = self.room_of_tail;
      room_of_bodies = self.room_of_bodies;
      room_of_marks = self.room_of_marks;
      of_journal = self.of_journal;
      at_rest = λ keeps whole. subst (λ (s : SnapshotFields). IsAtRest plant (text_digest self) self.journal (committed_in self.executor) self.acked_counts self.number s.saved self.cells) (sym kept) (self.at_rest keeps whole);
      slots_known = λ keeps whole. subst (λ (s : SnapshotFields). AreNextSlots plant s.next_slots (seen_cells (BODY + 1) self.cells)) (sym kept) (self.slots_known keeps whole);
      marked = self.marked;
      on_the_way = λ keeps whole. subst (λ (s : SnapshotFields). AreOnTheWay plant (view_by (committed_in self.executor) self.acked_counts self.number self.tail.items (states_in self.executor) self.counts self.journal self.marks.items s (jobs_in self.executor) self.broken) (seen_cells (BODY + 1) self.cells)) (sym kept)
          (ways-asked plant v self.bodies.items self.fits_together (seen_cells (BODY + 1) self.cells) (self.at_rest keeps whole).leads (self.on_the_way keeps whole) c.args.atom saved is);
      at_a_stop = λ keeps image may.
          let front : IsFrontOf plant (text_digest self) (size_of self.cells) v image = self.at_a_stop keeps image may in
          record { from = front.from; to = front.to; stands = front.stands };
    }
