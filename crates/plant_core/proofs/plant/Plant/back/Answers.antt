use Rattle.std.proofs.Common.{◌≡◌, ◌+◌, sym, ◌∙◌, ap, subst}
use Rattle.disk_model.specs.Cells.{seen_cells}
use Rattle.disk_model.specs.DiskState.{size_of}
use Rattle.disk_model.specs.declared.cells.TheConstants.{BODY}
use Rattle.plant_model.specs.System.{digest_of, plant_of}
use Rattle.plant_model.specs.declared.system.System.{System}
use Rattle.step_executor.specs.Executing.{committed_in, jobs_in, plant_in, states_in}
use Rattle.plant_core.specs.Invariant.{AreMarked, AreNextSlots, AreOnTheWay, FitsTogether, IsAtRest, IsFrontOf, IsJournalOf}
use Rattle.plant_core.specs.Plants.{text_digest, view_of}
use Rattle.plant_core.specs.View.{view_by, with_away}
use Rattle.plant_core.proofs.Firing.{away-fits, away-front}
use Rattle.plant_core.proofs.plant.Plant.back.Goals as goal

-- whatever is answered, only the jobs that are kept may have changed
pub invariant_of-self : goal.invariant_of-self
invariant_of-self g c =
    let self = c.args.self.now in
    let plant = plant_in self.executor in
    let v = view_of self in
    let run = c.back.new.self in
    let out = jobs_in run in
    let same = c.back.ensures.plant in
    let system = c.back.ensures.system in
    let seen = view_by (committed_in run) self.acked_counts self.number self.tail.items (states_in run) self.counts self.journal self.marks.items self.snapshots out self.broken in
    let view : seen ≡ with_away out v =
    ap (λ states. view_by states self.acked_counts self.number self.tail.items (states_in run) self.counts self.journal self.marks.items self.snapshots out self.broken) c.back.ensures.committed ∙
    ap (λ states. view_by (committed_in self.executor) self.acked_counts self.number self.tail.items states self.counts self.journal self.marks.items self.snapshots out self.broken) c.back.ensures.states in
    record {
      fits_together = subst (λ p. FitsTogether p seen self.bodies.items) (sym same)
          (subst (λ w. FitsTogether plant w self.bodies.items) (sym view) (away-fits plant v self.bodies.items out self.fits_together));
      room_of_tail = self.room_of_tail;
      room_of_bodies = self.room_of_bodies;
      room_of_marks = self.room_of_marks;
      of_journal = subst (λ p. IsJournalOf p self.number self.journal self.cells) (sym same) self.of_journal;
      at_rest = λ keeps whole. subst (λ (s : System). IsAtRest (plant_of s) (digest_of s) self.journal (committed_in run) self.acked_counts self.number self.snapshots.saved self.cells) (sym system)
          (subst (λ states. IsAtRest plant (text_digest self) self.journal states self.acked_counts self.number self.snapshots.saved self.cells) (sym c.back.ensures.committed) (self.at_rest keeps whole));
      slots_known = λ keeps whole. subst (λ p. AreNextSlots p self.snapshots.next_slots (seen_cells (BODY + 1) self.cells)) (sym same) (self.slots_known keeps whole);
      marked = λ keeps whole. subst (λ p. AreMarked p seen (seen_cells (BODY + 1) self.cells)) (sym same)
          (subst (λ w. AreMarked plant w (seen_cells (BODY + 1) self.cells)) (sym view) (self.marked keeps whole));
      on_the_way = λ keeps whole. subst (λ p. AreOnTheWay p seen (seen_cells (BODY + 1) self.cells)) (sym same)
          (subst (λ w. AreOnTheWay plant w (seen_cells (BODY + 1) self.cells)) (sym view) (self.on_the_way keeps whole));
      at_a_stop = λ keeps image may. subst (λ (s : System). IsFrontOf (plant_of s) (digest_of s) (size_of self.cells) seen image) (sym system)
          (subst (λ w. IsFrontOf plant (text_digest self) (size_of self.cells) w image) (sym view) (away-front plant (text_digest self) (size_of self.cells) v out image (self.at_a_stop keeps image may)));
    }
