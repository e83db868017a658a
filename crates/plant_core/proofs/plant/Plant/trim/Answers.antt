use Rattle.std.proofs.Common.{◌≡◌, ℕ, ◌+◌, ◌≤◌, ◌∙◌, ap, subst, sym, refl, List, drop, arith, vec_capacity, Bool, true, false, if◌then◌else◌}
use Rattle.std.specs.Result.{is_ok}
use Rattle.std.proofs.lemmas.Bool.{false≢true}
use Rattle.disk_model.specs.Cells.{Leaves, cells_in, seen_cells}
use Rattle.disk_model.specs.DiskState.{size_of}
use Rattle.disk_model.specs.Moments.{leaves_now, leaves_start}
use Rattle.disk_model.specs.declared.cells.TheConstants.{BODY}
use Rattle.gated_journal.specs.Rings.{cells_of_ring}
use Rattle.gated_journal.specs.Stops.{HasMoved, IsMovedOrNot, moved}
use Rattle.gated_journal.specs.declared.ring.Ring.{Ring}
use Rattle.step_executor.specs.Executing.{committed_in, jobs_in, plant_in, states_in, system_in}
use Rattle.plant_model.specs.System.{digest_of}
use Rattle.trimmer.specs.Covered.{MarkFields}
use Rattle.plant_core.specs.Invariant.{AreMarked, AreOnTheWay, FitsTogether, IsAtRest, IsJournalOf}
use Rattle.plant_core.specs.Plants.{view_of}
use Rattle.plant_core.specs.Stops.{StandsForAcked}
use Rattle.plant_core.specs.View.{view_by, with_cut}
use Rattle.plant_core.proofs.Answered.{err-where, ok-has, ok-where}
use Rattle.plant_core.proofs.AtRest.{acked-front, acked-now, front-of, rest-front, stands-now}
use Rattle.plant_core.proofs.Flushing.{journal-of-failed, noted-fits}
use Rattle.plant_core.proofs.NextSlots.{slots-moved}
use Rattle.plant_core.proofs.Trimmed.{cut-fits, go-within, gone-marked, gone-rest, gone-stops, gone-ways}
use Rattle.plant_core.proofs.plant.Plant.trim.Goals as goal

-- nothing may go
pub returns-then-count-eq0-clause-stops : goal.returns-then-count-eq0-clause-stops
returns-then-count-eq0-clause-stops g c = λ keeps whole.
    let self = c.args.self.now in
    let plant = plant_in self.executor in
    let digest = digest_of (system_in self.executor) in
    leaves_start (BODY + 1) (StandsForAcked plant digest (size_of self.cells) (view_of self)) self.cells
    (λ cells may. stands-now plant digest self.journal (committed_in self.executor) self.acked_counts self.number self.snapshots.saved self.cells (self.at_rest keeps whole) cells may)

pub overflow_add-base : goal.overflow_add-base
overflow_add-base g c =
    let self = c.args.self.now in
    omega (arith, c.covered-count.ensures, go-within (view_of self), self.fits_together.base_to, self.fits_together.last_to, c.base.ensures.number)

pub move_base-requires-clause-within : goal.move_base-requires-clause-within
move_base-requires-clause-within g c =
    let self = c.args.self.now in
    omega (arith, c.covered-count.ensures, go-within (view_of self), self.fits_together.base_to, self.of_journal.last, c.base.ensures.number)

pub drop_first-requires : goal.drop_first-requires
drop_first-requires g c =
    let self = c.args.self.now in
    omega (arith, c.covered-count.ensures, go-within (view_of self), self.fits_together.base_to, self.fits_together.marks_many)

-- the device failed
pub returns-then-is_err-clause-stops : goal.returns-then-is_err-clause-stops
returns-then-is_err-clause-stops g c = λ keeps whole.
    let self = c.args.self.now in
    let count : ℕ = c.covered-count.result in
    gone-stops (plant_in self.executor) (view_of self) self.bodies.items self.fits_together (digest_of (system_in self.executor)) self.journal self.cells (self.at_rest keeps whole) (self.marked keeps whole) refl count c.covered-count.ensures (omega (arith, c.if-count-eq0.false)) c.move_base.new.cells
    (subst (λ (n : ℕ). Leaves (BODY + 1) (IsMovedOrNot (n + count) self.journal (seen_cells (BODY + 1) self.cells)) self.cells c.move_base.new.cells) c.base.ensures.number (c.move_base.ensures.leaves keeps))

pub invariant_of-self : goal.invariant_of-self
invariant_of-self g c =
    let self = c.args.self.now in
    let plant = plant_in self.executor in
    let digest = digest_of (system_in self.executor) in
    let v = view_of self in
    let count : ℕ = c.covered-count.result in
    let new = c.move_base.new.cells in
    let j = c.move_base.new.self in
    let failed : is_ok c.move_base.result ≡ false = err-where c.move_base.result (sym c.is_err.ensures.value ∙ c.if-is_err.true) in
    let journal : j ≡ self.journal = c.move_base.ensures.journal ∙ ap (λ (b : Bool). if b then moved (c.base.result + count) self.journal else self.journal) failed in
    record {
      fits_together = subst (λ (r : Ring). FitsTogether plant (view_by (committed_in self.executor) self.acked_counts self.number self.tail.items (states_in self.executor) self.counts r self.marks.items self.snapshots (jobs_in self.executor) true) self.bodies.items) (sym journal)
          (noted-fits plant v self.bodies.items self.snapshots.saved self.snapshots.kept true self.fits_together.snapshots self.fits_together);
      room_of_tail = self.room_of_tail;
      room_of_bodies = self.room_of_bodies;
      room_of_marks = subst (λ (r : Ring). r.ring ≤ vec_capacity self.marks) (sym journal) self.room_of_marks;
      of_journal = journal-of-failed plant self.number self.journal j self.cells new journal c.move_base.ensures.counts.size self.of_journal;
      at_rest = λ keeps whole. absurd (false≢true (sym whole));
      slots_known = λ keeps whole. absurd (false≢true (sym whole));
      marked = λ keeps whole. absurd (false≢true (sym whole));
      on_the_way = λ keeps whole. absurd (false≢true (sym whole));
      at_a_stop = λ keeps image may.
          let kept : self.cells.keeps ≡ true = sym c.move_base.ensures.counts.keeps ∙ keeps in
          let stops = gone-stops plant v self.bodies.items self.fits_together digest self.journal self.cells (self.at_rest kept c.if-self.false) (self.marked kept c.if-self.false) refl count c.covered-count.ensures (omega (arith, c.if-count-eq0.false)) new
          (subst (λ (n : ℕ). Leaves (BODY + 1) (IsMovedOrNot (n + count) self.journal (seen_cells (BODY + 1) self.cells)) self.cells new) c.base.ensures.number (c.move_base.ensures.leaves kept)) in
          front-of plant digest (size_of new) (view_by (committed_in self.executor) self.acked_counts self.number self.tail.items (states_in self.executor) self.counts j self.marks.items self.snapshots (jobs_in self.executor) true) image
          (acked-front plant digest (size_of new) v image
          (subst (λ (bytes : ℕ). StandsForAcked plant digest bytes v image) (sym c.move_base.ensures.counts.size)
          (leaves_now (BODY + 1) (StandsForAcked plant digest (size_of self.cells) v) self.cells new stops image may)));
    }

-- the records are dropped
pub returns-clause-stops : goal.returns-clause-stops
returns-clause-stops g c = λ keeps whole.
    let self = c.args.self.now in
    let count : ℕ = c.covered-count.result in
    gone-stops (plant_in self.executor) (view_of self) self.bodies.items self.fits_together (digest_of (system_in self.executor)) self.journal self.cells (self.at_rest keeps whole) (self.marked keeps whole) refl count c.covered-count.ensures (omega (arith, c.if-count-eq0.false)) c.move_base.new.cells
    (subst (λ (n : ℕ). Leaves (BODY + 1) (IsMovedOrNot (n + count) self.journal (seen_cells (BODY + 1) self.cells)) self.cells c.move_base.new.cells) c.base.ensures.number (c.move_base.ensures.leaves keeps))

pub invariant_of-self-2 : goal.invariant_of-self-2
invariant_of-self-2 g c =
    let self = c.args.self.now in
    let plant = plant_in self.executor in
    let digest = digest_of (system_in self.executor) in
    let v = view_of self in
    let count : ℕ = c.covered-count.result in
    let some : 1 ≤ count = omega (arith, c.if-count-eq0.false) in
    let new = c.move_base.new.cells in
    let j = c.move_base.new.self in
    let after : Ring = moved (self.journal.base + count) self.journal in
    let ok : is_ok c.move_base.result ≡ true = ok-where c.move_base.result (sym c.is_err.ensures.value ∙ c.if-is_err.false) in
    let journal : j ≡ after =
    c.move_base.ensures.journal ∙
    ap (λ (b : Bool). if b then moved (c.base.result + count) self.journal else self.journal) ok ∙
    ap (λ (n : ℕ). moved (n + count) self.journal) c.base.ensures.number in
    let view : view_by (committed_in self.executor) self.acked_counts self.number self.tail.items (states_in self.executor) self.counts j c.drop_first.new.marks.items self.snapshots (jobs_in self.executor) false ≡ with_cut count v =
    ap (λ (r : Ring). view_by (committed_in self.executor) self.acked_counts self.number self.tail.items (states_in self.executor) self.counts r c.drop_first.new.marks.items self.snapshots (jobs_in self.executor) false) journal ∙
    ap (λ (ms : List MarkFields). view_by (committed_in self.executor) self.acked_counts self.number self.tail.items (states_in self.executor) self.counts after ms self.snapshots (jobs_in self.executor) false) c.drop_first.ensures.items ∙
    ap (λ (b : Bool). view_by (committed_in self.executor) self.acked_counts self.number self.tail.items (states_in self.executor) self.counts after (drop count self.marks.items) self.snapshots (jobs_in self.executor) b) (sym c.if-self.false) in
    let done : self.cells.keeps ≡ true → HasMoved (self.journal.base + count) self.journal self.cells new = λ kept.
    subst (λ (n : ℕ). HasMoved (n + count) self.journal self.cells new) c.base.ensures.number (ok-has c.move_base.result ok (c.move_base.ensures.moved kept)) in
    let rests : new.keeps ≡ true → IsAtRest plant digest j (committed_in self.executor) self.acked_counts self.number self.snapshots.saved new = λ keeps.
    let kept : self.cells.keeps ≡ true = sym c.move_base.ensures.counts.keeps ∙ keeps in
    subst (λ (r : Ring). IsAtRest plant digest r (committed_in self.executor) self.acked_counts self.number self.snapshots.saved new) (sym journal)
    (gone-rest plant v self.bodies.items self.fits_together digest self.journal self.cells (self.at_rest kept c.if-self.false) (self.marked kept c.if-self.false) refl count c.covered-count.ensures some new (done kept) c.move_base.ensures.counts.size) in
    record {
      fits_together = subst (λ w. FitsTogether plant w self.bodies.items) (sym view)
          (cut-fits plant v self.bodies.items self.fits_together count (omega (arith, c.covered-count.ensures, go-within v)));
      room_of_tail = self.room_of_tail;
      room_of_bodies = self.room_of_bodies;
      room_of_marks = subst (λ (r : Ring). r.ring ≤ vec_capacity c.drop_first.new.marks) (sym journal) (omega (arith, self.room_of_marks, c.drop_first.ensures.room));
      of_journal = subst (λ (r : Ring). IsJournalOf plant self.number r new) (sym journal) (record {
        atoms = self.of_journal.atoms;
        last = self.of_journal.last;
        inside = subst (λ (bytes : ℕ). cells_of_ring self.journal ≤ cells_in (BODY + 1) bytes) (sym c.move_base.ensures.counts.size) self.of_journal.inside;
      });
      at_rest = λ keeps whole. rests keeps;
      slots_known = λ keeps whole.
          let kept : self.cells.keeps ≡ true = sym c.move_base.ensures.counts.keeps ∙ keeps in
          slots-moved plant self.snapshots.next_slots (seen_cells (BODY + 1) self.cells) (seen_cells (BODY + 1) new) (self.slots_known kept c.if-self.false) (self.journal.base + count) self.journal c.base.ensures.in_range.cell_from self.of_journal.atoms (done kept).is;
      marked = λ keeps whole.
          let kept : self.cells.keeps ≡ true = sym c.move_base.ensures.counts.keeps ∙ keeps in
          subst (λ w. AreMarked plant w (seen_cells (BODY + 1) new)) (sym view)
          (gone-marked plant v self.bodies.items self.fits_together digest self.journal self.cells (self.at_rest kept c.if-self.false) (self.marked kept c.if-self.false) refl count c.covered-count.ensures some new (done kept));
      on_the_way = λ keeps whole.
          let kept : self.cells.keeps ≡ true = sym c.move_base.ensures.counts.keeps ∙ keeps in
          subst (λ w. AreOnTheWay plant w (seen_cells (BODY + 1) new)) (sym view)
          (gone-ways plant v self.bodies.items self.fits_together digest self.journal self.cells (self.at_rest kept c.if-self.false) (self.marked kept c.if-self.false) refl count c.covered-count.ensures some new (done kept) (self.on_the_way kept c.if-self.false));
      at_a_stop = λ keeps image may. rest-front plant digest j (committed_in self.executor) self.acked_counts self.number self.snapshots.saved new (rests keeps)
          (view_by (committed_in self.executor) self.acked_counts self.number self.tail.items (states_in self.executor) self.counts j c.drop_first.new.marks.items self.snapshots (jobs_in self.executor) false) refl refl image may;
    }

pub returns-then-count-eq0-clause-now : goal.returns-then-count-eq0-clause-now
returns-then-count-eq0-clause-now g c =
    let self = c.args.self.now in
    acked-now (plant_in self.executor) (digest_of (system_in self.executor)) (view_of self) self.cells self.cells (returns-then-count-eq0-clause-stops g c)

pub returns-then-is_err-clause-now : goal.returns-then-is_err-clause-now
returns-then-is_err-clause-now g c =
    let self = c.args.self.now in
    acked-now (plant_in self.executor) (digest_of (system_in self.executor)) (view_of self) self.cells c.move_base.new.cells (returns-then-is_err-clause-stops g c)

pub returns-clause-now : goal.returns-clause-now
returns-clause-now g c =
    let self = c.args.self.now in
    acked-now (plant_in self.executor) (digest_of (system_in self.executor)) (view_of self) self.cells c.move_base.new.cells (returns-clause-stops g c)
