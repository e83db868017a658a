use Rattle.std.proofs.Common.{◌≡◌, ◌≢◌, ℕ, ◌+◌, ◌*◌, ◌≤◌, ◌<◌, ◌∙◌, ap, subst, sym, refl, arith, List, [], length, Bool, true, false}
use Rattle.std.proofs.lemmas.Bool.{false≢true}
use Rattle.disk_model.specs.Cells.{seen_cells}
use Rattle.disk_model.specs.DiskState.{size_of}
use Rattle.disk_model.specs.Moments.{leaves_now, leaves_start}
use Rattle.disk_model.specs.declared.cells.TheConstants.{BODY}
use Rattle.record_codec.specs.Saved.{SavedFields}
use Rattle.snapshot_writer.specs.Batches.{AreStored, SlottedFields}
use Rattle.step_executor.specs.Executing.{committed_in, jobs_in, plant_in, states_in, system_in}
use Rattle.plant_model.specs.System.{digest_of}
use Rattle.plant_core.specs.Invariant.{FitsTogether, IsAtRest}
use Rattle.plant_core.specs.Plants.{view_of}
use Rattle.plant_core.specs.Saves.{batch_of, states_in as states_of_batch}
use Rattle.plant_core.specs.Snapshots.{SnapshotFields, with_slots}
use Rattle.plant_core.specs.Stops.{StandsForAcked}
use Rattle.plant_core.specs.View.{View, behind_states, view_by, with_all_stored}
use Rattle.plant_core.proofs.AllStored.{all-fit, view-stored}
use Rattle.plant_core.proofs.Answered.{ok-has, ok-where}
use Rattle.plant_core.proofs.AtRest.{acked-front, acked-now, front-of, rest-front, stands-now}
use Rattle.plant_core.proofs.Flushing.{journal-of-failed, noted-fits}
use Rattle.plant_core.proofs.SavedAll.{each-acked, each-within, going, others-stay, saved-matches, saved-stops}
use Rattle.plant_core.proofs.Stored.{Matches, rest-stored}
use Rattle.plant_core.proofs.plant.Plant.save.Goals as goal

-- nothing is behind
pub returns-then-atoms-eq0-clause-stops : goal.returns-then-atoms-eq0-clause-stops
returns-then-atoms-eq0-clause-stops g c = λ keeps whole.
    let self = c.args.self.now in
    let plant = plant_in self.executor in
    let digest = digest_of (system_in self.executor) in
    leaves_start (BODY + 1) (StandsForAcked plant digest (size_of self.cells) (view_of self)) self.cells
    (λ cells may. stands-now plant digest self.journal (committed_in self.executor) self.acked_counts self.number self.snapshots.saved self.cells (self.at_rest keeps whole) cells may)

-- what may be saved
pub store_behind-requires-clause-savable : goal.store_behind-requires-clause-savable
store_behind-requires-clause-savable g c =
    let self = c.args.self.now in
    record {
      of_plant = self.fits_together.of_plant;
      fits = self.fits_together.fits;
      within = self.fits_together.counts_within;
      last = omega (arith, self.fits_together.last_to);
    }

-- the slots that are known are those in which the next states go
pub store_behind-requires-clause-known : goal.store_behind-requires-clause-known
store_behind-requires-clause-known g c = λ keeps. c.args.self.now.slots_known keeps c.if-self.false

-- what a stop leaves
pub returns-then-is_err-clause-stops : goal.returns-then-is_err-clause-stops
returns-then-is_err-clause-stops g c = λ keeps whole.
    let self = c.args.self.now in
    saved-stops (plant_in self.executor) (view_of self) self.bodies.items self.fits_together (digest_of (system_in self.executor)) self.journal self.cells (self.at_rest keeps whole) c.store_behind.new.cells (c.store_behind.ensures.leaves keeps)

pub returns-clause-stops : goal.returns-clause-stops
returns-clause-stops g c = λ keeps whole.
    let self = c.args.self.now in
    saved-stops (plant_in self.executor) (view_of self) self.bodies.items self.fits_together (digest_of (system_in self.executor)) self.journal self.cells (self.at_rest keeps whole) c.store_behind.new.cells (c.store_behind.ensures.leaves keeps)

-- the device failed
pub invariant_of-self : goal.invariant_of-self
invariant_of-self g c =
    let self = c.args.self.now in
    let plant = plant_in self.executor in
    let digest = digest_of (system_in self.executor) in
    let v = view_of self in
    let new = c.store_behind.new.cells in
    record {
      fits_together = noted-fits plant v self.bodies.items self.snapshots.saved self.snapshots.kept true self.fits_together.snapshots self.fits_together;
      room_of_tail = self.room_of_tail;
      room_of_bodies = self.room_of_bodies;
      room_of_marks = self.room_of_marks;
      of_journal = journal-of-failed plant self.number self.journal self.journal self.cells new refl c.store_behind.ensures.counts.size self.of_journal;
      at_rest = λ keeps whole. absurd (false≢true (sym whole));
      slots_known = λ keeps whole. absurd (false≢true (sym whole));
      marked = λ keeps whole. absurd (false≢true (sym whole));
      on_the_way = λ keeps whole. absurd (false≢true (sym whole));
      at_a_stop = λ keeps image may.
          let kept : self.cells.keeps ≡ true = sym c.store_behind.ensures.counts.keeps ∙ keeps in
          let whole : self.broken ≡ false = c.if-self.false in
          let stops = saved-stops plant v self.bodies.items self.fits_together digest self.journal self.cells (self.at_rest kept whole) new (c.store_behind.ensures.leaves kept) in
          front-of plant digest (size_of new) (view_by (committed_in self.executor) self.acked_counts self.number self.tail.items (states_in self.executor) self.counts self.journal self.marks.items self.snapshots (jobs_in self.executor) true) image
          (acked-front plant digest (size_of new) v image
          (subst (λ (bytes : ℕ). StandsForAcked plant digest bytes v image) (sym c.store_behind.ensures.counts.size)
          (leaves_now (BODY + 1) (StandsForAcked plant digest (size_of self.cells) v) self.cells new stops image may)));
    }

-- each state is of an atom of the plant
pub all_stored-requires : goal.all_stored-requires
all_stored-requires g c i s at =
    let self = c.args.self.now in
    let batch : List SlottedFields = c.store_behind.new.batch in
    let are : states_of_batch batch ≡ behind_states (view_of self) = ok-has c.store_behind.result (ok-where c.store_behind.result (sym c.is_err.ensures.value ∙ c.if-is_err.false)) c.store_behind.ensures.states in
    omega (arith, each-within (plant_in self.executor) (view_of self) self.bodies.items self.fits_together batch are i s at, self.fits_together.snapshots.places)

-- all is stored
pub invariant_of-self-2 : goal.invariant_of-self-2
invariant_of-self-2 g c =
    let self = c.args.self.now in
    let plant = plant_in self.executor in
    let digest = digest_of (system_in self.executor) in
    let v = view_of self in
    let new = c.store_behind.new.cells in
    let whole : self.broken ≡ false = c.if-self.false in
    let ok = ok-where c.store_behind.result (sym c.is_err.ensures.value ∙ c.if-is_err.false) in
    let batch : List SlottedFields = c.store_behind.new.batch in
    let are : states_of_batch batch ≡ behind_states v = ok-has c.store_behind.result ok c.store_behind.ensures.states in
    let noted : c.all_stored.new.self ≡ with_slots batch self.snapshots = c.all_stored.ensures in
    let then : SnapshotFields → Bool → View = λ s broken. view_by (committed_in self.executor) self.acked_counts self.number self.tail.items (states_in self.executor) self.counts self.journal self.marks.items s (jobs_in self.executor) broken in
    let fits : FitsTogether plant (then (with_slots batch self.snapshots) self.broken) self.bodies.items =
    all-fit (committed_in self.executor) self.acked_counts self.number self.tail.items (states_in self.executor) self.counts self.journal self.marks.items (jobs_in self.executor) self.broken plant self.bodies.items batch self.snapshots
    (each-within plant v self.bodies.items self.fits_together batch are) (each-acked plant v self.bodies.items self.fits_together batch are) self.fits_together in
    let matches : new.keeps ≡ true → Matches plant digest (size_of self.cells) self.journal self.bodies.items (then c.all_stored.new.self false) c.all_stored.new.self.next_slots (seen_cells (BODY + 1) new) = λ keeps.
    let kept : self.cells.keeps ≡ true = sym c.store_behind.ensures.counts.keeps ∙ keeps in
    let is : batch ≡ batch_of (seen_cells (BODY + 1) self.cells) (behind_states v) = ok-has c.store_behind.result ok (c.store_behind.ensures.batch kept) in
    let done : AreStored batch self.cells new = ok-has c.store_behind.result ok (c.store_behind.ensures.stored kept) in
    subst (λ (s : SnapshotFields). Matches plant digest (size_of self.cells) self.journal self.bodies.items (then s false) s.next_slots (seen_cells (BODY + 1) new)) (sym noted)
    (subst (λ (broken : Bool). Matches plant digest (size_of self.cells) self.journal self.bodies.items (then (with_slots batch self.snapshots) broken) (with_slots batch self.snapshots).next_slots (seen_cells (BODY + 1) new)) whole
    (saved-matches (committed_in self.executor) self.acked_counts self.number self.tail.items (states_in self.executor) self.counts self.journal self.marks.items (jobs_in self.executor) self.broken plant self.bodies.items digest self.snapshots self.cells
    self.fits_together (self.at_rest kept whole) (self.slots_known kept whole) (self.marked kept whole) (self.on_the_way kept whole) new batch is done)) in
    let rests : new.keeps ≡ true → IsAtRest plant digest self.journal (committed_in self.executor) self.acked_counts self.number c.all_stored.new.self.saved new = λ keeps.
    let kept : self.cells.keeps ≡ true = sym c.store_behind.ensures.counts.keeps ∙ keeps in
    let is : batch ≡ batch_of (seen_cells (BODY + 1) self.cells) (behind_states v) = ok-has c.store_behind.result ok (c.store_behind.ensures.batch kept) in
    let done : AreStored batch self.cells new = ok-has c.store_behind.result ok (c.store_behind.ensures.stored kept) in
    let all : AreStored (going plant v self.bodies.items self.fits_together digest self.journal self.cells (self.at_rest kept whole)) self.cells new = subst (λ (b : List SlottedFields). AreStored b self.cells new) is done in
    rest-stored plant digest self.journal self.bodies.items (then c.all_stored.new.self false) c.all_stored.new.self.next_slots self.cells new (self.at_rest kept whole).ready done.settled c.store_behind.ensures.counts.size (matches keeps)
    (others-stay plant v self.bodies.items self.fits_together digest self.journal self.cells (self.at_rest kept whole) new all) in
    record {
      fits_together = subst (λ (s : SnapshotFields). FitsTogether plant (then s false) self.bodies.items) (sym noted)
          (subst (λ (broken : Bool). FitsTogether plant (then (with_slots batch self.snapshots) broken) self.bodies.items) whole fits);
      room_of_tail = self.room_of_tail;
      room_of_bodies = self.room_of_bodies;
      room_of_marks = self.room_of_marks;
      of_journal = journal-of-failed plant self.number self.journal self.journal self.cells new refl c.store_behind.ensures.counts.size self.of_journal;
      at_rest = λ keeps unbroken. rests keeps;
      slots_known = λ keeps unbroken. (matches keeps).next;
      marked = λ keeps unbroken. (matches keeps).marked;
      on_the_way = λ keeps unbroken. (matches keeps).ways;
      at_a_stop = λ keeps image may. rest-front plant digest self.journal (committed_in self.executor) self.acked_counts self.number c.all_stored.new.self.saved new (rests keeps) (then c.all_stored.new.self false) refl refl image may;
    }

-- the view then
pub returns-clause-event : goal.returns-clause-event
returns-clause-event g c =
    let self = c.args.self.now in
    let v = view_of self in
    let whole : self.broken ≡ false = c.if-self.false in
    let ok = ok-where c.store_behind.result (sym c.is_err.ensures.value ∙ c.if-is_err.false) in
    let batch : List SlottedFields = c.store_behind.new.batch in
    let are : states_of_batch batch ≡ behind_states v = ok-has c.store_behind.result ok c.store_behind.ensures.states in
    let then : SnapshotFields → Bool → View = λ s broken. view_by (committed_in self.executor) self.acked_counts self.number self.tail.items (states_in self.executor) self.counts self.journal self.marks.items s (jobs_in self.executor) broken in
    let view : then c.all_stored.new.self false ≡ with_all_stored (behind_states v) v =
    ap (λ (s : SnapshotFields). then s false) c.all_stored.ensures ∙
    ap (λ (broken : Bool). then (with_slots batch self.snapshots) broken) (sym whole) ∙
    view-stored (committed_in self.executor) self.acked_counts self.number self.tail.items (states_in self.executor) self.counts self.journal self.marks.items (jobs_in self.executor) self.broken batch self.snapshots ∙
    ap (λ (states : List SavedFields). with_all_stored states v) are in (
      λ broken. false≢true (sym whole ∙ broken),
      λ none. c.if-atoms-eq0.false (c.behind-atoms.ensures.some none),
      refl,
      c.behind-atoms.ensures.atoms,
      view,
    )

-- the answer that nothing is behind, and that the device failed
pub returns-then-atoms-eq0-clause-event : goal.returns-then-atoms-eq0-clause-event
returns-then-atoms-eq0-clause-event g c =
    let self = c.args.self.now in (λ broken. false≢true (sym c.if-self.false ∙ broken), c.behind-atoms.ensures.none c.if-atoms-eq0.true, refl)

pub returns-then-is_err-clause-event : goal.returns-then-is_err-clause-event
returns-then-is_err-clause-event g c =
    let self = c.args.self.now in (λ broken. false≢true (sym c.if-self.false ∙ broken), λ none. c.if-atoms-eq0.false (c.behind-atoms.ensures.some none), refl)

-- what a stop leaves when it returns
pub returns-then-atoms-eq0-clause-now : goal.returns-then-atoms-eq0-clause-now
returns-then-atoms-eq0-clause-now g c =
    let self = c.args.self.now in
    acked-now (plant_in self.executor) (digest_of (system_in self.executor)) (view_of self) self.cells self.cells (returns-then-atoms-eq0-clause-stops g c)

pub returns-then-is_err-clause-now : goal.returns-then-is_err-clause-now
returns-then-is_err-clause-now g c =
    let self = c.args.self.now in
    acked-now (plant_in self.executor) (digest_of (system_in self.executor)) (view_of self) self.cells c.store_behind.new.cells (returns-then-is_err-clause-stops g c)

pub returns-clause-now : goal.returns-clause-now
returns-clause-now g c =
    let self = c.args.self.now in
    acked-now (plant_in self.executor) (digest_of (system_in self.executor)) (view_of self) self.cells c.store_behind.new.cells (returns-clause-stops g c)
