use Rattle.std.proofs.Common.{◌≡◌, ◌≢◌, ℕ, ◌+◌, ◌*◌, ◌≤◌, ◌∙◌, ap, subst, sym, refl, inl, inr, arith, length, Bool, true, false}
use Rattle.std.proofs.lemmas.Bool.{false≢true}
use Rattle.disk_model.specs.Cells.{Cell, cell, seen_cells}
use Rattle.disk_model.specs.DiskState.{size_of}
use Rattle.disk_model.specs.Moments.{leaves_now, leaves_start}
use Rattle.disk_model.specs.declared.cells.TheConstants.{BODY}
use Rattle.record_codec.specs.Saved.{SavedFields}
use Rattle.snapshot_writer.specs.Slots.{other_slot}
use Rattle.snapshot_writer.specs.Storing.{IsStored}
use Rattle.step_executor.specs.Executing.{committed_in, jobs_in, plant_in, states_in, system_in}
use Rattle.plant_model.specs.System.{digest_of}
use Rattle.plant_core.specs.Events.{IsTaken}
use Rattle.plant_core.specs.Invariant.{AreMarked, AreNextSlots, AreOnTheWay, FitsTogether, IsAtRest}
use Rattle.plant_core.specs.Plants.{view_of}
use Rattle.plant_core.specs.Snapshots.{SnapshotFields, next_slot, with_slot, with_written}
use Rattle.plant_core.specs.Stops.{StandsForAcked}
use Rattle.plant_core.specs.View.{View, view_by, with_stored}
use Rattle.plant_core.proofs.AtRest.{acked-front, acked-now, front-of, rest-front, stands-now}
use Rattle.plant_core.proofs.EventByEvent.{not-true}
use Rattle.plant_core.proofs.Flushing.{journal-of-failed, noted-fits}
use Rattle.plant_core.proofs.NextSlots.{other-small, slot-known}
use Rattle.plant_core.proofs.Noted.{stored-fits}
use Rattle.plant_core.proofs.Stored.{Matches, rest-matches, rest-stored}
use Rattle.plant_core.proofs.Taken.{atom-within, taken-matches, taken-stops}
use Rattle.plant_core.proofs.plant.Plant.put.Goals as goal

-- refused, it makes no call of the device
pub returns-in-Some-clause-stops : goal.returns-in-Some-clause-stops
returns-in-Some-clause-stops g c = λ keeps whole.
    let self = c.args.self.now in
    let plant = plant_in self.executor in
    let digest = digest_of (system_in self.executor) in
    leaves_start (BODY + 1) (StandsForAcked plant digest (size_of self.cells) (view_of self)) self.cells
    (λ cells may. stands-now plant digest self.journal (committed_in self.executor) self.acked_counts self.number self.snapshots.saved self.cells (self.at_rest keeps whole) cells may)

-- the slot that is known does not hold the newest state
pub store_next-requires-clause-known : goal.store_next-requires-clause-known
store_next-requires-clause-known g c = λ keeps.
    let self = c.args.self.now in
    let v = view_of self in
    let saved = c.args.encoded in
    let taken : IsTaken v saved = subst (IsTaken v) c.parcel.ensures c.in_default.ensures in
    let whole : self.broken ≡ false = not-true self.broken taken.whole in
    let own : c.atom.result ≡ saved.atom = c.atom.ensures.value ∙ ap (λ (s : SavedFields). s.atom) c.parcel-2.ensures in
    let known : c.next_slot-known.result ≡ next_slot self.snapshots.next_slots saved.atom = c.next_slot-known.ensures.known ∙ ap (next_slot self.snapshots.next_slots) own in
    slot-known (plant_in self.executor) self.snapshots.next_slots (seen_cells (BODY + 1) self.cells) (self.slots_known keeps whole) saved.atom (atom-within (plant_in self.executor) v self.bodies.items self.fits_together saved taken) c.next_slot-known.result known

-- the device failed
pub invariant_of-self : goal.invariant_of-self
invariant_of-self g c =
    let self = c.args.self.now in
    let plant = plant_in self.executor in
    let digest = digest_of (system_in self.executor) in
    let v = view_of self in
    let new = c.store_next.new.cells in
    let taken : IsTaken v c.args.encoded = subst (IsTaken v) c.parcel.ensures c.in_default.ensures in
    record {
      fits_together = noted-fits plant v self.bodies.items self.snapshots.saved self.snapshots.kept true self.fits_together.snapshots self.fits_together;
      room_of_tail = self.room_of_tail;
      room_of_bodies = self.room_of_bodies;
      room_of_marks = self.room_of_marks;
      of_journal = journal-of-failed plant self.number self.journal self.journal self.cells new refl c.store_next.ensures.counts.size self.of_journal;
      at_rest = λ keeps whole. absurd (false≢true (sym whole));
      slots_known = λ keeps whole. absurd (false≢true (sym whole));
      marked = λ keeps whole. absurd (false≢true (sym whole));
      on_the_way = λ keeps whole. absurd (false≢true (sym whole));
      at_a_stop = λ keeps image may.
          let kept : self.cells.keeps ≡ true = sym c.store_next.ensures.counts.keeps ∙ keeps in
          let whole : self.broken ≡ false = not-true self.broken taken.whole in
          let stops = taken-stops plant digest v self.bodies.items self.fits_together c.args.encoded taken self.journal self.cells (self.at_rest kept whole) (self.on_the_way kept whole) new (c.store_next.ensures.leaves kept) in
          front-of plant digest (size_of new) (view_by (committed_in self.executor) self.acked_counts self.number self.tail.items (states_in self.executor) self.counts self.journal self.marks.items self.snapshots (jobs_in self.executor) true) image
          (acked-front plant digest (size_of new) v image
          (subst (λ (bytes : ℕ). StandsForAcked plant digest bytes v image) (sym c.store_next.ensures.counts.size)
          (leaves_now (BODY + 1) (StandsForAcked plant digest (size_of self.cells) v) self.cells new stops image may)));
    }

pub returns-in_default-store_next-clause-stops : goal.returns-in_default-store_next-clause-stops
returns-in_default-store_next-clause-stops g c = λ keeps whole.
    let self = c.args.self.now in
    let v = view_of self in
    let taken : IsTaken v c.args.encoded = subst (IsTaken v) c.parcel.ensures c.in_default.ensures in
    taken-stops (plant_in self.executor) (digest_of (system_in self.executor)) v self.bodies.items self.fits_together c.args.encoded taken self.journal self.cells (self.at_rest keeps whole) (self.on_the_way keeps whole) c.store_next.new.cells (c.store_next.ensures.leaves keeps)

pub returns-clause-stops : goal.returns-clause-stops
returns-clause-stops g c = λ keeps whole.
    let self = c.args.self.now in
    let v = view_of self in
    let taken : IsTaken v c.args.encoded = subst (IsTaken v) c.parcel.ensures c.in_default.ensures in
    taken-stops (plant_in self.executor) (digest_of (system_in self.executor)) v self.bodies.items self.fits_together c.args.encoded taken self.journal self.cells (self.at_rest keeps whole) (self.on_the_way keeps whole) c.store_next.new.cells (c.store_next.ensures.leaves keeps)

-- the state is stored
pub invariant_of-self-2 : goal.invariant_of-self-2
invariant_of-self-2 g c =
    let self = c.args.self.now in
    let plant = plant_in self.executor in
    let digest = digest_of (system_in self.executor) in
    let v = view_of self in
    let saved = c.args.encoded in
    let new = c.store_next.new.cells in
    let taken : IsTaken v saved = subst (IsTaken v) c.parcel.ensures c.in_default.ensures in
    let whole : self.broken ≡ false = not-true self.broken taken.whole in
    let slot : ℕ = c.in-Ok.slot in
    let noted : c.stored.new.self ≡ with_slot saved slot self.snapshots = c.stored.ensures ∙ ap (λ (s : SavedFields). with_slot s slot self.snapshots) c.into_parcel-parcel.ensures in
    let view : view_by (committed_in self.executor) self.acked_counts self.number self.tail.items (states_in self.executor) self.counts self.journal self.marks.items c.stored.new.self (jobs_in self.executor) false ≡ with_stored saved v =
    ap (λ (s : SnapshotFields). view_by (committed_in self.executor) self.acked_counts self.number self.tail.items (states_in self.executor) self.counts self.journal self.marks.items s (jobs_in self.executor) false) noted ∙
    ap (λ (b : Bool). view_by (committed_in self.executor) self.acked_counts self.number self.tail.items (states_in self.executor) self.counts self.journal self.marks.items (with_slot saved slot self.snapshots) (jobs_in self.executor) b) (sym whole) in
    let then : SnapshotFields → Bool → View = λ s broken. view_by (committed_in self.executor) self.acked_counts self.number self.tail.items (states_in self.executor) self.counts self.journal self.marks.items s (jobs_in self.executor) broken in
    let matches : new.keeps ≡ true → Matches plant digest (size_of self.cells) self.journal self.bodies.items (then c.stored.new.self false) c.stored.new.self.next_slots (seen_cells (BODY + 1) new) = λ keeps.
    let kept : self.cells.keeps ≡ true = sym c.store_next.ensures.counts.keeps ∙ keeps in
    subst (λ (s : SnapshotFields). Matches plant digest (size_of self.cells) self.journal self.bodies.items (then s false) s.next_slots (seen_cells (BODY + 1) new)) (sym noted)
    (subst (λ (broken : Bool). Matches plant digest (size_of self.cells) self.journal self.bodies.items (then (with_slot saved slot self.snapshots) broken) (with_written saved.atom slot self.snapshots.next_slots) (seen_cells (BODY + 1) new)) whole
    (subst (λ (n : ℕ). Matches plant digest (size_of self.cells) self.journal self.bodies.items (with_stored saved v) (with_written saved.atom n self.snapshots.next_slots) (seen_cells (BODY + 1) new)) (sym (c.in-Ok.ensures.slot kept))
    (taken-matches plant digest v self.bodies.items self.fits_together saved taken self.journal self.cells self.snapshots.next_slots (rest-matches plant digest self.journal self.bodies.items v self.snapshots.next_slots self.cells (self.at_rest kept whole) (self.slots_known kept whole) (self.marked kept whole) (self.on_the_way kept whole) self.fits_together) new (c.in-Ok.ensures.stored kept)))) in
    let rests : new.keeps ≡ true → IsAtRest plant digest self.journal (committed_in self.executor) self.acked_counts self.number c.stored.new.self.saved new = λ keeps.
    let kept : self.cells.keeps ≡ true = sym c.store_next.ensures.counts.keeps ∙ keeps in
    let stored : IsStored (other_slot saved.atom (seen_cells (BODY + 1) self.cells)) saved self.cells new = c.in-Ok.ensures.stored kept in
    rest-stored plant digest self.journal self.bodies.items (then c.stored.new.self false) c.stored.new.self.next_slots self.cells new (self.at_rest kept whole).ready stored.settled c.store_next.ensures.counts.size (matches keeps)
    (λ k far. stored.others k (λ same. omega (arith, same, far, other-small saved.atom (seen_cells (BODY + 1) self.cells), atom-within plant v self.bodies.items self.fits_together saved taken))) in
    record {
      fits_together = subst (λ w. FitsTogether plant w self.bodies.items) (sym view) (stored-fits plant v self.bodies.items self.fits_together saved (atom-within plant v self.bodies.items self.fits_together saved taken) taken.behind);
      room_of_tail = self.room_of_tail;
      room_of_bodies = self.room_of_bodies;
      room_of_marks = self.room_of_marks;
      of_journal = journal-of-failed plant self.number self.journal self.journal self.cells new refl c.store_next.ensures.counts.size self.of_journal;
      at_rest = λ keeps unbroken. rests keeps;
      slots_known = λ keeps unbroken. (matches keeps).next;
      marked = λ keeps unbroken. (matches keeps).marked;
      on_the_way = λ keeps unbroken. (matches keeps).ways;
      at_a_stop = λ keeps image may. rest-front plant digest self.journal (committed_in self.executor) self.acked_counts self.number c.stored.new.self.saved new (rests keeps) (then c.stored.new.self false) refl refl image may;
    }

pub returns-clause-stored : goal.returns-clause-stored
returns-clause-stored g c = c.in-Ok.ensures.stored

pub returns-in-Some-clause-now : goal.returns-in-Some-clause-now
returns-in-Some-clause-now g c =
    let self = c.args.self.now in
    acked-now (plant_in self.executor) (digest_of (system_in self.executor)) (view_of self) self.cells self.cells (returns-in-Some-clause-stops g c)

pub returns-in_default-store_next-clause-now : goal.returns-in_default-store_next-clause-now
returns-in_default-store_next-clause-now g c =
    let self = c.args.self.now in
    acked-now (plant_in self.executor) (digest_of (system_in self.executor)) (view_of self) self.cells c.store_next.new.cells (returns-in_default-store_next-clause-stops g c)

pub returns-clause-now : goal.returns-clause-now
returns-clause-now g c =
    let self = c.args.self.now in
    acked-now (plant_in self.executor) (digest_of (system_in self.executor)) (view_of self) self.cells c.store_next.new.cells (returns-clause-stops g c)
