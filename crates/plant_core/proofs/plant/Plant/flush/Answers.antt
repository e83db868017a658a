use Rattle.std.proofs.Common.{◌≡◌, Bool, if◌then◌else◌, ◌+◌, ◌-◌, ◌≤◌, vec_capacity, ℕ, sym, ◌∙◌, ap, subst, length, arith, true, false, None, refl, [], map, eqb-true, vec_len}
use Rattle.std.proofs.lemmas.Bool.{false≢true}
use Rattle.std.proofs.lemmas.List.{length-map, nil_from_length, take_all}
use Rattle.disk_model.specs.Cells.{seen_cells}
use Rattle.disk_model.specs.DiskState.{size_of}
use Rattle.disk_model.specs.Moments.{leaves_now}
use Rattle.disk_model.specs.declared.cells.TheConstants.{BODY}
use Rattle.gated_journal.specs.Live.{AreRecords}
use Rattle.gated_journal.specs.Rings.{appended}
use Rattle.gated_journal.specs.Stops.{HasAppendedAll}
use Rattle.gated_journal.specs.declared.ring.Ring.{Ring}
use Rattle.plant_image.specs.Contents.{Contents, contents_of}
use Rattle.record_replay.specs.Records.{records_of}
use Rattle.record_replay.proofs.OnRuns.{length-records}
use Rattle.plant_model.specs.Chosen.{fired_of}
use Rattle.plant_model.specs.Rules.{fault_of}
use Rattle.plant_model.specs.Runs.{fold}
use Rattle.std.specs.Result.{is_ok}
use Rattle.step_executor.proofs.Standing.{states-many}
use Rattle.step_executor.specs.Executing.{committed_in, jobs_in, plant_in, states_in, system_in}
use Rattle.plant_model.specs.System.{digest_of, plant_of}
use Rattle.plant_model.specs.declared.system.System.{System}
use Rattle.plant_core.specs.Invariant.{AreMarked, AreNextSlots, AreOnTheWay, FitsTogether, IsAtRest, IsFrontOf, IsJournalOf}
use Rattle.plant_core.specs.Marks.{marks_of}
use Rattle.plant_core.specs.Plants.{view_of}
use Rattle.plant_core.specs.Stops.{StandsForFront}
use Rattle.plant_core.specs.View.{fired_number, view_by, with_all_acked}
use Rattle.plant_core.proofs.Answered.{err-where, ok-has, ok-where}
use Rattle.plant_core.proofs.Firing.{bodies-many}
use Rattle.plant_core.proofs.Flushing.{all-acked, are-records, front-runs, journal-of-failed, journal-of-flushed, noted-fits, nothing-new, view-of-flushed}
use Rattle.plant_core.proofs.Copies.{ways-flushed}
use Rattle.plant_core.proofs.Marking.{all-marked}
use Rattle.plant_core.proofs.NextSlots.{slots-appended}
use Rattle.plant_core.proofs.AtRest.{again-reads, front-now, front-of, rest-again, rest-front, stops-stand}
use Rattle.plant_core.proofs.plant.Plant.flush.Goals as goal

pub append_run-requires-clause-room : goal.append_run-requires-clause-room
append_run-requires-clause-room g c =
    let self = c.args.self.now in
    omega (arith, bodies-many (plant_in self.executor) (view_of self) self.bodies.items self.fits_together, self.of_journal.last, self.fits_together.room, c.deref.ensures.len)

pub append_run-requires-clause-in_range : goal.append_run-requires-clause-in_range
append_run-requires-clause-in_range g c =
    let self = c.args.self.now in
    omega (arith, bodies-many (plant_in self.executor) (view_of self) self.bodies.items self.fits_together, self.of_journal.last, self.fits_together.last_to, c.deref.ensures.len)

pub invariant_of-self-2 : goal.invariant_of-self-2
invariant_of-self-2 g c =
    let self = c.args.self.now in
    let plant = plant_in self.executor in
    let digest = digest_of (system_in self.executor) in
    let v = view_of self in
    let news = records_of plant v.acked v.acked_counts v.number v.tail in
    let valid : fault_of plant ≡ None = subst (λ p. fault_of p ≡ None) c.system.ensures.plant c.keeps_its_rules.ensures.plant in
    let many : length c.deref.result.now ≡ length v.tail = omega (arith, bodies-many plant v self.bodies.items self.fits_together, c.deref.ensures.len) in
    let as_many : length news ≡ length v.tail = length-records plant v.acked v.acked_counts v.number v.tail in
    let ok : is_ok c.append_run.result ≡ true = ok-where c.append_run.result (sym c.is_err.ensures.value ∙ c.if-is_err.false) in
    let journal : c.append_run.new.self ≡ appended (length v.tail) self.journal =
    c.append_run.ensures.journal ∙
    ap (λ (b : Bool). if b then appended (length c.deref.result.now) self.journal else self.journal) ok ∙
    ap (λ (n : ℕ). appended n self.journal) many in
    let run = c.commit.new.self in
    let same : plant_in run ≡ plant = c.commit.ensures.plant in
    let system : system_in run ≡ system_in self.executor = c.commit.ensures.system in
    let tail_long : length v.tail ≡ length self.tail.items = length-map self.tail.items fired_of in
    let summed : self.number + c.len.result ≡ fired_number v = omega (arith, c.len.ensures, tail_long) in
    let view = view-of-flushed (committed_in run) (states_in self.executor) (states_in run) self.counts (self.number + c.len.result) (fired_number v) c.clear.new.self.items self.journal c.append_run.new.self (length v.tail) self.marks.items self.snapshots (jobs_in self.executor) (jobs_in run) false self.broken c.commit.ensures.committed c.commit.ensures.states c.commit.ensures.jobs summed c.clear.ensures.items journal (sym c.if-self.false) in
    let are : AreRecords (self.journal.last + 1) c.deref.result.now news = subst (λ bs. AreRecords (self.journal.last + 1) bs news) (sym c.deref.ensures.value) (are-records plant v self.bodies.items self.fits_together (self.journal.last + 1) (ap (λ (n : ℕ). n + 1) self.of_journal.last)) in
    let after : ℕ = self.number + c.len.result in
    let rests : c.append_run.new.cells.keeps ≡ true → IsAtRest plant digest c.append_run.new.self (committed_in run) self.counts after self.snapshots.saved c.append_run.new.cells =
    λ keeps.
    let kept : self.cells.keeps ≡ true = sym c.append_run.ensures.counts.keeps ∙ keeps in
    let rest = self.at_rest kept c.if-self.false in
    let all : HasAppendedAll self.journal news self.cells c.append_run.new.cells = ok-has c.append_run.result ok (c.append_run.ensures.appended kept news are) in
    let again = rest-again plant digest self.journal v.acked v.acked_counts v.number v.saved self.cells rest valid v.tail (front-runs plant v self.bodies.items self.fits_together) c.append_run.new.self c.append_run.new.cells all c.append_run.ensures.counts.size (journal ∙ ap (λ (n : ℕ). appended n self.journal) (sym as_many)) in
    subst (λ (n : ℕ). IsAtRest plant digest c.append_run.new.self (committed_in run) self.counts n self.snapshots.saved c.append_run.new.cells) (sym summed)
    (subst (λ ss. IsAtRest plant digest c.append_run.new.self ss self.counts (fired_number v) self.snapshots.saved c.append_run.new.cells) (sym c.commit.ensures.committed)
    (subst (λ ss. IsAtRest plant digest c.append_run.new.self ss self.counts (fired_number v) self.snapshots.saved c.append_run.new.cells) (sym self.fits_together.leads)
    (subst (λ ks. IsAtRest plant digest c.append_run.new.self (fold plant v.acked v.tail) ks (fired_number v) self.snapshots.saved c.append_run.new.cells) (sym self.fits_together.counted) again))) in
    let seen = view_by (committed_in run) self.counts after c.clear.new.self.items (states_in run) self.counts c.append_run.new.self self.marks.items self.snapshots (jobs_in run) false in
    record {
      fits_together = subst (λ p. FitsTogether p seen c.clear-2.new.self.items) (sym same)
          (subst (λ w. FitsTogether plant w c.clear-2.new.self.items) (sym view)
          (subst (λ bs. FitsTogether plant (with_all_acked v) bs) (sym c.clear-2.ensures.items) (all-acked plant v self.bodies.items self.fits_together (states-many self.executor) self.executor.fits)));
      room_of_tail = omega (arith, self.room_of_tail, c.clear.ensures.capacity);
      room_of_bodies = omega (arith, self.room_of_bodies, c.clear-2.ensures.capacity);
      room_of_marks = subst (λ (r : Ring). r.ring ≤ vec_capacity self.marks) (sym journal) self.room_of_marks;
      of_journal = subst (λ p. IsJournalOf p after c.append_run.new.self c.append_run.new.cells) (sym same)
          (subst (λ (n : ℕ). IsJournalOf plant n c.append_run.new.self c.append_run.new.cells) (sym summed) (journal-of-flushed plant self.number (length v.tail) self.journal c.append_run.new.self self.cells c.append_run.new.cells journal c.append_run.ensures.counts.size self.of_journal));
      at_rest = λ keeps whole. subst (λ (s : System). IsAtRest (plant_of s) (digest_of s) c.append_run.new.self (committed_in run) self.counts after self.snapshots.saved c.append_run.new.cells) (sym system) (rests keeps);
      slots_known = λ keeps whole.
          let kept : self.cells.keeps ≡ true = sym c.append_run.ensures.counts.keeps ∙ keeps in
          let all : HasAppendedAll self.journal news self.cells c.append_run.new.cells = ok-has c.append_run.result ok (c.append_run.ensures.appended kept news are) in
          subst (λ p. AreNextSlots p self.snapshots.next_slots (seen_cells (BODY + 1) c.append_run.new.cells)) (sym same)
          (slots-appended plant self.snapshots.next_slots self.journal news self.cells c.append_run.new.cells self.of_journal.atoms all (self.slots_known kept c.if-self.false));
      marked = λ keeps whole.
          let kept : self.cells.keeps ≡ true = sym c.append_run.ensures.counts.keeps ∙ keeps in
          let rest = self.at_rest kept c.if-self.false in
          let all : HasAppendedAll self.journal news self.cells c.append_run.new.cells = ok-has c.append_run.result ok (c.append_run.ensures.appended kept news are) in
          let held : Contents = contents_of (length plant.atoms) (seen_cells (BODY + 1) self.cells) in
          subst (λ p. AreMarked p seen (seen_cells (BODY + 1) c.append_run.new.cells)) (sym same)
          (subst (λ w. AreMarked plant w (seen_cells (BODY + 1) c.append_run.new.cells)) (sym view)
          (take_all (fired_number v + 1 - v.base) v.marks (omega (arith, self.fits_together.marks_many)) ∙
          all-marked (v.number + 1 - v.base) v.marks held.records news (self.marked kept c.if-self.false) self.fits_together.marks_of_tail ∙
          sym (ap (λ (d : Contents). marks_of d.records)
          (again-reads plant digest self.journal v.acked v.acked_counts v.number v.saved self.cells rest valid v.tail (front-runs plant v self.bodies.items self.fits_together) c.append_run.new.cells all c.append_run.ensures.counts.size))));
      on_the_way = λ keeps whole.
          let kept : self.cells.keeps ≡ true = sym c.append_run.ensures.counts.keeps ∙ keeps in
          let rest = self.at_rest kept c.if-self.false in
          let all : HasAppendedAll self.journal news self.cells c.append_run.new.cells = ok-has c.append_run.result ok (c.append_run.ensures.appended kept news are) in
          subst (λ p. AreOnTheWay p seen (seen_cells (BODY + 1) c.append_run.new.cells)) (sym same)
          (subst (λ w. AreOnTheWay plant w (seen_cells (BODY + 1) c.append_run.new.cells)) (sym view)
          (ways-flushed plant v self.bodies.items self.fits_together (seen_cells (BODY + 1) self.cells) rest.leads (self.on_the_way kept c.if-self.false) (seen_cells (BODY + 1) c.append_run.new.cells)
          (again-reads plant digest self.journal v.acked v.acked_counts v.number v.saved self.cells rest valid v.tail (front-runs plant v self.bodies.items self.fits_together) c.append_run.new.cells all c.append_run.ensures.counts.size)));
      at_a_stop = λ keeps image may. subst (λ (s : System). IsFrontOf (plant_of s) (digest_of s) (size_of c.append_run.new.cells) seen image) (sym system)
          (rest-front plant digest c.append_run.new.self (committed_in run) self.counts after self.snapshots.saved c.append_run.new.cells (rests keeps) seen refl refl image may);
    }

pub invariant_of-self-then-is_err-clause-of_journal : goal.invariant_of-self-then-is_err-clause-of_journal
invariant_of-self-then-is_err-clause-of_journal g c =
    let self = c.args.self.now in
    let failed : is_ok c.append_run.result ≡ false = err-where c.append_run.result (sym c.is_err.ensures.value ∙ c.if-is_err.true) in
    journal-of-failed (plant_in self.executor) self.number self.journal c.append_run.new.self self.cells c.append_run.new.cells
    (c.append_run.ensures.journal ∙ ap (λ (b : Bool). if b then appended (length c.deref.result.now) self.journal else self.journal) failed) c.append_run.ensures.counts.size self.of_journal

pub invariant_of-self-then-is_err-clause-fits_together : goal.invariant_of-self-then-is_err-clause-fits_together
invariant_of-self-then-is_err-clause-fits_together g c =
    let self = c.args.self.now in
    let plant = plant_in self.executor in
    let failed : is_ok c.append_run.result ≡ false = err-where c.append_run.result (sym c.is_err.ensures.value ∙ c.if-is_err.true) in
    let journal = c.append_run.ensures.journal ∙ ap (λ (b : Bool). if b then appended (length c.deref.result.now) self.journal else self.journal) failed in
    subst (λ r. FitsTogether plant (view_by (committed_in self.executor) self.acked_counts self.number self.tail.items (states_in self.executor) self.counts r self.marks.items self.snapshots (jobs_in self.executor) true) self.bodies.items) (sym journal)
    (noted-fits plant (view_of self) self.bodies.items self.snapshots.saved self.snapshots.kept true self.fits_together.snapshots self.fits_together)

-- whatever a stop leaves where the device failed stands for a front of the tail
pub invariant_of-self-then-is_err-clause-at_a_stop : goal.invariant_of-self-then-is_err-clause-at_a_stop
invariant_of-self-then-is_err-clause-at_a_stop g c = λ keeps image may.
    let self = c.args.self.now in
    let new = c.append_run.new.cells in
    let plant = plant_in self.executor in
    let digest = digest_of (system_in self.executor) in
    let v = view_of self in
    let kept : self.cells.keeps ≡ true = sym c.append_run.ensures.counts.keeps ∙ keeps in
    let valid : fault_of plant ≡ None = subst (λ p. fault_of p ≡ None) c.system.ensures.plant c.keeps_its_rules.ensures.plant in
    let news = records_of plant v.acked v.acked_counts v.number v.tail in
    let are : AreRecords (self.journal.last + 1) c.deref.result.now news = subst (λ bs. AreRecords (self.journal.last + 1) bs news) (sym c.deref.ensures.value) (are-records plant v self.bodies.items self.fits_together (self.journal.last + 1) (ap (λ (n : ℕ). n + 1) self.of_journal.last)) in
    let stops = stops-stand plant digest self.journal v.acked v.acked_counts v.number v.saved self.cells (self.at_rest kept c.if-self.false) valid v.tail (front-runs plant v self.bodies.items self.fits_together) new (c.append_run.ensures.leaves kept news are) in
    front-of plant digest (size_of new) (view_by (committed_in self.executor) self.acked_counts self.number self.tail.items (states_in self.executor) self.counts c.append_run.new.self self.marks.items self.snapshots (jobs_in self.executor) true) image
    (subst (λ (bytes : ℕ). StandsForFront plant digest bytes v image) (sym c.append_run.ensures.counts.size)
    (leaves_now (BODY + 1) (StandsForFront plant digest (size_of self.cells) v) self.cells new stops image may))

-- whatever a stop leaves now stands for a front of the tail
pub returns-then-self-clause-stops : goal.returns-then-self-clause-stops
returns-then-self-clause-stops g c = λ keeps.
    let self = c.args.self.now in
    front-now (plant_in self.executor) (digest_of (system_in self.executor)) (view_of self) self.cells (self.at_a_stop keeps)

pub returns-then-is_empty-clause-stops : goal.returns-then-is_empty-clause-stops
returns-then-is_empty-clause-stops g c = λ keeps.
    let self = c.args.self.now in
    front-now (plant_in self.executor) (digest_of (system_in self.executor)) (view_of self) self.cells (self.at_a_stop keeps)

pub returns-then-is_err-clause-stops : goal.returns-then-is_err-clause-stops
returns-then-is_err-clause-stops g c = λ keeps.
    let self = c.args.self.now in
    let plant = plant_in self.executor in
    let digest = digest_of (system_in self.executor) in
    let v = view_of self in
    let valid : fault_of plant ≡ None = subst (λ p. fault_of p ≡ None) c.system.ensures.plant c.keeps_its_rules.ensures.plant in
    let news = records_of plant v.acked v.acked_counts v.number v.tail in
    let are : AreRecords (self.journal.last + 1) c.deref.result.now news = subst (λ bs. AreRecords (self.journal.last + 1) bs news) (sym c.deref.ensures.value) (are-records plant v self.bodies.items self.fits_together (self.journal.last + 1) (ap (λ (n : ℕ). n + 1) self.of_journal.last)) in
    stops-stand plant digest self.journal v.acked v.acked_counts v.number v.saved self.cells (self.at_rest keeps c.if-self.false) valid v.tail (front-runs plant v self.bodies.items self.fits_together) c.append_run.new.cells (c.append_run.ensures.leaves keeps news are)

pub returns-clause-stops : goal.returns-clause-stops
returns-clause-stops g c = λ keeps.
    let self = c.args.self.now in
    let plant = plant_in self.executor in
    let digest = digest_of (system_in self.executor) in
    let v = view_of self in
    let valid : fault_of plant ≡ None = subst (λ p. fault_of p ≡ None) c.system.ensures.plant c.keeps_its_rules.ensures.plant in
    let news = records_of plant v.acked v.acked_counts v.number v.tail in
    let are : AreRecords (self.journal.last + 1) c.deref.result.now news = subst (λ bs. AreRecords (self.journal.last + 1) bs news) (sym c.deref.ensures.value) (are-records plant v self.bodies.items self.fits_together (self.journal.last + 1) (ap (λ (n : ℕ). n + 1) self.of_journal.last)) in
    stops-stand plant digest self.journal v.acked v.acked_counts v.number v.saved self.cells (self.at_rest keeps c.if-self.false) valid v.tail (front-runs plant v self.bodies.items self.fits_together) c.append_run.new.cells (c.append_run.ensures.leaves keeps news are)

pub returns-then-is_empty-clause-event : goal.returns-then-is_empty-clause-event
returns-then-is_empty-clause-event g c =
    let self = c.args.self.now in
    let v = view_of self in
    let none : v.tail ≡ [] = ap (map fired_of) (nil_from_length self.tail.items (omega (arith, eqb-true (vec_len self.tail) 0 (sym c.is_empty.ensures ∙ c.if-is_empty.true)))) in (
      λ broken. false≢true (sym c.if-self.false ∙ broken),
      omega (arith, ap length none),
      nothing-new (plant_in self.executor) v self.bodies.items self.fits_together none,
    )

pub returns-then-is_empty-clause-counts : goal.returns-then-is_empty-clause-counts
returns-then-is_empty-clause-counts g c = λ some whole.
    let self = c.args.self.now in
    absurd (some (ap (map fired_of) (nil_from_length self.tail.items (omega (arith, eqb-true (vec_len self.tail) 0 (sym c.is_empty.ensures ∙ c.if-is_empty.true))))))
