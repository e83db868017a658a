use Rattle.std.proofs.Common.{◌≡◌, ◌+◌, ◌-◌, ◌≤◌, ℕ, ℤ, List, sym, ◌∙◌, ap, subst, [], ◌∷◌, ◌++◌, length, map, take, arith, true, None, Some}
use Rattle.std.specs.List.{list_all}
use Rattle.std.proofs.lemmas.List.{take-append-le}
use Rattle.petri_atom.specs.Definition.{is_well_formed}
use Rattle.record_codec.specs.Fired.{FiredFields, IsFired, fired_in}
use Rattle.record_replay.specs.Records.{record_by, record_delivered}
use Rattle.plant_model.specs.Chosen.{choice_of, firing_of}
use Rattle.plant_model.specs.Delivery.{IsDelivered}
use Rattle.plant_model.specs.Laws.{IsInRange}
use Rattle.plant_model.specs.Plant.{PlantDefinition}
use Rattle.plant_model.specs.Step.{next, transfer}
use Rattle.step_executor.specs.Outstanding.{is_out}
use Rattle.plant_model.specs.Rules.{fault_of}
use Rattle.disk_model.specs.Cells.{seen_cells}
use Rattle.disk_model.specs.DiskState.{size_of}
use Rattle.disk_model.specs.declared.cells.TheConstants.{BODY}
use Rattle.step_executor.specs.Executing.{committed_in, jobs_in, plant_in, states_in, system_in}
use Rattle.plant_model.specs.System.{digest_of, plant_of}
use Rattle.plant_model.specs.declared.limits.TheConstants.{MAX_ATOMS}
use Rattle.plant_model.specs.declared.choice.Choice.{Choice}
use Rattle.plant_model.specs.declared.fired.Firing.{Firing}
use Rattle.plant_model.specs.declared.system.System.{System}
use Rattle.plant_core.specs.Invariant.{AreMarked, AreNextSlots, AreOnTheWay, FitsTogether, IsAtRest, IsFrontOf, IsJournalOf}
use Rattle.plant_core.specs.Marks.{mark_of}
use Rattle.plant_core.specs.Plants.{view_of}
use Rattle.plant_core.specs.View.{fired_number, view_by, with_fired}
use Rattle.plant_core.proofs.AtRest.{front-longer}
use Rattle.plant_core.proofs.Copies.{ways-fired}
use Rattle.plant_core.proofs.Firing.{bodies-many, count-so-far, next-in-range, one-more, told-many, view-of-fired}
use Rattle.plant_core.proofs.plant.Plant.go_on.Goals as goal

pub invariant_of-step : goal.invariant_of-step
invariant_of-step g c =
    let self = c.args.self.now in
    let plant = plant_in self.executor in
    let v = view_of self in
    let choice = choice_of c.args.choice.now in
    let firing = firing_of c.args.choice.now c.args.inputs.now in
    let rows = c.fire_telling.new.delivered in
    let valid : fault_of plant ≡ None = subst (λ p. fault_of p ≡ None) c.system.ensures.plant c.keeps_its_rules.ensures.plant in
    let formed : list_all is_well_formed plant.atoms ≡ true = subst (λ (p : PlantDefinition). list_all is_well_formed p.atoms ≡ true) c.system.ensures.plant c.keeps_its_rules.ensures.atoms in
    let range : IsInRange plant choice = c.an_allowed_choice_is_in_range.ensures plant v.present choice valid (c.sure_is_allowed.ensures plant v.present (is_out v.away) choice c.requires.sure) in
    let delivers : IsDelivered choice.moves (transfer plant v.present firing) rows = subst (λ vs. IsDelivered choice.moves (transfer plant v.present (firing_of c.args.choice.now vs)) rows) c.as_slice.ensures.values c.fire_telling.ensures.delivered in
    let told = c.a_record_of_what_was_delivered_is_that_of_the_choice.ensures plant v.present v.counts (fired_number v + 1) firing rows (told-many (transfer plant v.present firing) choice.moves rows delivers) delivers in
    record {
      each = told-many (transfer plant v.present firing) choice.moves rows delivers;
      in_range = subst (λ (n : ℕ). IsFired (record_delivered (n + 1) choice rows self.counts)) (sym c.fired-number.ensures)
          (subst IsFired (sym told) (next-in-range plant v self.bodies.items self.fits_together firing (c.sure_is_allowed.ensures plant v.present (is_out v.away) choice c.requires.sure, c.requires.inputs) valid formed c.requires.last));
    }

pub count_participants-requires : goal.count_participants-requires
count_participants-requires g c =
    let self = c.args.self.now in
    let plant = plant_in self.executor in
    let v = view_of self in
    let choice = choice_of c.args.choice.now in
    let valid : fault_of plant ≡ None = subst (λ p. fault_of p ≡ None) c.system.ensures.plant c.keeps_its_rules.ensures.plant in
    let few : length plant.atoms ≤ MAX_ATOMS = subst (λ (p : PlantDefinition). length p.atoms ≤ MAX_ATOMS) c.system.ensures.plant c.keeps_its_rules.ensures.few in
    let range : IsInRange plant choice = c.an_allowed_choice_is_in_range.ensures plant v.present choice valid (c.sure_is_allowed.ensures plant v.present (is_out v.away) choice c.requires.sure) in
    record {
      rising = range.rising;
      there = λ m at. omega (arith, range.of_plant m at, few);
      room = λ m at. omega (arith, count-so-far plant v self.bodies.items self.fits_together m.atom, c.requires.last);
    }

pub push_record-requires : goal.push_record-requires
push_record-requires g c =
    let self = c.args.self.now in
    omega (arith, bodies-many (plant_in self.executor) (view_of self) self.bodies.items self.fits_together, self.room_of_bodies, c.requires.short)

-- there is room for one mark more
pub push_mark-requires-clause-room : goal.push_mark-requires-clause-room
push_mark-requires-clause-room g c =
    let self = c.args.self.now in
    omega (arith, self.fits_together.marks_many, self.room_of_marks, c.requires.room)

pub invariant_of-self-2 : goal.invariant_of-self-2
invariant_of-self-2 g c =
    let self = c.args.self.now in
    let plant = plant_in self.executor in
    let v = view_of self in
    let choice = choice_of c.args.choice.now in
    let firing = firing_of c.args.choice.now c.args.inputs.now in
    let rows = c.fire_telling.new.delivered in
    let valid : fault_of plant ≡ None = subst (λ p. fault_of p ≡ None) c.system.ensures.plant c.keeps_its_rules.ensures.plant in
    let delivers : IsDelivered choice.moves (transfer plant v.present firing) rows = subst (λ vs. IsDelivered choice.moves (transfer plant v.present (firing_of c.args.choice.now vs)) rows) c.as_slice.ensures.values c.fire_telling.ensures.delivered in
    let told = c.a_record_of_what_was_delivered_is_that_of_the_choice.ensures plant v.present v.counts (fired_number v + 1) firing rows (told-many (transfer plant v.present firing) choice.moves rows delivers) delivers in
    let made : record_delivered (c.fired-number.result + 1) choice rows self.counts ≡ record_by plant v.present v.counts (fired_number v + 1) firing =
    ap (λ (n : ℕ). record_delivered (n + 1) choice rows self.counts) c.fired-number.ensures ∙ told in
    let held : map fired_in c.push_record.new.bodies.items ≡ map fired_in self.bodies.items ++ Some (record_by plant v.present v.counts (fired_number v + 1) firing) ∷ [] =
    c.push_record.ensures.held ∙ ap (λ (r : FiredFields). map fired_in self.bodies.items ++ Some r ∷ []) made in
    let marked : c.push_mark.new.marks.items ≡ self.marks.items ++ mark_of (record_by plant v.present v.counts (fired_number v + 1) firing) ∷ [] =
    c.push_mark.ensures.marks ∙ ap (λ (r : FiredFields). self.marks.items ++ mark_of r ∷ []) made in
    let kept : Firing = record { choice = c.args.choice.now; inputs = c.args.inputs.now } in
    let longer : c.push_reserved.new.self.items ≡ self.tail.items ++ kept ∷ [] =
    c.push_reserved.ensures.items ∙
    ap (λ (chosen : Choice). self.tail.items ++ (record { choice = chosen; inputs = c.copy-2.result }) ∷ []) c.copy.ensures ∙
    ap (λ (values : List ℤ). self.tail.items ++ (record { choice = c.args.choice.now; inputs = values }) ∷ []) c.copy-2.ensures in
    let stepped : states_in c.fire_telling.new.self ≡ next plant v.present firing = subst (λ vs. states_in c.fire_telling.new.self ≡ next plant v.present (firing_of c.args.choice.now vs)) c.as_slice.ensures.values c.fire_telling.ensures.next in
    let more = one-more plant v self.bodies.items self.fits_together firing (c.sure_is_allowed.ensures plant v.present (is_out v.away) choice c.requires.sure, c.requires.inputs) c.push_record.new.bodies.items held c.requires.short c.requires.room c.requires.last in
    let view = view-of-fired plant (committed_in self.executor) (committed_in c.fire_telling.new.self) v.present (states_in c.fire_telling.new.self) self.acked_counts self.counts c.count_participants.new.counts self.number self.tail.items c.push_reserved.new.self.items kept self.journal self.marks.items c.push_mark.new.marks.items self.snapshots v.away (jobs_in c.fire_telling.new.self) v.away self.broken c.fire_telling.ensures.committed longer stepped c.count_participants.ensures marked c.fire_telling.ensures.jobs in
    let run = c.fire_telling.new.self in
    let seen = view_by (committed_in run) self.acked_counts self.number c.push_reserved.new.self.items (states_in run) c.count_participants.new.counts self.journal c.push_mark.new.marks.items self.snapshots (jobs_in run) self.broken in
    record {
      fits_together = subst (λ p. FitsTogether p seen c.push_record.new.bodies.items) (sym c.fire_telling.ensures.plant)
          (subst (λ w. FitsTogether plant w c.push_record.new.bodies.items) (sym view)
          more);
      room_of_tail = omega (arith, self.room_of_tail, c.push_reserved.ensures.capacity);
      room_of_bodies = omega (arith, self.room_of_bodies, c.push_record.ensures.capacity);
      room_of_marks = omega (arith, self.room_of_marks, c.push_mark.ensures.capacity);
      of_journal = subst (λ p. IsJournalOf p self.number self.journal self.cells) (sym c.fire_telling.ensures.plant) self.of_journal;
      at_rest = λ keeps whole. subst (λ (s : System). IsAtRest (plant_of s) (digest_of s) self.journal (committed_in run) self.acked_counts self.number self.snapshots.saved self.cells) (sym c.fire_telling.ensures.system)
          (subst (λ states. IsAtRest plant (digest_of (system_in self.executor)) self.journal states self.acked_counts self.number self.snapshots.saved self.cells) (sym c.fire_telling.ensures.committed) (self.at_rest keeps whole));
      slots_known = λ keeps whole. subst (λ p. AreNextSlots p self.snapshots.next_slots (seen_cells (BODY + 1) self.cells)) (sym c.fire_telling.ensures.plant) (self.slots_known keeps whole);
      marked = λ keeps whole. subst (λ p. AreMarked p seen (seen_cells (BODY + 1) self.cells)) (sym c.fire_telling.ensures.plant)
          (ap (take (self.number + 1 - self.journal.base)) marked ∙
          take-append-le (self.number + 1 - self.journal.base) self.marks.items (mark_of (record_by plant v.present v.counts (fired_number v + 1) firing) ∷ []) (omega (arith, self.fits_together.marks_many)) ∙
          self.marked keeps whole);
      on_the_way = λ keeps whole. subst (λ p. AreOnTheWay p seen (seen_cells (BODY + 1) self.cells)) (sym c.fire_telling.ensures.plant)
          (subst (λ w. AreOnTheWay plant w (seen_cells (BODY + 1) self.cells)) (sym view)
          (ways-fired plant v self.bodies.items self.fits_together (seen_cells (BODY + 1) self.cells) (self.at_rest keeps whole).leads (self.on_the_way keeps whole) firing));
      at_a_stop = λ keeps image may. subst (λ (s : System). IsFrontOf (plant_of s) (digest_of s) (size_of self.cells) seen image) (sym c.fire_telling.ensures.system)
          (subst (λ w. IsFrontOf plant (digest_of (system_in self.executor)) (size_of self.cells) w image) (sym view)
          (front-longer plant (digest_of (system_in self.executor)) (size_of self.cells) v firing image (self.at_a_stop keeps image may)));
    }

pub returns-clause-view : goal.returns-clause-view
returns-clause-view g c =
    let self = c.args.self.now in
    let plant = plant_in self.executor in
    let v = view_of self in
    let choice = choice_of c.args.choice.now in
    let firing = firing_of c.args.choice.now c.args.inputs.now in
    let rows = c.fire_telling.new.delivered in
    let valid : fault_of plant ≡ None = subst (λ p. fault_of p ≡ None) c.system.ensures.plant c.keeps_its_rules.ensures.plant in
    let delivers : IsDelivered choice.moves (transfer plant v.present firing) rows = subst (λ vs. IsDelivered choice.moves (transfer plant v.present (firing_of c.args.choice.now vs)) rows) c.as_slice.ensures.values c.fire_telling.ensures.delivered in
    let told = c.a_record_of_what_was_delivered_is_that_of_the_choice.ensures plant v.present v.counts (fired_number v + 1) firing rows (told-many (transfer plant v.present firing) choice.moves rows delivers) delivers in
    let made : record_delivered (c.fired-number.result + 1) choice rows self.counts ≡ record_by plant v.present v.counts (fired_number v + 1) firing =
    ap (λ (n : ℕ). record_delivered (n + 1) choice rows self.counts) c.fired-number.ensures ∙ told in
    let marked : c.push_mark.new.marks.items ≡ self.marks.items ++ mark_of (record_by plant v.present v.counts (fired_number v + 1) firing) ∷ [] =
    c.push_mark.ensures.marks ∙ ap (λ (r : FiredFields). self.marks.items ++ mark_of r ∷ []) made in
    let kept : Firing = record { choice = c.args.choice.now; inputs = c.args.inputs.now } in
    let longer : c.push_reserved.new.self.items ≡ self.tail.items ++ kept ∷ [] =
    c.push_reserved.ensures.items ∙
    ap (λ (chosen : Choice). self.tail.items ++ (record { choice = chosen; inputs = c.copy-2.result }) ∷ []) c.copy.ensures ∙
    ap (λ (values : List ℤ). self.tail.items ++ (record { choice = c.args.choice.now; inputs = values }) ∷ []) c.copy-2.ensures in
    let stepped : states_in c.fire_telling.new.self ≡ next plant v.present firing = subst (λ vs. states_in c.fire_telling.new.self ≡ next plant v.present (firing_of c.args.choice.now vs)) c.as_slice.ensures.values c.fire_telling.ensures.next in
    view-of-fired plant (committed_in self.executor) (committed_in c.fire_telling.new.self) v.present (states_in c.fire_telling.new.self) self.acked_counts self.counts c.count_participants.new.counts self.number self.tail.items c.push_reserved.new.self.items kept self.journal self.marks.items c.push_mark.new.marks.items self.snapshots v.away (jobs_in c.fire_telling.new.self) v.away self.broken c.fire_telling.ensures.committed longer stepped c.count_participants.ensures marked c.fire_telling.ensures.jobs
