use Rattle.std.proofs.Common.{◌+◌, ◌≡◌, ◌≤◌, vec_capacity, List, ℕ, None, length, replicate, true, false, inr, refl, sym, ◌∙◌, ap, subst, rules}
use Rattle.std.proofs.lemmas.Result.{err_from_is_err_and}
use Rattle.disk_model.specs.declared.cells.TheConstants.{BODY}
use Rattle.disk_model.specs.Cells.{Cell, cell, seen_cells}
use Rattle.disk_model.specs.Counting.{up_to_one}
use Rattle.disk_model.specs.DiskState.{DiskState}
use Rattle.disk_model.specs.Moments.{seen_after}
use Rattle.gated_journal.specs.Stops.{HasCleaned, IsReady}
use Rattle.gated_journal.specs.declared.ring.Ring.{Ring}
use Rattle.record_replay.specs.Records.{count_of}
use Rattle.plant_model.specs.Plant.{PlantDefinition}
use Rattle.plant_model.specs.System.{plant_of, digest_of}
use Rattle.plant_model.specs.declared.system.System.{System}
use Rattle.plant_model.specs.declared.limits.TheConstants.{MAX_ATOMS}
use Rattle.plant_image.specs.Contents.{contents_of, ring_in}
use Rattle.plant_image.specs.Reading.{contents_in}
use Rattle.plant_image.specs.declared.standing.Standing.{Standing}
use Rattle.plant_core.specs.Snapshots.{SnapshotFields}
use Rattle.step_executor.specs.Executing.{jobs_in, system_in}
use Rattle.trimmer.specs.Covered.{MarkFields, saved_count}
use Rattle.recovery.specs.MadeOf.{WasRead}
use Rattle.recovery.proofs.PartlyLoaded.{device_loaded, device_read, device_refused, told_before}
use Rattle.recovery.proofs.Prepared.{where-err, counts_one, counts_two, inside_read, known_many, last_read, marked_read, marks_read, none_read, none_written_read, rests_read, shows_read, still_old, stops_read, whole_read, within_read}
use Rattle.recovery.proofs.booting.prepare.Goals as goal

-- nothing stands
pub returns-in_err-standing-clause-refused : goal.returns-in_err-standing-clause-refused
returns-in_err-standing-clause-refused g c old synced keeps =
    let plant : PlantDefinition = plant_of c.args.system.now in
    let digest : List ℕ = digest_of c.args.system.now in
    let mid : DiskState = c.args.cells.now in
    let p = err_from_is_err_and c.from_residual.result c.from_residual.ensures.1 in
    rw (p.1, p.2) (told_before plant digest old mid synced keeps c.in_err-standing.field-0.0
    (device_refused plant digest mid c.args.loaded.now c.args.judged c.keeps_its_rules.ensures.few c.requires.loaded c.requires.judged (synced.counts.keeps ∙ keeps) c.in_err-standing.field-0.0 c.in_err-standing.was))

pub returns-in_err-standing-clause-stops : goal.returns-in_err-standing-clause-stops
returns-in_err-standing-clause-stops g c old synced keeps =
    still_old (plant_of c.args.system.now) (digest_of c.args.system.now) old c.args.cells.now (synced.leaves keeps)

pub returns-in_err-standing-clause-cause : goal.returns-in_err-standing-clause-cause
returns-in_err-standing-clause-cause g c old synced =
    let p = err_from_is_err_and c.from_residual.result c.from_residual.ensures.1 in
    rw (p.1, p.2) (up_to_one false true old c.args.cells.now synced.counts)

pub take_memory-requires : goal.take_memory-requires
take_memory-requires g c =
    device_read (plant_of c.args.system.now) (digest_of c.args.system.now) c.args.cells.now c.args.loaded.now c.args.judged c.keeps_its_rules.ensures.few c.requires.loaded c.requires.judged c.in_ok-standing.standing c.in_ok-standing.was

pub returns-in_err-parts-clause-stops : goal.returns-in_err-parts-clause-stops
returns-in_err-parts-clause-stops g c old synced keeps =
    still_old (plant_of c.args.system.now) (digest_of c.args.system.now) old c.args.cells.now (synced.leaves keeps)

pub returns-in_err-parts-clause-cause : goal.returns-in_err-parts-clause-cause
returns-in_err-parts-clause-cause g c old synced =
    let p = err_from_is_err_and c.from_residual-in_err-parts.result c.from_residual-in_err-parts.ensures.1 in
    rw (p.1, p.2) (up_to_one false true old c.args.cells.now synced.counts)

pub clean-requires-clause-inside : goal.clean-requires-clause-inside
clean-requires-clause-inside g c =
    inside_read (plant_of c.args.system.now) (digest_of c.args.system.now) c.args.cells.now c.in_ok-standing.standing (device_read (plant_of c.args.system.now) (digest_of c.args.system.now) c.args.cells.now c.args.loaded.now c.args.judged c.keeps_its_rules.ensures.few c.requires.loaded c.requires.judged c.in_ok-standing.standing c.in_ok-standing.was) c.in_ok-parts.parts.journal c.in_ok-parts.ensures.journal
    c.args.cells.now refl

pub clean-requires-clause-whole : goal.clean-requires-clause-whole
clean-requires-clause-whole g c =
    whole_read (plant_of c.args.system.now) (digest_of c.args.system.now) c.args.cells.now c.in_ok-standing.standing (device_read (plant_of c.args.system.now) (digest_of c.args.system.now) c.args.cells.now c.args.loaded.now c.args.judged c.keeps_its_rules.ensures.few c.requires.loaded c.requires.judged c.in_ok-standing.standing c.in_ok-standing.was) c.in_ok-parts.parts.journal c.in_ok-parts.ensures.journal

pub returns-in_err-clean-clause-refused : goal.returns-in_err-clean-clause-refused
returns-in_err-clean-clause-refused g c old synced keeps =
    let p = err_from_is_err_and c.from_residual-in_err-clean.result c.from_residual-in_err-clean.ensures.1 in
    rw (p.1, p.2) tt

pub returns-in_err-clean-clause-untouched : goal.returns-in_err-clean-clause-untouched
returns-in_err-clean-clause-untouched g c old synced keeps =
    let p = err_from_is_err_and c.from_residual-in_err-clean.result c.from_residual-in_err-clean.ensures.1 in
    rw (p.1, p.2) (λ other. absurd (other refl))

pub returns-in_err-clean-clause-stops : goal.returns-in_err-clean-clause-stops
returns-in_err-clean-clause-stops g c old synced keeps =
    let still : c.args.cells.now.keeps ≡ true = synced.counts.keeps ∙ keeps in
    let long : length c.in_ok-standing.standing.counts ≡ MAX_ATOMS = search rules in
    stops_read (plant_of c.args.system.now) (digest_of c.args.system.now) c.args.cells.now c.in_ok-standing.standing (device_read (plant_of c.args.system.now) (digest_of c.args.system.now) c.args.cells.now c.args.loaded.now c.args.judged c.keeps_its_rules.ensures.few c.requires.loaded c.requires.judged c.in_ok-standing.standing c.in_ok-standing.was) c.in_ok-parts.parts.journal c.in_ok-parts.ensures.journal long
    old c.clean.new.cells still synced.counts.size (synced.same keeps) (synced.leaves keeps) (c.clean.ensures.leaves still)

pub returns-clause-stops : goal.returns-clause-stops
returns-clause-stops g c old synced keeps =
    let still : c.args.cells.now.keeps ≡ true = synced.counts.keeps ∙ keeps in
    let long : length c.in_ok-standing.standing.counts ≡ MAX_ATOMS = search rules in
    stops_read (plant_of c.args.system.now) (digest_of c.args.system.now) c.args.cells.now c.in_ok-standing.standing (device_read (plant_of c.args.system.now) (digest_of c.args.system.now) c.args.cells.now c.args.loaded.now c.args.judged c.keeps_its_rules.ensures.few c.requires.loaded c.requires.judged c.in_ok-standing.standing c.in_ok-standing.was) c.in_ok-parts.parts.journal c.in_ok-parts.ensures.journal long
    old c.clean.new.cells still synced.counts.size (synced.same keeps) (synced.leaves keeps) (c.clean.ensures.leaves still)

pub returns-in_err-clean-clause-cause : goal.returns-in_err-clean-clause-cause
returns-in_err-clean-clause-cause g c old synced =
    let p = err_from_is_err_and c.from_residual-in_err-clean.result c.from_residual-in_err-clean.ensures.1 in
    rw (p.1, p.2) (counts_one old c.args.cells.now c.clean.new.cells synced.counts c.in_err-clean.ensures.counts)

pub returns-clause-cause : goal.returns-clause-cause
returns-clause-cause g c old synced = counts_two old c.args.cells.now c.clean.new.cells synced.counts c.in_ok-clean.ensures.counts

pub returns-clause-prepared : goal.returns-clause-prepared
returns-clause-prepared g c =
    let made = c.in_ok-parts.ensures in
    let of : System = system_in c.in_ok-parts.parts.executor in
    let plant : PlantDefinition = plant_of of in
    let digest : List ℕ = digest_of of in
    let mid : DiskState = c.args.cells.now in
    let new : DiskState = c.clean.new.cells in
    let standing : Standing = c.in_ok-standing.standing in
    let was : WasRead plant digest mid standing = subst (λ sys. WasRead (plant_of sys) (digest_of sys) mid standing) (sym made.of_system)
    (device_read (plant_of c.args.system.now) (digest_of c.args.system.now) c.args.cells.now c.args.loaded.now c.args.judged c.keeps_its_rules.ensures.few c.requires.loaded c.requires.judged c.in_ok-standing.standing c.in_ok-standing.was) in
    let first : Ring = c.in_ok-parts.parts.journal in
    let j : Ring = c.clean.new.self in
    let kept : j ≡ first = c.clean.ensures.journal in
    let journal : j ≡ ring_in (length plant.atoms) (contents_in standing.held) =
    subst (λ sys. j ≡ ring_in (length (plant_of sys).atoms) (contents_in standing.held)) (sym made.of_system) (kept ∙ made.journal) in
    let marks : List MarkFields = c.in_ok-parts.parts.marks.items in
    let known : SnapshotFields = c.in_ok-parts.parts.snapshots in
    let long : length standing.counts ≡ MAX_ATOMS = search rules in
    record {
      of_system = made.of_system;
      plant = record {
        same = made.states ∙ sym made.acked;
        none_away = subst (λ sys. jobs_in c.in_ok-parts.parts.executor ≡ replicate (length (plant_of sys).atoms) None) (sym made.of_system) made.none_away;
        counts = λ atom. subst (λ (ns : List ℕ). count_of ns atom ≤ j.last) (sym made.counts) (last_read plant digest mid standing was j journal atom);
        room = record { tail = made.room.tail; bodies = made.room.bodies; room_of_tail = made.room.room_of_tail; room_of_bodies = made.room.room_of_bodies };
        atoms = ap (λ (r : Ring). r.atoms) journal;
        inside = inside_read plant digest mid standing was j journal new c.clean.ensures.counts.size;
        marks = marks_read plant digest mid standing was j journal marks made.marks;
        room_of_marks = subst (λ (r : Ring). r.ring ≤ vec_capacity c.in_ok-parts.parts.marks) (sym kept) made.room_of_marks;
        known = known_many plant digest mid standing was j journal known made.snapshots;
        known_within = λ atom. subst (λ (ns : List ℕ). saved_count known.saved atom ≤ count_of ns atom) (sym made.counts) (within_read plant digest mid standing was j journal known made.snapshots atom);
        none_asked = none_read plant digest mid standing was j journal known made.snapshots;
        none_written = none_written_read plant digest mid standing was j journal known made.snapshots;
        rests = λ holds.
            let still : mid.keeps ≡ true = sym c.clean.ensures.counts.keeps ∙ holds in
            let cleaned : HasCleaned first (seen_cells (BODY + 1) mid) (seen_cells (BODY + 1) new) = seen_after (BODY + 1) (HasCleaned first (seen_cells (BODY + 1) mid)) mid new (c.clean.ensures.leaves still) in
            rests_read plant digest mid standing was j journal long new _ _ known still c.clean.ensures.counts.size made.acked made.counts made.snapshots
            (subst (λ r. IsReady r new) (sym kept) (c.in_ok-clean.ensures.cleaned still))
            (subst (λ r. HasCleaned r (seen_cells (BODY + 1) mid) (seen_cells (BODY + 1) new)) (sym kept) cleaned);
        marked = λ holds.
            let still : mid.keeps ≡ true = sym c.clean.ensures.counts.keeps ∙ holds in
            let cleaned : HasCleaned first (seen_cells (BODY + 1) mid) (seen_cells (BODY + 1) new) = seen_after (BODY + 1) (HasCleaned first (seen_cells (BODY + 1) mid)) mid new (c.clean.ensures.leaves still) in
            marked_read plant digest mid standing was j journal long new marks still made.marks (subst (λ r. HasCleaned r (seen_cells (BODY + 1) mid) (seen_cells (BODY + 1) new)) (sym kept) cleaned);
      };
    }

pub returns-clause-booted : goal.returns-clause-booted
returns-clause-booted g c old synced keeps =
    let made = c.in_ok-parts.ensures in
    let journal : c.clean.new.self ≡ ring_in (length (plant_of c.args.system.now).atoms) (contents_in c.in_ok-standing.standing.held) = c.clean.ensures.journal ∙ made.journal in
    shows_read (plant_of c.args.system.now) (digest_of c.args.system.now) c.args.cells.now c.in_ok-standing.standing (device_read (plant_of c.args.system.now) (digest_of c.args.system.now) c.args.cells.now c.args.loaded.now c.args.judged c.keeps_its_rules.ensures.few c.requires.loaded c.requires.judged c.in_ok-standing.standing c.in_ok-standing.was) c.clean.new.self journal
    old _ _ c.in_ok-parts.parts.marks.items c.in_ok-parts.parts.snapshots _ (synced.counts.keeps ∙ keeps) synced.counts.size (synced.same keeps) made.acked made.counts made.marks made.snapshots made.none_away

-- the device failed while the cells were emptied
pub returns-in_err-clean-clause-left : goal.returns-in_err-clean-clause-left
returns-in_err-clean-clause-left g c old synced keeps =
    let plant : PlantDefinition = plant_of c.args.system.now in
    let mid : DiskState = c.args.cells.now in
    let new : DiskState = c.clean.new.cells in
    let still : mid.keeps ≡ true = synced.counts.keeps ∙ keeps in
    let was = device_read (plant_of c.args.system.now) (digest_of c.args.system.now) c.args.cells.now c.args.loaded.now c.args.judged c.keeps_its_rules.ensures.few c.requires.loaded c.requires.judged c.in_ok-standing.standing c.in_ok-standing.was in
    let first : Ring = c.in_ok-parts.parts.journal in
    let seen : seen_cells (BODY + 1) mid ≡ seen_cells (BODY + 1) old = synced.same keeps in
    let ring : first ≡ ring_in (length plant.atoms) (contents_of (length plant.atoms) (seen_cells (BODY + 1) old)) =
    c.in_ok-parts.ensures.journal ∙ ap (ring_in (length plant.atoms)) (was.is.led.contents ∙ ap (contents_of (length plant.atoms)) (was.seen still ∙ seen)) in
    let cleaned : HasCleaned first (seen_cells (BODY + 1) mid) (seen_cells (BODY + 1) new) = seen_after (BODY + 1) (HasCleaned first (seen_cells (BODY + 1) mid)) mid new (c.clean.ensures.leaves still) in
    where-err c.from_residual-in_err-clean.result
    (inr (subst (λ (r : Ring). HasCleaned r (seen_cells (BODY + 1) old) (seen_cells (BODY + 1) new)) ring
    (subst (λ (cells : List Cell). HasCleaned first cells (seen_cells (BODY + 1) new)) seen cleaned)))

-- what was loaded is what a read gives
pub clean-requires-clause-found : goal.clean-requires-clause-found
clean-requires-clause-found g c keeps k inside =
    let loaded = device_loaded (plant_of c.args.system.now) (digest_of c.args.system.now) c.args.cells.now c.args.loaded.now c.args.judged c.keeps_its_rules.ensures.few c.requires.loaded c.requires.judged c.in_ok-standing.standing c.in_ok-standing.was keeps in
    ap (λ (l : List Cell). cell l k) (c.deref.ensures.value ∙ loaded)
