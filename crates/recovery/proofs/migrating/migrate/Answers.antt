use Rattle.std.proofs.Common.{rules, ◌+◌, ◌*◌, ◌≡◌, Bool, ℕ, IfOk, List, MatchResult, Option, Result, Ok, length, false, true, sym, ◌∙◌, ap, subst}
use Rattle.disk_model.specs.Cells.{seen_cells}
use Rattle.disk_model.specs.Counting.{up_to_one}
use Rattle.disk_model.specs.DiskState.{Counts, CountsUpTo, DiskState, size_of}
use Rattle.disk_model.specs.declared.cells.TheConstants.{FIRST_BODY}
use Rattle.plant_model.specs.Plant.{PlantDefinition}
use Rattle.plant_model.specs.System.{plant_of, digest_of}
use Rattle.plant_model.specs.declared.limits.TheConstants.{MAX_ATOMS}
use Rattle.plant_image.specs.declared.standing.Standing.{Standing}
use Rattle.plant_image.specs.Contents.{last_number}
use Rattle.plant_image.specs.Reading.{contents_in}
use Rattle.plant_image.specs.declared.fault.ImageFault.{ImageFault}
use Rattle.recovery.specs.Booting as booting
use Rattle.recovery.specs.Migrating.{IsMigrateFault, is_new_disk, is_old_disk}
use Rattle.recovery.specs.OldImage.{OldWasRead, old_fault_of, todays_cells, todays_size}
use Rattle.recovery.specs.Writing.{HasWritten}
use Rattle.recovery.specs.declared.fault.BootFault.{BootFault}
use Rattle.recovery.proofs.Migrated.{migrated_read, new_alone, old_alone, room_read, sound_read, stops_read, told_new, uncalled_counts, uncalled_leaves}
use Rattle.recovery.proofs.migrating.migrate.Goals as goal

pub returns-in_default-clause-new_stops : goal.returns-in_default-clause-new_stops
returns-in_default-clause-new_stops g c keeps keeps_new states number stood =
    uncalled_leaves (plant_of c.args.system.now) (digest_of c.args.system.now) states number (g.D2.Disk.state c.args.new)

pub returns-in-Err-clause-new_counts : goal.returns-in-Err-clause-new_counts
returns-in-Err-clause-new_counts g c =
    let s : DiskState = g.D2.Disk.state c.args.new in
    let most : ℕ = 6 + 3 * length (plant_of c.args.system.now).atoms in
    subst (λ (failed : Bool). CountsUpTo failed most s s) (sym (ap is_new_disk c.into.ensures ∙ old_alone c.in-Err.fault)) (uncalled_counts most s)

pub returns-in-Err-clause-new_stops : goal.returns-in-Err-clause-new_stops
returns-in-Err-clause-new_stops g c keeps keeps_new states number stood =
    uncalled_leaves (plant_of c.args.system.now) (digest_of c.args.system.now) states number (g.D2.Disk.state c.args.new)

-- what was read of the old device
module _ (plant : PlantDefinition) (digest : List ℕ) (old : DiskState) (judged : Result Standing BootFault) (standing : Standing) where
  was_read : IfOk judged (OldWasRead plant digest old) → judged ≡ Ok standing → OldWasRead plant digest old standing
  was_read read is = subst (λ (r : Result Standing BootFault). IfOk r (OldWasRead plant digest old)) is read

pub write_standing-written-requires-clause-room : goal.write_standing-written-requires-clause-room
write_standing-written-requires-clause-room g c =
    let plant : PlantDefinition = plant_of c.args.system.now in
    let digest : List ℕ = digest_of c.args.system.now in
    let old : DiskState = g.D1.Disk.state c.args.old in
    let standing : Standing = c.in-Ok-judged.standing in
    let long : length standing.counts ≡ MAX_ATOMS = search rules in
    room_read plant digest (todays_size (size_of old)) old.keeps (todays_cells (length plant.atoms) (seen_cells (FIRST_BODY + 1) old)) standing
    (was_read plant digest old c.judge_old-old.result.1 standing c.judge_old-old.ensures.read c.in-Ok-judged.is) long

pub returns-in-Ok-written-clause-sound : goal.returns-in-Ok-written-clause-sound
returns-in-Ok-written-clause-sound g c keeps =
    let plant : PlantDefinition = plant_of c.args.system.now in
    let digest : List ℕ = digest_of c.args.system.now in
    let old : DiskState = g.D1.Disk.state c.args.old in
    let standing : Standing = c.in-Ok-judged.standing in
    sound_read plant digest (todays_size (size_of old)) old.keeps (todays_cells (length plant.atoms) (seen_cells (FIRST_BODY + 1) old)) standing
    (was_read plant digest old c.judge_old-old.result.1 standing c.judge_old-old.ensures.read c.in-Ok-judged.is) keeps

-- the old device was synced once
synced_once : (r : Result Standing BootFault) (standing : Standing) (old new : DiskState) → r ≡ Ok standing
    → MatchResult r (λ _. Counts false true old new) (λ fault. CountsUpTo (booting.is_disk fault) 1 old new) → CountsUpTo false 1 old new
synced_once r standing old new is counts =
    up_to_one false true old new (subst (λ (r : Result Standing BootFault). MatchResult r (λ _. Counts false true old new) (λ fault. CountsUpTo (booting.is_disk fault) 1 old new)) is counts)

pub returns-in-Ok-written-clause-old_counts : goal.returns-in-Ok-written-clause-old_counts
returns-in-Ok-written-clause-old_counts g c =
    synced_once c.judge_old-old.result.1 c.in-Ok-judged.standing (g.D1.Disk.state c.args.old) (g.D1.Disk.state c.judge_old-old.result.0) c.in-Ok-judged.is c.judge_old-old.ensures.counts

pub returns-in-Ok-written-clause-new_stops : goal.returns-in-Ok-written-clause-new_stops
returns-in-Ok-written-clause-new_stops g c keeps keeps_new states number stood =
    let plant : PlantDefinition = plant_of c.args.system.now in
    let digest : List ℕ = digest_of c.args.system.now in
    let old : DiskState = g.D1.Disk.state c.args.old in
    let standing : Standing = c.in-Ok-judged.standing in
    let start : DiskState = c.new-cells.result in
    stops_read plant digest (todays_size (size_of old)) old.keeps (todays_cells (length plant.atoms) (seen_cells (FIRST_BODY + 1) old)) standing
    (was_read plant digest old c.judge_old-old.result.1 standing c.judge_old-old.ensures.read c.in-Ok-judged.is) keeps states number stood
    (g.D2.Disk.state c.args.new) start c.write_standing-written.new.cells (g.D2.Disk.state c.into_disk-new.result) c.new-cells.ensures c.into_disk-new.ensures
    (c.write_standing-written.ensures.stops (ap (λ (s : DiskState). s.keeps) c.new-cells.ensures ∙ keeps_new))

pub returns-in-Ok-written-clause-migrated : goal.returns-in-Ok-written-clause-migrated
returns-in-Ok-written-clause-migrated g c keeps keeps_new =
    let plant : PlantDefinition = plant_of c.args.system.now in
    let digest : List ℕ = digest_of c.args.system.now in
    let old : DiskState = g.D1.Disk.state c.args.old in
    let standing : Standing = c.in-Ok-judged.standing in
    migrated_read plant digest (todays_size (size_of old)) old.keeps (todays_cells (length plant.atoms) (seen_cells (FIRST_BODY + 1) old)) standing
    (was_read plant digest old c.judge_old-old.result.1 standing c.judge_old-old.ensures.read c.in-Ok-judged.is) keeps c.args.ring (g.D2.Disk.state c.into_disk-new.result)
    (subst (λ (s : DiskState). HasWritten plant digest c.args.ring standing.states standing.counts (last_number (contents_in standing.held)) s) (sym c.into_disk-new.ensures)
    (c.in-Ok-written.ensures.written (ap (λ (s : DiskState). s.keeps) c.new-cells.ensures ∙ keeps_new)))

pub returns-clause-refused : goal.returns-clause-refused
returns-clause-refused g c keeps =
    let plant : PlantDefinition = plant_of c.args.system.now in
    let digest : List ℕ = digest_of c.args.system.now in
    let old : DiskState = g.D1.Disk.state c.args.old in
    let standing : Standing = c.in-Ok-judged.standing in
    let found : Option ImageFault = old_fault_of plant digest (size_of old) (seen_cells (FIRST_BODY + 1) old) in
    subst (IsMigrateFault found) (sym c.into-in-Err-written.ensures) (told_new found c.in-Err-written.fault
    (sound_read plant digest (todays_size (size_of old)) old.keeps (todays_cells (length plant.atoms) (seen_cells (FIRST_BODY + 1) old)) standing
    (was_read plant digest old c.judge_old-old.result.1 standing c.judge_old-old.ensures.read c.in-Ok-judged.is) keeps))

pub returns-clause-old_counts : goal.returns-clause-old_counts
returns-clause-old_counts g c =
    let old : DiskState = g.D1.Disk.state c.args.old in
    let judged : DiskState = g.D1.Disk.state c.judge_old-old.result.0 in
    subst (λ (failed : Bool). CountsUpTo failed 1 old judged) (sym (ap is_old_disk c.into-in-Err-written.ensures ∙ new_alone c.in-Err-written.fault))
    (synced_once c.judge_old-old.result.1 c.in-Ok-judged.standing old judged c.in-Ok-judged.is c.judge_old-old.ensures.counts)

pub returns-clause-new_stops : goal.returns-clause-new_stops
returns-clause-new_stops g c keeps keeps_new states number stood =
    let plant : PlantDefinition = plant_of c.args.system.now in
    let digest : List ℕ = digest_of c.args.system.now in
    let old : DiskState = g.D1.Disk.state c.args.old in
    let standing : Standing = c.in-Ok-judged.standing in
    let start : DiskState = c.new-cells.result in
    stops_read plant digest (todays_size (size_of old)) old.keeps (todays_cells (length plant.atoms) (seen_cells (FIRST_BODY + 1) old)) standing
    (was_read plant digest old c.judge_old-old.result.1 standing c.judge_old-old.ensures.read c.in-Ok-judged.is) keeps states number stood
    (g.D2.Disk.state c.args.new) start c.write_standing-written.new.cells (g.D2.Disk.state c.into_disk-new.result) c.new-cells.ensures c.into_disk-new.ensures
    (c.write_standing-written.ensures.stops (ap (λ (s : DiskState). s.keeps) c.new-cells.ensures ∙ keeps_new))
