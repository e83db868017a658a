use Rattle.std.proofs.Common.{◌+◌, ◌≡◌, ℕ, IfErr, IfOk, List, None, length, true, sym, ◌∙◌, ap, subst, arith}
use Rattle.std.proofs.lemmas.Result.{IfOk-weaker}
use Rattle.disk_model.specs.declared.cells.TheConstants.{FIRST_BODY}
use Rattle.disk_model.specs.Cells.{Cell, MayBe, Settles, seen_cells}
use Rattle.disk_model.specs.DiskState.{DiskState, Reads, size_of}
use Rattle.disk_model.specs.Reading.{leaves_reading, reads_seen}
use Rattle.disk_model.proofs.RunLemmas.{leaves_sync, settles, stage_start}
use Rattle.plant_model.specs.Plant.{PlantDefinition}
use Rattle.plant_model.specs.System.{plant_of, digest_of}
use Rattle.plant_image.specs.Faults.{fault_of}
use Rattle.recovery.specs.Booting.{IsBootFault, has_failed}
use Rattle.recovery.specs.OldImage.{OldWasRead, old_fault_of, todays_cells, todays_size}
use Rattle.recovery.proofs.PartlyLoaded.{judged_counts}
use Rattle.recovery.proofs.old_image.judge_old.Goals as goal

-- after the sync the device is read alone
module _ (g : _) (c : goal.After-into_disk g) where
  abbrev old : DiskState
  old = g.D.Disk.state c.args.disk

  abbrev mid : DiskState
  mid = g.D.Disk.state c.sync.new.self

  abbrev new : DiskState
  new = g.D.Disk.state c.into_disk.result

  reads : Reads (has_failed c.read-judged.result) mid new
  reads = subst (λ (s : DiskState). Reads (has_failed c.read-judged.result) s new) c.new.ensures
      (subst (λ (s : DiskState). Reads (has_failed c.read-judged.result) c.new.result s) (sym c.into_disk.ensures) c.read-judged.ensures.reads)

  keeps_mid : old.keeps ≡ true → mid.keeps ≡ true
  keeps_mid keeps = c.in-Ok.ensures.counts.keeps ∙ keeps

  settled : old.keeps ≡ true → Settles (FIRST_BODY + 1) old mid
  settled keeps = settles (FIRST_BODY + 1) old mid (c.in-Ok.ensures.ok keeps)

pub returns-clause-counts : goal.returns-clause-counts
returns-clause-counts g c = judged_counts c.read-judged.result (old g c) (mid g c) (new g c) c.in-Ok.ensures.counts (reads g c)

pub returns-clause-leaves : goal.returns-clause-leaves
returns-clause-leaves g c keeps =
    leaves_reading (FIRST_BODY + 1) (MayBe (FIRST_BODY + 1) (old g c)) (old g c) (mid g c) (new g c)
    (leaves_sync (FIRST_BODY + 1) (MayBe (FIRST_BODY + 1) (old g c)) (old g c) (old g c) (mid g c) (omega arith) (stage_start (FIRST_BODY + 1) (old g c)) (c.in-Ok.ensures.ok keeps))
    (reads g c) (keeps_mid g c keeps)

pub returns-clause-same : goal.returns-clause-same
returns-clause-same g c keeps = reads_seen (FIRST_BODY + 1) (mid g c) (new g c) (reads g c) (keeps_mid g c keeps) ∙ (settled g c keeps).same

pub returns-clause-read : goal.returns-clause-read
returns-clause-read g c =
    let plant : PlantDefinition = plant_of c.args.system.now in
    let digest : List ℕ = digest_of c.args.system.now in
    IfOk-weaker c.read-judged.result (OldWasRead plant digest (mid g c)) (OldWasRead plant digest (old g c))
    (λ standing was. record {
      cells = was.cells;
      seen = λ keeps. was.seen (keeps_mid g c keeps) ∙ ap (todays_cells (length plant.atoms)) (settled g c keeps).same;
      sound = subst (λ (n : ℕ). fault_of plant digest (todays_size n) was.cells ≡ None) c.in-Ok.ensures.counts.size was.sound;
      is = was.is;
    })
    (subst (λ (s : DiskState). IfOk c.read-judged.result (OldWasRead plant digest s)) c.new.ensures c.read-judged.ensures.read)

pub returns-clause-refused : goal.returns-clause-refused
returns-clause-refused g c keeps =
    let plant : PlantDefinition = plant_of c.args.system.now in
    let digest : List ℕ = digest_of c.args.system.now in
    let at_mid : IfErr c.read-judged.result (IsBootFault (old_fault_of plant digest (size_of (mid g c)) (seen_cells (FIRST_BODY + 1) (mid g c)))) =
    subst (λ (s : DiskState). s.keeps ≡ true → IfErr c.read-judged.result (IsBootFault (old_fault_of plant digest (size_of s) (seen_cells (FIRST_BODY + 1) s)))) c.new.ensures c.read-judged.ensures.refused (keeps_mid g c keeps) in
    subst (λ (cells : List Cell). IfErr c.read-judged.result (IsBootFault (old_fault_of plant digest (size_of (old g c)) cells))) (settled g c keeps).same
    (subst (λ (n : ℕ). IfErr c.read-judged.result (IsBootFault (old_fault_of plant digest n (seen_cells (FIRST_BODY + 1) (mid g c))))) c.in-Ok.ensures.counts.size at_mid)
