use Rattle.std.proofs.Common.{◌≡◌, ◌+◌, ◌*◌, true, false}
use Rattle.disk_model.specs.DiskState.{Counts, Reads}
use Rattle.disk_model.specs.declared.cells.TheConstants.{BODY}
use Rattle.image_backup.specs.Copies.{AreCopied}
use Rattle.image_backup.proofs.copying.copy_behind_gate.Given as goal

abbrev pub invariant-loop-k : goal.invariant-loop-k
invariant-loop-k g l = record {
  reads : Reads false (g.D.Disk.state l.fn.image) (g.D.Disk.state l.image);
  counts : Counts false false (g.E.Disk.state l.fn.copy) (g.E.Disk.state l.copy);
  copied : (g.D.Disk.state l.fn.image).keeps ≡ true → (g.E.Disk.state l.fn.copy).keeps ≡ true
      → AreCopied 1 ((BODY + 1) * l.k + 1) (g.D.Disk.state l.fn.image) (g.E.Disk.state l.copy);
}
