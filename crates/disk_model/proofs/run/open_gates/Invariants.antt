use Rattle.std.proofs.Common.{◌+◌, ◌≡◌, ℕ, List, true, false}
use Rattle.disk_model.specs.DiskState.{Counts}
use Rattle.disk_model.specs.Cells.{Leaves, EmptyOrNew}
use Rattle.disk_model.specs.Steps.{AreFirm, AreClosed, IsFirm, SeenOpened}
use Rattle.disk_model.proofs.run.open_gates.Given as goal

abbrev pub invariant-loop-k : goal.invariant-loop-k
invariant-loop-k g l = record {
  counts : Counts false false (g.D.Disk.state l.initial.disk) (g.D.Disk.state l.disk);
  firm : (g.D.Disk.state l.initial.disk).keeps ≡ true → (j : ℕ) (body : List ℕ) → IsFirm (g.row.B + 1) (g.D.Disk.state l.initial.disk) j body → IsFirm (g.row.B + 1) (g.D.Disk.state l.disk) j body;
  leaves : (g.D.Disk.state l.initial.disk).keeps ≡ true → (bodies : List (List ℕ)) → AreFirm (g.row.B + 1) (g.D.Disk.state l.initial.disk) l.ks bodies → AreClosed (g.row.B + 1) (g.D.Disk.state l.initial.disk) l.ks
      → Leaves (g.row.B + 1) (EmptyOrNew (g.row.B + 1) (g.D.Disk.state l.initial.disk) l.ks bodies) (g.D.Disk.state l.initial.disk) (g.D.Disk.state l.disk);
  seen : (g.D.Disk.state l.initial.disk).keeps ≡ true → SeenOpened (g.row.B + 1) l.k-index l.ks (g.D.Disk.state l.initial.disk) (g.D.Disk.state l.disk);
}
