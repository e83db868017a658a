use Rattle.std.proofs.Common.{◌+◌, ◌≡◌, ◌≢◌, ◌<◌, ◌≤◌, ℕ, true, false, get_or, length, None}
use Rattle.disk_model.specs.DiskState.{Counts, IsUnchanged}
use Rattle.disk_model.specs.Cells.{cell, seen_cells, Leaves, OldOrEmpty}
use Rattle.disk_model.specs.declared.calls.Known.TheVariants.{Full}
use Rattle.disk_model.specs.Steps.{ReadEmpty, SeenEmptied}
use Rattle.disk_model.proofs.run.close_gates.Given as goal

abbrev pub invariant-loop-k : goal.invariant-loop-k
invariant-loop-k g l = record {
  counts : Counts false false (g.D.Disk.state l.initial.disk) (g.D.Disk.state l.disk);
  full : (g.D.Disk.state l.initial.disk).keeps ≡ true → l.known ≡ Full → (i : ℕ) → l.k-index ≤ i → i < length l.ks → cell (seen_cells (g.row.B + 1) (g.D.Disk.state l.disk)) (get_or l.ks i 0) ≢ None;
  leaves : (g.D.Disk.state l.initial.disk).keeps ≡ true → Leaves (g.row.B + 1) (OldOrEmpty (g.row.B + 1) (g.D.Disk.state l.initial.disk) l.ks) (g.D.Disk.state l.initial.disk) (g.D.Disk.state l.disk);
  seen : (g.D.Disk.state l.initial.disk).keeps ≡ true → SeenEmptied (g.row.B + 1) l.k-index l.ks (g.D.Disk.state l.initial.disk) (g.D.Disk.state l.disk);
  untouched : (g.D.Disk.state l.initial.disk).keeps ≡ true → ReadEmpty (g.row.B + 1) (g.D.Disk.state l.initial.disk) l.ks → IsUnchanged (g.D.Disk.state l.initial.disk) (g.D.Disk.state l.disk);
}
