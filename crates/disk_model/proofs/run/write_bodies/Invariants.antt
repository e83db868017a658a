use Rattle.std.proofs.Common.{◌+◌, ◌≡◌, true, false}
use Rattle.disk_model.specs.DiskState.{Counts}
use Rattle.disk_model.specs.Cells.{Leaves, MayBe}
use Rattle.disk_model.specs.Steps.{SeenStaged}
use Rattle.disk_model.proofs.run.write_bodies.Given as goal

abbrev pub invariant-loop-i : goal.invariant-loop-i
invariant-loop-i g l = record {
  counts : Counts false false (g.D.Disk.state l.initial.disk) (g.D.Disk.state l.disk);
  leaves : (g.D.Disk.state l.initial.disk).keeps ≡ true → Leaves (g.row.B + 1) (MayBe (g.row.B + 1) (g.D.Disk.state l.initial.disk)) (g.D.Disk.state l.initial.disk) (g.D.Disk.state l.disk);
  seen : (g.D.Disk.state l.initial.disk).keeps ≡ true → SeenStaged (g.row.B + 1) l.i l.ks l.bodies (g.D.Disk.state l.initial.disk) (g.D.Disk.state l.disk);
}
