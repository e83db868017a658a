use Rattle.std.proofs.Common.{◌-◌, length}
use Rattle.file_disk.proofs.gathered.Gathered.write_runs.Given as goal

abbrev pub decreases-loop-run : goal.decreases-loop-run
decreases-loop-run g l = length l.self.marks.blocks.items - l.block
