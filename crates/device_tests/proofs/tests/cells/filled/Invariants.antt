use Rattle.std.proofs.Common.{◌≡◌}
use Rattle.disk_model.specs.DiskState.{size_of}
use Rattle.disk_model.specs.MemDisk.{state_of}
use Rattle.device_tests.proofs.tests.cells.filled.Given as goal

abbrev pub invariant-loop-k : goal.invariant-loop-k
invariant-loop-k l = size_of (state_of l.disk) ≡ 5120
