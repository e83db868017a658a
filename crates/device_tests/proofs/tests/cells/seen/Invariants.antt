use Rattle.std.proofs.Common.{◌≡◌}
use Rattle.disk_model.specs.DiskState.{size_of}
use Rattle.device_tests.proofs.tests.cells.seen.Given as goal

abbrev pub invariant-loop-k : goal.invariant-loop-k
invariant-loop-k g l = size_of l.cells ≡ 5120
