use Rattle.std.proofs.Common.{refl}
use Rattle.disk_model.proofs.memory.MemDisk.fuse_change.Goals as goal

pub returns-clause-fuse : goal.returns-clause-fuse
returns-clause-fuse c = refl
