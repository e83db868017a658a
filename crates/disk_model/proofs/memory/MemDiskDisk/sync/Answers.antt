use Rattle.std.proofs.Common.{refl, rules}
use Rattle.disk_model.proofs.memory.MemDiskDisk.sync.Goals as goal

pub returns-clause-counts : goal.returns-clause-counts
returns-clause-counts c = record {
  size = search rules;
  keeps = refl;
  failures = refl;
  syncs = c.saturating_add-self-2.ensures;
}
