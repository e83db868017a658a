use Rattle.std.proofs.Common.{rules}
use Rattle.disk_model.proofs.cells.Cells.sync.Goals as goal

pub returns-clause-counts : goal.returns-clause-counts
returns-clause-counts g c = search rules

pub returns-clause-settles : goal.returns-clause-settles
returns-clause-settles g c = search rules

pub returns-clause-syncs : goal.returns-clause-syncs
returns-clause-syncs g c = search rules
