use Rattle.std.proofs.Common.{◌+◌}
use Rattle.disk_model.proofs.CallLemmas.{open_of_full}
use Rattle.disk_model.proofs.calls.gate_is_open.Goals as goal

pub returns-in-Full-clause-gate : goal.returns-in-Full-clause-gate
returns-in-Full-clause-gate g c keeps = open_of_full (g.row.B + 1) c.args.k (g.D.Disk.state c.args.disk.now) c.requires.inside (c.requires.full keeps c.in-Full.is)
