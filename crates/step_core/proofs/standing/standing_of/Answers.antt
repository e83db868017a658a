use Rattle.std.specs.FinSet.{contains}
use Rattle.step_core.proofs.Restood.{stands-where-live}
use Rattle.step_core.proofs.standing.standing_of.Goals as goal

pub returns : goal.returns
returns c = stands-where-live c.args.system.now (contains c.args.rivals.now) c.live_of.result c.over_of.result c.live_of.ensures c.over_of.ensures
