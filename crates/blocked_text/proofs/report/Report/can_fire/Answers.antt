use Rattle.std.proofs.Common.{◌∙◌}
use Rattle.blocked_text.specs.Report.{plant_in}
use Rattle.blocked_text.proofs.Firing.{can-fire-known}
use Rattle.blocked_text.proofs.report.Report.can_fire.Goals as goal

pub returns : goal.returns
returns c = c.has_allowed.ensures ∙ can-fire-known (plant_in c.args.self.now) c.args.self.now.states.now c.args.connector
