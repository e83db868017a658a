-- What is printed is what is printed after the picks, by the state that they lead to.
use Rattle.std.proofs.Common.{◌∙◌}
use Rattle.part_lines.specs.Lookup.{rule_lines}
use Rattle.plant_tasks.specs.Printed.{plant_read}
use Rattle.plant_tasks.proofs.AfterPicks.{why_printed}
use Rattle.plant_tasks.proofs.doing.print_why.Goals as goal

pub returns-clause-printed : goal.returns-clause-printed
returns-clause-printed g c =
    why_printed _ (plant_read c.args.plant.now) _ _ _ (rule_lines c.args.plant.now.text.now) (g.P.Picks.left c.args.picks.now) _ _
    c.new-reasons.ensures c.states.ensures.states (c.deref.ensures.value ∙ c.in_ok-lines.ensures) c.in_ok-run.ensures.states c.in_ok-print_blocked.ensures
