-- What is printed after the picks that a text has, or that are given, and which of them is refused.
use Rattle.std.proofs.Common.{refl}
use Rattle.run_text.specs.Choices.{choices_after}
use Rattle.plant_tasks.specs.Printed.{plant_read, why_text}
use Rattle.plant_tasks.proofs.AfterPicks.{after_done}
use Rattle.plant_tasks.proofs.doing.print_task.Goals as goal

pub returns-in_ok-picks-in-Choices : goal.returns-in_ok-picks-in-Choices
returns-in_ok-picks-in-Choices g c =
    after_done g.W.Write.contents g.S.Write.contents _ _ c.args.plant.now _ c.in-Choices.picking (choices_after (plant_read c.args.plant.now)) _ c.print_choices_after.result _ _ _ _
    c.in-Choices.is refl refl refl refl refl c.task_ended.ensures c.in_ok-picks-in-Choices.ensures
    c.print_choices_after.ensures.refusal c.print_choices_after.ensures.choices c.print_choices_after.ensures.nothing_written

pub returns-in_ok-picks-in-Why : goal.returns-in_ok-picks-in-Why
returns-in_ok-picks-in-Why g c =
    after_done g.W.Write.contents g.S.Write.contents _ _ c.args.plant.now _ c.in-Why.picking (why_text c.args.plant.now) _ c.print_why.result _ _ _ _
    c.in-Why.is refl refl refl refl refl c.task_ended-in-Why.ensures c.in_ok-picks-in-Why.ensures
    c.print_why.ensures.refusal c.print_why.ensures.printed c.print_why.ensures.nothing_printed
