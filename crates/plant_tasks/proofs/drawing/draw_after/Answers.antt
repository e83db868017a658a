-- What is drawn after the picks that a text has, or that are given.
use Rattle.std.proofs.Common.{ap, subst, sym}
use Rattle.std.specs.Prelude.{IfSome}
use Rattle.std.specs.Io.KnownBytes.{Appends}
use Rattle.std.specs.Option.{option_copied}
use Rattle.plant_model.specs.System.{plant_of}
use Rattle.plant_tasks.specs.Drawn.{drawn_in, drawn_part}
use Rattle.plant_tasks.specs.Ending.{OnDone}
use Rattle.plant_tasks.specs.Picked.{picks_said}
use Rattle.plant_tasks.proofs.AfterPicks.{after_asked}
use Rattle.plant_tasks.proofs.drawing.draw_after.Goals as goal

pub returns-in_ok-picks-in-Some-clause-printed : goal.returns-in_ok-picks-in-Some-clause-printed
returns-in_ok-picks-in-Some-clause-printed g c =
    let plant = plant_of c.args.system.now in
    let input = g.F.Read.remaining c.args.input in
    subst (λ picking. OnDone c.task_ended-in-Some.result (IfSome (drawn_part c.args.shown plant c.args.drawn (option_copied picking) input)
    (Appends (g.W.Write.contents c.args.output.now) (g.W.Write.contents c.draw_state-in-Some.new.output))))
    (sym c.in-Some.is)
    (after_asked c.task_ended-in-Some.result c.draw_state-in-Some.result plant _ (picks_said c.in-Some.picking.now plant input) (drawn_in c.args.shown plant c.args.drawn) _ _
    c.task_ended-in-Some.ensures c.in_ok-picks-in-Some.ensures c.draw_state-in-Some.ensures.refusal c.draw_state-in-Some.ensures.printed
    (λ fault is other. ap g.W.Write.contents (c.draw_state-in-Some.ensures.nothing_printed fault is other)))
