-- The plant after the picks is in the state that is drawn.
use Rattle.plant_model.specs.System.{plant_of}
use Rattle.step_core.specs.Running.{plant_in, states_in}
use Rattle.plant_tasks.proofs.DrawnAfter.{drawn_in_state}
use Rattle.plant_tasks.proofs.drawing.draw_state.Goals as goal

pub returns-clause-printed : goal.returns-clause-printed
returns-clause-printed g c =
    drawn_in_state c.args.shown (g.P.Picks.left c.args.picks.now) (plant_in c.in_ok-run.run') (plant_of c.args.system.now) (states_in c.in_ok-run.run') c.args.drawn _ _
    c.in_ok-run.ensures.plant c.in_ok-run.ensures.states c.in_ok-draw_run.ensures
