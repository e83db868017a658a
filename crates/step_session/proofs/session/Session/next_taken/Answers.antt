use Rattle.std.proofs.Common.{◌+◌, subst, sym}
use Rattle.plant_model.specs.Choice.{IsAllowed}
use Rattle.plant_model.specs.Chosen.{choice_of}
use Rattle.step_core.specs.Running.{states_in}
use Rattle.run_text.specs.Picks.{take_of}
use Rattle.run_text.proofs.Takes.{fires-allowed}
use Rattle.step_session.specs.SessionOf.{plant_stepped}
use Rattle.step_session.proofs.session.Session.next_taken.Goals as goal

pub returns-in-Fires-clause-allowed : goal.returns-in-Fires-clause-allowed
returns-in-Fires-clause-allowed g c =
    let session = c.args.self.now in
    let choice = choice_of c.in-Fires.choice in
    subst (λ states. IsAllowed (plant_stepped session) states choice) session.stands
    (fires-allowed (plant_stepped session) (states_in session.run) (c.len.result + 1) (take_of c.in-Some.field-0.take) choice (sym c.in-Fires.ensures)).0
