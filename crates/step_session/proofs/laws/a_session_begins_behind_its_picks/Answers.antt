use Rattle.std.proofs.Common.{ap, map}
use Rattle.plant_model.specs.Runs.{fold}
use Rattle.plant_model.specs.Step.{initial_states}
use Rattle.run_text.specs.Alone.{alone}
use Rattle.run_text.specs.Runs.{chosen}
use Rattle.step_session.proofs.Placing.{placed-fired}
use Rattle.step_session.proofs.laws.a_session_begins_behind_its_picks.Goals as goal

pub returns-clause-fired : goal.returns-clause-fired
returns-clause-fired c = λ plant picks.
    let first = initial_states plant in
    placed-fired plant (chosen plant first 1 picks) first (c.a_run_is_printed_by_its_choices_and_its_end.ensures.allowed plant picks)

pub returns-clause-stands : goal.returns-clause-stands
returns-clause-stands c = λ plant picks.
    let first = initial_states plant in
    ap (λ ds. fold plant first (map alone ds)) (placed-fired plant (chosen plant first 1 picks) first (c.a_run_is_printed_by_its_choices_and_its_end.ensures.allowed plant picks))
