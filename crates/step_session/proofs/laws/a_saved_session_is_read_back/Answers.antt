use Rattle.std.proofs.Common.{◌≡◌, ◌∙◌, ap}
use Rattle.plant_model.specs.Step.{initial_states}
use Rattle.recorded_picks.specs.Laws.{named_picks}
use Rattle.run_text.specs.Runs.{chosen}
use Rattle.step_session.specs.Answers.{session_by_lines}
use Rattle.step_session.specs.Behind.{places_of, session_behind}
use Rattle.step_session.specs.Session.{fired_in}
use Rattle.step_session.proofs.Firing.{fired-allowed}
use Rattle.step_session.proofs.Keeping.{lines-there}
use Rattle.step_session.proofs.Placing.{behind-there, fired-placed}
use Rattle.step_session.proofs.laws.a_saved_session_is_read_back.Goals as goal

pub returns-clause-file : goal.returns-clause-file
returns-clause-file c = λ numbers plant picks lines well.
    let session = session_by_lines plant picks lines in
    c.any_saved_run_is_read_back.ensures.file numbers plant (fired_in plant session) well
    (fired-allowed plant session.fired (initial_states plant))

pub returns-clause-again : goal.returns-clause-again
returns-clause-again c = λ plant picks lines few.
    let session = session_by_lines plant picks lines in
    c.any_saved_run_is_read_back.ensures.again plant (fired_in plant session)
    (fired-allowed plant session.fired (initial_states plant)) few

pub returns-clause-goes_on : goal.returns-clause-goes_on
returns-clause-goes_on c = λ plant picks lines few.
    let session = session_by_lines plant picks lines in
    let first = initial_states plant in
    let same : chosen plant first 1 (named_picks 1 (fired_in plant session)) ≡ fired_in plant session =
    c.any_saved_run_is_read_back.ensures.again plant (fired_in plant session) (fired-allowed plant session.fired first) few in
    ap (places_of plant first) same ∙
    fired-placed plant session.fired first
    (lines-there plant lines (session_behind plant picks)
    (behind-there plant picks (c.a_run_is_printed_by_its_choices_and_its_end.ensures.allowed plant picks)))
