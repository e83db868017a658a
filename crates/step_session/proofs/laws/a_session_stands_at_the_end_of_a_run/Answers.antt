use Rattle.plant_model.specs.Step.{initial_states}
use Rattle.run_text.proofs.AloneRuns.{allowed-runs}
use Rattle.step_session.specs.Answers.{session_by_lines}
use Rattle.step_session.specs.Behind.{session_behind}
use Rattle.step_session.specs.Session.{fired_in}
use Rattle.step_session.proofs.Firing.{fired-allowed}
use Rattle.step_session.proofs.Keeping.{lines-there}
use Rattle.step_session.proofs.Placing.{behind-there}
use Rattle.step_session.proofs.laws.a_session_stands_at_the_end_of_a_run.Goals as goal

pub returns-clause-run : goal.returns-clause-run
returns-clause-run c = λ plant picks lines none.
    let session = session_by_lines plant picks lines in
    allowed-runs plant none (fired_in plant session) (initial_states plant) (fired-allowed plant session.fired (initial_states plant))

pub returns-clause-each : goal.returns-clause-each
returns-clause-each c = λ plant picks lines.
    lines-there plant lines (session_behind plant picks)
    (behind-there plant picks (c.a_run_is_printed_by_its_choices_and_its_end.ensures.allowed plant picks))
