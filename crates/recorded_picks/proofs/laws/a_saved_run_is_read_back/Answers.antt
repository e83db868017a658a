use Rattle.plant_model.specs.Step.{initial_states}
use Rattle.run_text.specs.Runs.{chosen}
use Rattle.recorded_picks.proofs.ReadBack.{file-read, line-read}
use Rattle.recorded_picks.proofs.RunAgain.{chosen-again, chosen-allowed, none-refused}
use Rattle.recorded_picks.proofs.laws.a_saved_run_is_read_back.Goals as goal

pub returns-clause-line : goal.returns-clause-line
returns-clause-line c = λ numbers plant states choice well allowed. line-read plant well.valid well.formed well.names states choice allowed numbers

pub returns-clause-file : goal.returns-clause-file
returns-clause-file c = λ numbers plant picks well.
    let start = initial_states plant in
    file-read plant well.valid well.formed well.names numbers 1 (chosen plant start 1 picks) (λ choice in_it. chosen-allowed plant picks start 1 choice in_it)

pub returns-clause-again : goal.returns-clause-again
returns-clause-again c = λ plant picks. chosen-again plant picks (initial_states plant) 1 1

pub returns-clause-none_refused : goal.returns-clause-none_refused
returns-clause-none_refused c = λ plant picks. none-refused plant picks (initial_states plant) 1 1
