use Rattle.plant_model.specs.Step.{initial_states}
use Rattle.run_text.proofs.AloneRuns.{allowed-runs}
use Rattle.run_text.proofs.Chosen.{chosen-allowed, takes-nothing, told-ended, told-refused, told-stuck}
use Rattle.run_text.proofs.Takes.{taken-stuck}
use Rattle.run_text.specs.Runs.{chosen, state_after}
use Rattle.run_text.proofs.laws.a_run_is_printed_by_its_choices_and_its_end.Goals as goal

pub returns-clause-run : goal.returns-clause-run
returns-clause-run c = λ plant picks none.
    allowed-runs plant none (chosen plant (initial_states plant) 1 picks) (initial_states plant) (chosen-allowed plant picks (initial_states plant) 1)

pub returns-clause-allowed : goal.returns-clause-allowed
returns-clause-allowed c = λ plant picks. chosen-allowed plant picks (initial_states plant) 1

pub returns-clause-ended : goal.returns-clause-ended
returns-clause-ended c = λ parts plant picks all. told-ended parts plant picks (initial_states plant) 1 all

pub returns-clause-refused : goal.returns-clause-refused
returns-clause-refused c = λ parts plant picks refusal is. told-refused parts plant picks (initial_states plant) 1 refusal is

pub returns-clause-stuck : goal.returns-clause-stuck
returns-clause-stuck c = λ plant picks following comes none. takes-nothing plant picks (initial_states plant) 1 following comes none

pub returns-clause-takes_nothing : goal.returns-clause-takes_nothing
returns-clause-takes_nothing c = λ plant picks following comes none.
    taken-stuck plant (state_after plant (initial_states plant) picks) following.take (takes-nothing plant picks (initial_states plant) 1 following comes none)

pub returns-clause-stuck_printed : goal.returns-clause-stuck_printed
returns-clause-stuck_printed c = λ parts plant picks few none. told-stuck parts plant picks (initial_states plant) 1 few none
