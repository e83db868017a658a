use Rattle.std.proofs.Common.{arith}
use Rattle.plant_model.specs.Step.{initial_states}
use Rattle.recorded_picks.proofs.ReadBack.{file-read}
use Rattle.recorded_picks.proofs.RunAgain.{turn-again, turn-allowed}
use Rattle.recorded_picks.proofs.laws.any_saved_run_is_read_back.Goals as goal

pub returns-clause-file : goal.returns-clause-file
returns-clause-file c = λ numbers plant cs well all.
    file-read plant well.valid well.formed well.names numbers 1 cs (λ choice in_it. turn-allowed plant cs (initial_states plant) all choice in_it)

pub returns-clause-again : goal.returns-clause-again
returns-clause-again c = λ plant cs all few. turn-again plant cs (initial_states plant) 1 1 all (omega (arith, few))
