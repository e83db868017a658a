use Rattle.std.proofs.Common.{ℕ, arith, subst}
use Rattle.plant_image.specs.Standing.{StandsFor}
use Rattle.plant_model.specs.Runs.{fold}
use Rattle.recovery.specs.Lifetimes.{all_kept}
use Rattle.plant_model.specs.Step.{initial_states}
use Rattle.recovery.proofs.Lifetimes.{life-holds, life-runs, life-stands}
use Rattle.recovery.proofs.laws.lifetimes.Goals as goal

pub returns-clause-stands : goal.returns-clause-stands
returns-clause-stands c = λ plant digest bytes first last periods stood life.
    subst (λ (n : ℕ). StandsFor plant digest bytes last (fold plant (initial_states plant) (all_kept plant periods)) n) (omega arith)
    (life-stands plant digest bytes periods first last (initial_states plant) 0 stood life)

pub returns-clause-run : goal.returns-clause-run
returns-clause-run c = λ plant digest bytes first last periods stood life. life-runs plant digest bytes periods first last (initial_states plant) 0 stood life

pub returns-clause-acknowledged : goal.returns-clause-acknowledged
returns-clause-acknowledged c = λ plant digest bytes first last periods life. life-holds plant digest bytes periods first last life
