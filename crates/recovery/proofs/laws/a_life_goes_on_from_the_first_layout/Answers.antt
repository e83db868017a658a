use Rattle.std.proofs.Common.{length}
use Rattle.disk_model.specs.DiskState.{size_of}
use Rattle.plant_model.specs.Runs.{fold}
use Rattle.plant_model.specs.Step.{initial_states}
use Rattle.recovery.proofs.Lifetimes.{brought-stands, front-runs, front-stands, life-holds}
use Rattle.recovery.proofs.laws.a_life_goes_on_from_the_first_layout.Goals as goal

pub returns-clause-begins : goal.returns-clause-begins
returns-clause-begins c plant digest bytes ring cells first made states number stood brought may = brought-stands plant digest bytes ring cells first made brought may states number stood

pub returns-clause-stands : goal.returns-clause-stands
returns-clause-stands c plant digest bytes ring cells first last made before periods stood brought may life =
    front-stands plant digest (size_of made) first last before periods (initial_states plant)
    (brought-stands plant digest bytes ring cells first made brought may (fold plant (initial_states plant) before) (length before) stood) life

pub returns-clause-run : goal.returns-clause-run
returns-clause-run c plant digest bytes ring cells first last made before periods stood run brought may life =
    front-runs plant digest (size_of made) first last before periods (initial_states plant)
    (brought-stands plant digest bytes ring cells first made brought may (fold plant (initial_states plant) before) (length before) stood) life run

pub returns-clause-acknowledged : goal.returns-clause-acknowledged
returns-clause-acknowledged c plant digest bytes first last periods life = life-holds plant digest bytes periods first last life
