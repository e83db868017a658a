use Rattle.recovery.proofs.Lifetimes.{life-holds, life-runs, life-stands}
use Rattle.recovery.proofs.laws.a_life_goes_on.Goals as goal

pub returns-clause-stands : goal.returns-clause-stands
returns-clause-stands c = λ plant digest bytes first last periods states number stood life. life-stands plant digest bytes periods first last states number stood life

pub returns-clause-run : goal.returns-clause-run
returns-clause-run c = λ plant digest bytes first last periods states number stood life. life-runs plant digest bytes periods first last states number stood life

pub returns-clause-acknowledged : goal.returns-clause-acknowledged
returns-clause-acknowledged c = λ plant digest bytes first last periods life. life-holds plant digest bytes periods first last life
