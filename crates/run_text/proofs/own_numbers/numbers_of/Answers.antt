use Rattle.std.proofs.Common.{arith}
use Rattle.plant_model.specs.Choice.{choices}
use Rattle.step_core.specs.Running.{plant_in, states_in}
use Rattle.run_text.proofs.ByConnector.{between-ends}
use Rattle.run_text.proofs.own_numbers.numbers_of.Goals as goal

pub returns-clause-numbers : goal.returns-clause-numbers
returns-clause-numbers c =
    between-ends c.args.connector (choices (plant_in c.args.run.now) (states_in c.args.run.now)) c.first_from.result c.first_from-2.result
    c.first_from-2.ensures.within c.first_from.ensures.within
    (λ place d low. omega (arith, c.from.ensures, c.first_from.ensures.before place d low))
    (λ place d from within. omega (arith, c.from.ensures, c.first_from.ensures.from_there place d from within))
    (λ place d low. omega (arith, c.from-2.ensures, c.first_from-2.ensures.before place d low))
    (λ place d from within. omega (arith, c.from-2.ensures, c.first_from-2.ensures.from_there place d from within))
