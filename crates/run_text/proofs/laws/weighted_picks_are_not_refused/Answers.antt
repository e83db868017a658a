use Rattle.std.proofs.Common.{arith}
use Rattle.plant_model.specs.Step.{initial_states}
use Rattle.run_text.proofs.Takes.{weighted-not-refused}
use Rattle.run_text.proofs.laws.weighted_picks_are_not_refused.Goals as goal

pub returns : goal.returns
returns c = λ plant weights numbers few. weighted-not-refused plant weights numbers (initial_states plant) 1 1 (omega (arith, few))
