use Rattle.run_text.proofs.Takes.{named-fired, taken-allowed, weighted-weighs}
use Rattle.run_text.proofs.laws.a_pick_fires_a_choice_of_the_state.Goals as goal

pub returns-clause-allowed : goal.returns-clause-allowed
returns-clause-allowed c = λ plant states take choice is. taken-allowed plant states take choice is

pub returns-clause-by_name : goal.returns-clause-by_name
returns-clause-by_name c = λ plant states choice allowed. named-fired plant states choice allowed

pub returns-clause-by_weight : goal.returns-clause-by_weight
returns-clause-by_weight c = λ plant states number weights choice is. weighted-weighs plant states number weights choice is
