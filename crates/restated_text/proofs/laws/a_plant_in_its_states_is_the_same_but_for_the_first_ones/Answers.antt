use Rattle.std.proofs.Common.{refl}
use Rattle.restated_text.proofs.First.{first_states_are, all_else_is_the_same}
use Rattle.restated_text.proofs.laws.a_plant_in_its_states_is_the_same_but_for_the_first_ones.Goals as goal

pub returns : goal.returns
returns c = record {
  first = λ plant states many fit held. first_states_are plant states many fit held;
  atoms = λ plant states. all_else_is_the_same plant states;
  connectors = λ plant states. refl;
  rules = λ plant states. refl;
}
