use Rattle.blocked_text.proofs.Reasoning.{none-of, right}
use Rattle.plant_model.specs.Choice.{plant_interactions}
use Rattle.blocked_text.proofs.laws.a_reason_is_right.Goals as goal

pub returns : goal.returns
returns c = record {
  right = λ plant states n i r there known. right plant states n i there r known;
  none = λ plant states n i there. none-of plant states (plant_interactions plant) n i there;
}
