use Rattle.plant_model.proofs.NoDeadlock.{order-sound, stuck-told}
use Rattle.plant_model.proofs.laws.priorities_lose_no_choice.Goals as goal

pub returns : goal.returns
returns c = λ plant states sound. stuck-told plant states (order-sound plant sound)
