use Rattle.plant_model.proofs.OfInteractions.{within-limits}
use Rattle.plant_model.proofs.laws.a_plant_is_within_limits.Goals as goal

pub returns : goal.returns
returns c = within-limits
