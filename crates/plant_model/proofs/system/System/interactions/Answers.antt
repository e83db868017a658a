use Rattle.std.proofs.Common.{◌∙◌, ap, map}
use Rattle.plant_model.specs.Interaction.{interaction_of}
use Rattle.plant_model.proofs.system.System.interactions.Goals as goal

pub returns : goal.returns
returns c = ap (map interaction_of) c.deref.ensures.value ∙ c.args.self.now.listed
