use Rattle.std.proofs.Common.{ap, arith, length}
use Rattle.std.proofs.lemmas.List.{length-map}
use Rattle.plant_model.specs.Interaction.{interaction_of}
use Rattle.plant_model.proofs.system.System.interaction_count.Goals as goal

pub returns : goal.returns
returns c =
    let system = c.args.self.now in
    omega (arith, c.len.ensures, system.interactions.ok.0, length-map system.interactions.items interaction_of, ap length system.listed)
