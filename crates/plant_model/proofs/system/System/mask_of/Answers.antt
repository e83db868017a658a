use Rattle.std.proofs.Common.{◌∙◌, ap, map}
use Rattle.plant_model.specs.Interaction.{interaction_of}
use Rattle.plant_model.specs.Lookup.{mask_of}
use Rattle.plant_model.proofs.system.System.mask_of.Goals as goal

pub returns : goal.returns
returns c =
    c.mask_among.ensures ∙
    ap (λ all. mask_of all c.args.connector c.args.atoms.now) (ap (map interaction_of) c.deref.ensures.value ∙ c.args.self.now.listed)
