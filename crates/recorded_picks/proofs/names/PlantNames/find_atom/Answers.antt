use Rattle.std.proofs.Common.{◌∙◌}
use Rattle.petri_atom.specs.Name.{is_same_text}
use Rattle.plant_words.proofs.Positions.{position_of_mapped}
use Rattle.plant_model.specs.System.{plant_of}
use Rattle.recorded_picks.proofs.names.PlantNames.find_atom.Goals as goal

pub returns-in-None : goal.returns-in-None
returns-in-None c =
    c.atom_named.ensures ∙ position_of_mapped (λ a. a.name) (λ known. is_same_text known c.args.name.now) (plant_of c.args.self.now.system.now).atoms
