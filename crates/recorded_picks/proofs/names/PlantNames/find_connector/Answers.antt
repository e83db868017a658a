use Rattle.std.proofs.Common.{◌∙◌}
use Rattle.petri_atom.specs.Name.{is_same_text}
use Rattle.plant_words.proofs.Positions.{position_of_mapped}
use Rattle.plant_model.specs.System.{plant_of}
use Rattle.recorded_picks.proofs.names.PlantNames.find_connector.Goals as goal

pub returns-in-None : goal.returns-in-None
returns-in-None c =
    c.connector_named.ensures ∙ position_of_mapped (λ w. w.name) (λ known. is_same_text known c.args.name.now) (plant_of c.args.self.now.system.now).wires
