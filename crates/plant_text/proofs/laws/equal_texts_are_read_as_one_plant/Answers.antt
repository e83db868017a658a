use Rattle.std.proofs.Common.{ap, sym, ◌∙◌}
use Rattle.sha2.specs.Sha256.{sha256}
use Rattle.plant_model.specs.System.{plant_of}
use Rattle.plant_text.specs.Meaning.{meaning}
use Rattle.plant_text.proofs.OnePlant.{one_meaning}
use Rattle.plant_text.proofs.laws.equal_texts_are_read_as_one_plant.Goals as goal

pub returns-clause-plant : goal.returns-clause-plant
returns-clause-plant c = λ one_text other_text one other same is means. one_meaning one_text (plant_of one) (plant_of other) is (ap meaning same ∙ means)

pub returns-clause-digest : goal.returns-clause-digest
returns-clause-digest c = λ one_text other_text one other same is means. is ∙ ap sha256 same ∙ sym means
