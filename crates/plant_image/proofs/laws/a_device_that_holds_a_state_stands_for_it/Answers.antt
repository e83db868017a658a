use Rattle.plant_image.proofs.FormattedImages.{held_leads, held_stands}
use Rattle.plant_image.proofs.laws.a_device_that_holds_a_state_stands_for_it.Goals as goal

pub returns-clause-leads : goal.returns-clause-leads
returns-clause-leads c = λ plant digest ring bytes number states counts cells is room holds. held_leads plant digest ring bytes states counts number cells is room holds

pub returns-clause-stands : goal.returns-clause-stands
returns-clause-stands c = λ plant digest ring bytes number states counts cells is room holds. held_stands plant digest ring bytes states counts number cells is room holds
