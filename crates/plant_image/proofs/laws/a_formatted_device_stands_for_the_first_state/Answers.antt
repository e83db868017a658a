use Rattle.plant_model.specs.Step.{initial_states}
use Rattle.plant_image.specs.Standing.{first_counts}
use Rattle.plant_image.proofs.FormattedImages.{first_has_room, held_stands}
use Rattle.plant_image.proofs.laws.a_formatted_device_stands_for_the_first_state.Goals as goal

pub returns : goal.returns
returns c = λ plant digest ring bytes cells is formatted. held_stands plant digest ring bytes (initial_states plant) (first_counts plant) 0 cells is (first_has_room plant) formatted
