use Rattle.record_replay.proofs.OfPlants.{record-in-range, record-of-plant}
use Rattle.record_replay.proofs.laws.the_record_of_a_step_is_of_its_plant.Goals as goal

pub returns-clause-in_range : goal.returns-clause-in_range
returns-clause-in_range c = λ plant states counts n choice valid formed all first last allowed. record-in-range plant states counts choice valid allowed n formed all first last

pub returns-clause-of_plant : goal.returns-clause-of_plant
returns-clause-of_plant c = λ plant states counts n choice valid allowed. record-of-plant plant states counts choice valid allowed n
