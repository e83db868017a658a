-- What is seen of a session as it is kept.
use Rattle.plant_model.specs.Plant.{PlantDefinition}
use Rattle.step_core.specs.Running.{plant_in}
use Rattle.step_session.specs.Session.{SessionDefinition}
use Rattle.step_session.specs.declared.session.Session.{Session}

-- the plant that is stepped
abbrev pub plant_stepped : Session → PlantDefinition
plant_stepped session = plant_in session.run

-- what was fired, and the generator
abbrev pub session_of : Session → SessionDefinition
session_of session = record { fired = session.fired.items; random = session.random }
