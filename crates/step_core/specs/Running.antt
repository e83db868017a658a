-- What a plant that runs shows: its system and its present state.
use Rattle.std.specs.Prelude.{List}
use Rattle.petri_atom.specs.Local.{Local}
use Rattle.plant_model.specs.Plant.{PlantDefinition}
use Rattle.plant_model.specs.System.{plant_of}
use Rattle.plant_model.specs.declared.system.System.{System}
use Rattle.step_core.specs.declared.stepper.Stepper.{Stepper}

-- the system that runs
abbrev pub system_in : Stepper → System
system_in run = run.system.now

-- its plant
abbrev pub plant_in : Stepper → PlantDefinition
plant_in run = plant_of (system_in run)

-- its present state
abbrev pub states_in : Stepper → List Local
states_in run = run.states
