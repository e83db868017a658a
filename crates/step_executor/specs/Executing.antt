-- What a plant that runs while atoms are away shows: its system, its whole state, and the jobs that its atoms have.
use Rattle.std.specs.Prelude.{List, Option}
use Rattle.petri_atom.specs.Local.{Local}
use Rattle.plant_model.specs.Plant.{PlantDefinition}
use Rattle.plant_model.specs.System.{plant_of}
use Rattle.plant_model.specs.declared.system.System.{System}
use Rattle.step_core.specs.Dispatcher.{parts_in, system_of}
use Rattle.step_core.specs.Job.{JobDefinition}
use Rattle.step_executor.specs.Outstanding.{committed_by, kept_in, whole_of}
use Rattle.step_executor.specs.declared.executor.Executor.{Executor}

-- the system that runs
abbrev pub system_in : Executor → System
system_in run = system_of run.dispatcher

-- its plant
abbrev pub plant_in : Executor → PlantDefinition
plant_in run = plant_of (system_in run)

-- the job that each atom has, if it is away
abbrev pub jobs_in : Executor → List (Option JobDefinition)
jobs_in run = kept_in run.kept.items

-- its state, in which an atom that is away is where its job leaves it
abbrev pub states_in : Executor → List Local
states_in run = whole_of (jobs_in run) (parts_in run.dispatcher)

-- the state that it had when it was committed last
abbrev pub committed_in : Executor → List Local
committed_in run = committed_by run.committed (states_in run)
