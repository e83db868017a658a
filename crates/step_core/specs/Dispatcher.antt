-- What a plant that runs while atoms are away shows: its system and the present parts of its state.
use Rattle.std.specs.Prelude.{List, Option}
use Rattle.petri_atom.specs.Local.{Local}
use Rattle.plant_model.specs.declared.system.System.{System}
use Rattle.step_core.specs.declared.dispatcher.Dispatcher.{Dispatcher}

-- the system that runs
abbrev pub system_of : Dispatcher → System
system_of d = d.system.now

-- the parts of its present state
abbrev pub parts_in : Dispatcher → List (Option Local)
parts_in d = d.parts
