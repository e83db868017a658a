-- What contracts see of a plant, of its run and of a writer, from one place: each value of the code as its definition has it.
pub use Rattle.petri_atom.specs.Atom.{definition_of}
pub use Rattle.petri_atom.specs.Local.{Local}
pub use Rattle.plant_model.specs.Choice.{ChoiceDefinition, IsAllowed, choices}
pub use Rattle.plant_model.specs.Chosen.{choice_of}
pub use Rattle.plant_model.specs.Fitting.{IsOf}
pub use Rattle.plant_model.specs.Plant.{PlantDefinition}
pub use Rattle.step_core.specs.Running.{plant_in, states_in, system_in}
pub use Rattle.plant_model.specs.Runs.{IsRun}
pub use Rattle.plant_model.specs.Step.{initial_states, next}
pub use Rattle.plant_model.specs.System.{plant_of}
pub use Rattle.run_text.specs.Alone.{AreAllowedInTurn, HasNoInputs, alone}
pub use Rattle.text_io.specs.Printing.{Prints}
