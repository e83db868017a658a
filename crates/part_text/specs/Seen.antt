-- What contracts see of a plant's code, from one place: each value as its definition has it.
pub use Rattle.petri_atom.specs.Atom.{definition_of}
pub use Rattle.petri_atom.specs.Expression.{tree_of}
pub use Rattle.petri_atom.specs.Parts.{port_of}
pub use Rattle.petri_atom.specs.Transition.{transition_of}
pub use Rattle.petri_atom.specs.Update.{update_of}
pub use Rattle.plant_model.specs.Interaction.{interaction_of}
pub use Rattle.plant_model.specs.System.{plant_of}
pub use Rattle.plant_model.specs.Wire.{transfer_of, wire_of}
