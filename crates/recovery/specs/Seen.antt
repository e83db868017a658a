-- What contracts see of a device, of an image and of a plant, from one place: each name as its own crate has it.
pub use Rattle.disk_model.specs.Cells.{Cell, Leaves, MayBe, cell, cell_count, cells_in, seen_cells}
pub use Rattle.disk_model.specs.DiskState.{Counts, CountsTwo, CountsUpTo, DiskState, IsSettled, Reads, size_of}
pub use Rattle.petri_atom.specs.Local.{Local}
pub use Rattle.plant_image.specs.Faults.{fault_of}
pub use Rattle.plant_image.specs.Standing.{HasRoom, StandsFor}
pub use Rattle.plant_image.specs.declared.fault.ImageFault.{ImageFault}
pub use Rattle.record_codec.specs.Ring.{base_cell, device_cells, identity_cell, record_cell, slot_cell}
pub use Rattle.record_codec.specs.declared.layout.TheConstants.{LEAST_RING, MOST_RING}
pub use Rattle.plant_model.specs.Firing.{FiringDefinition}
pub use Rattle.plant_model.specs.Plant.{PlantDefinition}
pub use Rattle.plant_model.specs.Runs.{IsRun, fold}
pub use Rattle.plant_model.specs.Step.{initial_states}
pub use Rattle.plant_model.specs.System.{plant_of, digest_of}
