-- What contracts see of a device in memory, of an image and of a plant, from one place: each name as its own crate has it.
pub use Rattle.disk_model.specs.Cells.{Cell, MayBe, cell, cell_count, seen_cells}
pub use Rattle.disk_model.specs.DiskState.{size_of}
pub use Rattle.disk_model.specs.MemDisk.{cell_of, changes_of, fresh, fuse_of, state_of}
pub use Rattle.disk_model.specs.declared.cells.TheConstants.{BODY}
pub use Rattle.disk_model.specs.declared.fuse.Fuse.TheVariants.{Off}
pub use Rattle.plant_core.specs.Plants.{definition_of, device_of, text_digest, view_of}
pub use Rattle.record_codec.specs.declared.layout.TheConstants.{LEAST_RING, MOST_RING}
pub use Rattle.recovery.specs.Formatting.{formatted_size}
pub use Rattle.plant_model.specs.Firing.{FiringDefinition}
pub use Rattle.plant_model.specs.Chosen.{fired_of}
pub use Rattle.plant_model.specs.Plant.{PlantDefinition}
pub use Rattle.plant_model.specs.System.{plant_of, digest_of}
