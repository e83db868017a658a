-- What contracts see of a device, of an image and of a plant, from one place: each name as its own crate has it.
pub use Rattle.disk_model.specs.Cells.{seen_cells}
pub use Rattle.disk_model.specs.DiskState.{DiskState, size_of}
pub use Rattle.disk_model.specs.declared.cells.TheConstants.{BODY, FIRST_BODY}
pub use Rattle.plant_core.specs.Plants.{definition_of, device_of, text_digest, view_of}
pub use Rattle.plant_core.specs.View.{View}
pub use Rattle.record_codec.specs.declared.layout.TheConstants.{LEAST_RING, MOST_RING}
pub use Rattle.recovery.specs.Formatting.{HasFormatted, formatted_size}
pub use Rattle.plant_model.specs.System.{plant_of, digest_of}
