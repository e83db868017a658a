-- What contracts see of a device, of an image and of a plant, from one place: each name as its own crate has it.
pub use Rattle.disk_model.specs.Cells.{Cell, cell, cell_count, seen_cells}
pub use Rattle.disk_model.specs.DiskState.{DiskState, Reads, size_of}
pub use Rattle.disk_model.specs.declared.cells.TheConstants.{BODY}
pub use Rattle.plant_image.specs.Contents.{contents_of, identity_held}
pub use Rattle.plant_image.specs.Reading.{contents_in}
pub use Rattle.plant_core.specs.Marks.{marks_of}
pub use Rattle.plant_model.specs.System.{plant_of, digest_of}
pub use Rattle.text_io.specs.Printing.{Prints}
