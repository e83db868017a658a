-- What is known of an image once it is read.
use Rattle.std.specs.Prelude.{◌≡◌, ℕ, List, Option}
use Rattle.disk_model.specs.Cells.{Cell}
use Rattle.plant_model.specs.declared.system.System.{System}
use Rattle.plant_image.specs.Contents.{contents_of}
use Rattle.plant_image.specs.Reading.{contents_in}
use Rattle.image_inspection.specs.Inspected.{IsWithin, marks_in_contents, saved_in_contents}
use Rattle.image_inspection.specs.Verdicts.{fault_told}
use Rattle.image_inspection.specs.declared.inspecting.Found.{Found}

-- It was found in the cells of an image of so many bytes, which has slots for so many atoms.
pub record IsFound (plant : Option System) (atoms bytes : ℕ) (cells : List Cell) (found : Found) : Type 0 where
  pub contents : contents_in found.held ≡ contents_of atoms cells
  pub within : IsWithin found.held
  pub saved : found.saved.items ≡ saved_in_contents (contents_in found.held)
  pub marks : found.marks.items ≡ marks_in_contents (contents_in found.held)
  pub fault : found.fault ≡ fault_told plant bytes cells
