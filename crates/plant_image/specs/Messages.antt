-- What is printed if an image stands for no state of a plant.
use Rattle.std.specs.Prelude.{ℕ, List, ◌++◌, codes, decimal}
use Rattle.plant_image.specs.declared.fault.ImageFault.{ImageFault}
use Rattle.plant_image.specs.declared.fault.ImageFault.TheVariants.{NotFormatted, OtherVersion, OtherSystem, WrongSize, Damaged, Gap, NotEnabled, Memory}

-- what a fault says of the image to a person
abbrev pub message_of : ImageFault → List ℕ
message_of NotFormatted = codes "it was never formatted, or formatting it was cut short"
message_of OtherVersion = codes "it has another version of the layout"
message_of OtherSystem = codes "it was formatted for another plant text"
message_of WrongSize = codes "it does not have the size of its image"
message_of (Damaged cell) = codes "cell " ++ decimal cell ++ codes " does not hold what was written to it"
message_of (Gap atom) = codes "firings of atom " ++ decimal atom ++ codes " are missing"
message_of (NotEnabled number atom) = codes "record " ++ decimal number ++ codes " fires what its atom could not do"
message_of Memory = codes "not enough memory to read the image"
