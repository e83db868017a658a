-- Why serving a plant on its image ends early.
use Rattle.std.specs.Prelude.{Option}
use Rattle.plant_image.specs.declared.fault.ImageFault.{ImageFault}
use Rattle.image_commands.specs.Endings as image
use Rattle.image_commands.specs.declared.ending.ImageEnding.TheVariants.{Unwritten}
use Rattle.plant_service.specs.declared.ending.ServiceEnding.{ServiceEnding}
use Rattle.plant_service.specs.declared.ending.ServiceEnding.TheVariants.{Image, Memory, Unread}
use Rattle.plant_service.specs.declared.fault.ServeFault.{ServeFault}
use Rattle.plant_service.specs.declared.fault.ServeFault.TheVariants as serve

-- the ending where serving ends early
abbrev pub of_serve : ServeFault → ServiceEnding
of_serve serve.Memory = Memory
of_serve serve.Read = Unread
of_serve serve.Write = Image Unwritten

-- An ending: an image is refused by what is wrong with it.
abbrev pub IsEndingOf : Option ImageFault → ServiceEnding → Type 0
IsEndingOf found (Image ending) = image.IsEndingOf found ending
IsEndingOf found Memory = Unit {0}
IsEndingOf found Unread = Unit {0}
