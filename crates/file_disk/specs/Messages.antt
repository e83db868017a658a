-- What the faults say.
use Rattle.std.specs.Prelude.{ℕ, List, ◌++◌, codes}
use Rattle.std.specs.Fmt.{decimal}
use Rattle.file_disk.specs.declared.marks.TheConstants.{LARGEST_IMAGE}
use Rattle.file_disk.specs.declared.fault.FileFault.{FileFault}
use Rattle.file_disk.specs.declared.fault.FileFault.TheVariants.{TooLarge, AlreadyThere, NotThere, NotAllowed, NotAFile, Unopened, Memory, InUse, Unlocked, Unmade, Unnamed}

-- what a fault says to a person, after the name of the file
abbrev pub message_of : FileFault → List ℕ
message_of TooLarge = codes "an image has at most " ++ decimal LARGEST_IMAGE ++ codes " bytes"
message_of AlreadyThere = codes "the name is taken: choose another one"
message_of NotThere = codes "no such file or folder"
message_of NotAllowed = codes "no right to read and write it"
message_of NotAFile = codes "not a plain file"
message_of Unopened = codes "the system could not open it"
message_of Memory = codes "no memory for its bytes"
message_of InUse = codes "in use: end the program that has it open"
message_of Unlocked = codes "no lock on it: its file system may have none, choose another one"
message_of Unmade = codes "it could not be filled: the disk may be full"
message_of Unnamed = codes "its name could not be put onto the disk: the disk may be failing"
