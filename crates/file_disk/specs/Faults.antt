-- Which faults say why a file did not become a device.
use Rattle.std.specs.Prelude.{◌≡◌, ◌<◌, ◌≤◌, ℕ, Bool, true}
use Rattle.file_disk.specs.declared.marks.TheConstants.{LARGEST_IMAGE}
use Rattle.file_disk.specs.declared.fault.FileFault.{FileFault}
use Rattle.file_disk.specs.declared.fault.FileFault.TheVariants.{TooLarge, AlreadyThere, NotThere, NotAllowed, NotAFile, Unopened, Memory, InUse, Unlocked, Unmade, Unnamed}

-- a fault if the system does not open a file; that a name is taken is one only if the file is to be new
abbrev pub IsOfSystem : Bool → FileFault → Type 0
IsOfSystem is_new AlreadyThere = is_new ≡ true
IsOfSystem is_new NotThere = Unit {0}
IsOfSystem is_new NotAllowed = Unit {0}
IsOfSystem is_new NotAFile = Unit {0}
IsOfSystem is_new Unopened = Unit {0}
IsOfSystem is_new fault = ⊥

-- a fault if what was opened is no plain file, or can't be asked
abbrev pub IsOfKind : FileFault → Type 0
IsOfKind NotAFile = Unit {0}
IsOfKind Unopened = Unit {0}
IsOfKind fault = ⊥

-- a fault if a file is not locked
abbrev pub IsOfLock : FileFault → Type 0
IsOfLock InUse = Unit {0}
IsOfLock Unlocked = Unit {0}
IsOfLock fault = ⊥

-- a fault if a new file is not made under its other name: none of its size, its memory or the name that it is for
abbrev pub IsOfMaking : FileFault → Type 0
IsOfMaking TooLarge = ⊥
IsOfMaking AlreadyThere = ⊥
IsOfMaking Memory = ⊥
IsOfMaking Unnamed = ⊥
IsOfMaking fault = Unit {0}

-- a fault if a new file does not take its name
abbrev pub IsOfNaming : FileFault → Type 0
IsOfNaming AlreadyThere = Unit {0}
IsOfNaming Unnamed = Unit {0}
IsOfNaming fault = ⊥

-- A fault that a file of so many bytes may have when it is created: that it is too large exactly if it is.
abbrev pub StopsCreating : ℕ → FileFault → Type 0
StopsCreating bytes TooLarge = LARGEST_IMAGE < bytes
StopsCreating bytes Unnamed = ⊥
StopsCreating bytes fault = bytes ≤ LARGEST_IMAGE

-- A fault that a file may have when it is opened: none that only a new file has.
abbrev pub StopsOpening : FileFault → Type 0
StopsOpening TooLarge = ⊥
StopsOpening AlreadyThere = ⊥
StopsOpening Unmade = ⊥
StopsOpening fault = Unit {0}

-- A fault that a file may have when it is opened to be read: no memory is taken then, and nothing put onto the disk.
abbrev pub StopsReading : FileFault → Type 0
StopsReading Memory = ⊥
StopsReading Unnamed = ⊥
StopsReading fault = StopsOpening fault
