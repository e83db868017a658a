-- What the statuses are to C and to a person.
use Rattle.std.specs.Prelude.{ℕ, List, codes}
use Rattle.plant_for_c.specs.declared.status.Status.{Status}
use Rattle.plant_for_c.specs.declared.status.Status.TheVariants.{Done, Stuck, Busy, TailFull, RingFull, Spent, Away, Ahead, Stranger, NothingNew, Disk, Broken, Values, ImageNotFormatted, ImageOtherVersion, ImageOtherPlant, ImageWrongSize, ImageDamaged, ImageGap, ImageNotEnabled, ImageDisk, FileAlreadyThere, FileNotThere, FileNotAllowed, FileNotAFile, FileUnopened, FileInUse, FileUnlocked, FileUnmade, FileUnsynced, Null, Closed, NoHandle, AlreadyOpen, NoPlant, NoSuch, Several, NoChoice, NoRoom, BadRing, Memory}

-- the number that C gets
abbrev pub number_of : Status → ℕ
number_of Done = 0
number_of Stuck = 1
number_of Busy = 2
number_of TailFull = 3
number_of RingFull = 4
number_of Spent = 5
number_of Away = 6
number_of Ahead = 7
number_of Stranger = 8
number_of NothingNew = 9
number_of Disk = 10
number_of Broken = 11
number_of Values = 13
number_of ImageNotFormatted = 21
number_of ImageOtherVersion = 22
number_of ImageOtherPlant = 23
number_of ImageWrongSize = 24
number_of ImageDamaged = 25
number_of ImageGap = 26
number_of ImageNotEnabled = 27
number_of ImageDisk = 28
number_of FileAlreadyThere = 42
number_of FileNotThere = 43
number_of FileNotAllowed = 44
number_of FileNotAFile = 45
number_of FileUnopened = 46
number_of FileInUse = 48
number_of FileUnlocked = 49
number_of FileUnmade = 50
number_of FileUnsynced = 51
number_of Null = 61
number_of Closed = 62
number_of NoHandle = 63
number_of AlreadyOpen = 64
number_of NoPlant = 65
number_of NoSuch = 66
number_of Several = 67
number_of NoChoice = 68
number_of NoRoom = 69
number_of BadRing = 70
number_of Memory = 71

-- what a status says to a person
abbrev pub message_of : Status → List ℕ
message_of Done = codes "done"
message_of Stuck = codes "no interaction is possible"
message_of Busy = codes "an atom is away, and no choice is sure to be allowed"
message_of TailFull = codes "a flush has to come before another firing"
message_of RingFull = codes "the ring has no room for another record: save and trim"
message_of Spent = codes "the record with the greatest number is fired"
message_of Away = codes "the atom is away"
message_of Ahead = codes "firings of the atom are not acknowledged: flush first"
message_of Stranger = codes "what was handed in is not what was kept of it"
message_of NothingNew = codes "there is nothing new to save, or nothing that may go"
message_of Disk = codes "the device failed"
message_of Broken = codes "the device failed in an earlier call"
message_of Values = codes "the values are not what the inputs of the connector take"
message_of ImageNotFormatted = codes "the image was never formatted, or formatting it was cut short"
message_of ImageOtherVersion = codes "the image has another version of the layout"
message_of ImageOtherPlant = codes "the image was formatted for another plant text"
message_of ImageWrongSize = codes "the image does not have the size that it has to have"
message_of ImageDamaged = codes "a cell of the image does not hold what was written to it"
message_of ImageGap = codes "firings of an atom are missing in the image"
message_of ImageNotEnabled = codes "a record of the image fires what its atom could not do"
message_of ImageDisk = codes "the device of the image failed"
message_of FileAlreadyThere = codes "the name of the file is taken"
message_of FileNotThere = codes "no such file or folder"
message_of FileNotAllowed = codes "no right to read and write the file"
message_of FileNotAFile = codes "not a plain file"
message_of FileUnopened = codes "the system could not open the file"
message_of FileInUse = codes "the file is in use"
message_of FileUnlocked = codes "no lock on the file: its file system may have none"
message_of FileUnmade = codes "the file could not be filled: the disk may be full"
message_of FileUnsynced = codes "what was written to the file before could not be saved"
message_of Null = codes "a pointer is null"
message_of Closed = codes "the variable holds no plant, no text or no file"
message_of NoHandle = codes "the variable was not begun as it has to be"
message_of AlreadyOpen = codes "the variable holds a plant, a text or a file already"
message_of NoPlant = codes "the text is no plant"
message_of NoSuch = codes "there is no such atom, connector, place, variable, choice or status"
message_of Several = codes "the connector has several choices now"
message_of NoChoice = codes "the connector has no choice now"
message_of NoRoom = codes "what is to be told does not fit the room"
message_of BadRing = codes "a ring has 8 to 4,096 records"
message_of Memory = codes "there is not enough memory"
