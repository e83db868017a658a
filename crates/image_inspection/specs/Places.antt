-- The refusal of a boot, and where in the image that is.
use Rattle.std.specs.Prelude.{ℕ, ◌-◌, ◌/◌, ◌%◌, ◌==◌, nat_lt, if◌then◌else◌, List, ◌++◌, Option, None, Some, codes, decimal, find}
use Rattle.std.specs.List.{range_with_len}
use Rattle.record_codec.specs.Ring.{base_cell, identity_cell, record_cell, slot_cell}
use Rattle.plant_model.specs.System.{plant_of}
use Rattle.plant_model.specs.declared.system.System.{System}
use Rattle.script_lines.specs.Atoms.{atom_name}
use Rattle.plant_image.specs.Contents.{Contents}
use Rattle.plant_image.specs.declared.fault.ImageFault.{ImageFault}
use Rattle.plant_image.specs.declared.fault.ImageFault.TheVariants.{NotFormatted, OtherVersion, OtherSystem, WrongSize, Damaged, Gap, NotEnabled, Memory}

-- an atom: its name, or its number if there are no names
abbrev pub atom_word : Option System → ℕ → List ℕ
atom_word None atom = decimal atom
atom_word (Some system) atom = atom_name (plant_of system) atom

-- a number, if there is one
abbrev pub number_word : Option ℕ → List ℕ
number_word None = codes "-"
number_word (Some n) = decimal n

-- the number and the name of the refusal
abbrev pub fault_words : ImageFault → List ℕ
fault_words NotFormatted = codes "1 NotFormatted"
fault_words OtherVersion = codes "2 OtherVersion"
fault_words OtherSystem = codes "3 OtherSystem"
fault_words WrongSize = codes "4 WrongSize"
fault_words (Damaged k) = codes "5 Damaged(" ++ decimal k ++ codes ")"
fault_words (Gap atom) = codes "6 Gap(" ++ decimal atom ++ codes ")"
fault_words (NotEnabled number atom) = codes "7 NotEnabled(" ++ decimal number ++ codes ", " ++ decimal atom ++ codes ")"
fault_words Memory = codes "9 Memory"

-- the record of the round that begins at the base which has the cell
abbrev pub number_at : ℕ → Contents → ℕ → Option ℕ
number_at atoms c k = find (λ n. record_cell atoms c.ring n == k) (range_with_len c.base c.ring)

-- a slot: which of the two, and of which atom
abbrev pub slot_words : Option System → ℕ → ℕ → List ℕ
slot_words names atom slot = codes "slot " ++ decimal slot ++ codes " of atom " ++ atom_word names atom

-- a cell: what stands there
abbrev pub cell_words : Option System → ℕ → Contents → ℕ → List ℕ
cell_words names atoms c k =
    if k == identity_cell then codes "identity"
    else if k == base_cell 0 then codes "first base"
    else if k == base_cell 1 then codes "second base"
    else if nat_lt k (slot_cell atoms 0) then slot_words names ((k - slot_cell 0 0) / 2) ((k - slot_cell 0 0) % 2)
    else codes "record " ++ number_word (number_at atoms c k)

-- the place of a refusal
abbrev pub place_words : Option System → ℕ → Contents → ImageFault → List ℕ
place_words names atoms c NotFormatted = codes "identity"
place_words names atoms c OtherVersion = codes "identity"
place_words names atoms c OtherSystem = codes "identity"
place_words names atoms c WrongSize = codes "size"
place_words names atoms c (Damaged k) = cell_words names atoms c k
place_words names atoms c (Gap atom) = codes "atom " ++ atom_word names atom
place_words names atoms c (NotEnabled number atom) = codes "record " ++ decimal number ++ codes ", atom " ++ atom_word names atom
place_words names atoms c Memory = codes "memory"

-- the line of a refusal
abbrev pub refusal_line : Option System → ℕ → Contents → ImageFault → List ℕ
refusal_line names atoms c fault = codes "refusal " ++ fault_words fault ++ codes ": " ++ place_words names atoms c fault ++ codes "\n"
