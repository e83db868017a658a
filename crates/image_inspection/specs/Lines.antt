-- What an inspection prints.
use Rattle.std.specs.Prelude.{ℕ, ◌-◌, ◌/◌, nat_lt, if◌then◌else◌, List, [], ◌++◌, Option, None, Some, codes, decimal, flat_map, length}
use Rattle.std.specs.List.{range_with_len}
use Rattle.disk_model.specs.Cells.{Cell}
use Rattle.gated_journal.specs.Bases.{base_of}
use Rattle.hex.specs.Hex.{encode_lower}
use Rattle.record_codec.specs.Identity.{IdentityFields}
use Rattle.record_codec.specs.Saved.{SavedFields}
use Rattle.snapshot_writer.specs.Slots.{newest}
use Rattle.plant_model.specs.declared.system.System.{System}
use Rattle.trimmer.specs.Covered.{MarkFields}
use Rattle.trimmer.specs.declared.saved.SavedAt.{SavedAt}
use Rattle.plant_image.specs.Contents.{Contents, contents_of, identity_held, last_number}
use Rattle.plant_image.specs.Faults.{cell_bytes}
use Rattle.plant_image.specs.declared.fault.ImageFault.{ImageFault}
use Rattle.image_inspection.specs.Holding.{behind, first_held, keeps_base, missing}
use Rattle.image_inspection.specs.Inspected.{atoms_told, marks_in_contents, names_told, saved_in_contents}
use Rattle.image_inspection.specs.Listing.{records_text, saved_words, slots_text}
use Rattle.image_inspection.specs.Open.{ahead_of, open_line}
use Rattle.image_inspection.specs.Places.{atom_word, number_word, refusal_line}
use Rattle.image_inspection.specs.Verdicts.{fault_told}
use Rattle.image_inspection.specs.declared.shown.Shown.{Shown}

-- for which plant text and ring the image was formatted
abbrev pub identity_words : Option IdentityFields → List ℕ
identity_words None = codes "- ring -"
identity_words (Some identity) = encode_lower identity.digest ++ codes " ring " ++ decimal identity.ring

-- and how many whole cells the device has
abbrev pub image_line : Option IdentityFields → ℕ → List ℕ
image_line identity bytes = codes "image " ++ identity_words identity ++ codes " cells " ++ decimal (bytes / cell_bytes) ++ codes "\n"

-- the first record that is kept, and the last number
abbrev pub base_words : Option ℕ → Contents → List ℕ
base_words base c = codes "base " ++ number_word base ++ codes " last " ++ decimal (last_number c)

-- how many records are live, and for how many more there is room
abbrev pub room_words : Contents → List ℕ
room_words c = codes " live " ++ decimal (length c.records) ++ codes " free " ++ decimal (c.ring - length c.records) ++ codes "\n"

abbrev pub base_line : Option ℕ → Contents → List ℕ
base_line base c = base_words base c ++ room_words c

-- the newest saved state of an atom, if there is one
abbrev pub newest_words : Option SavedFields → List ℕ
newest_words None = codes "saved - at -"
newest_words (Some saved) = saved_words saved

-- an atom, and its newest saved state
abbrev pub atom_words : Option System → List Cell → ℕ → List ℕ
atom_words names cells atom = codes "atom " ++ atom_word names atom ++ codes " " ++ newest_words (newest atom cells)

-- how many of its firings come after that, and the first record that it holds
abbrev pub holding_words : List SavedAt → List MarkFields → ℕ → List ℕ
holding_words saved marks atom = codes " behind " ++ decimal (behind saved marks atom) ++ codes " holds " ++ number_word (first_held saved marks atom) ++ codes "\n"

abbrev pub atom_line : Option System → List Cell → List SavedAt → List MarkFields → ℕ → List ℕ
atom_line names cells saved marks atom = atom_words names cells atom ++ holding_words saved marks atom

-- an atom that keeps the base where it is
abbrev pub keeper_word : Option System → List SavedAt → List MarkFields → ℕ → List ℕ
keeper_word names saved marks atom = if keeps_base saved marks atom then codes " " ++ atom_word names atom else []

-- all of these
abbrev pub held_line : Option System → ℕ → List SavedAt → List MarkFields → List ℕ
held_line names atoms saved marks = codes "held" ++ flat_map (keeper_word names saved marks) (range_with_len 0 atoms) ++ codes "\n"

-- interactions that no atom took part in
abbrev pub missing_line : ℕ → List ℕ
missing_line count = if nat_lt 0 count then codes "doubt: " ++ decimal count ++ codes " more interactions than the atoms took part in\n" else []

-- to which number the image boots, or without a plant reads
abbrev pub leads_words : Option System → List ℕ
leads_words None = codes "reads to "
leads_words (Some system) = codes "boots to "

-- what a boot would answer
abbrev pub answer_line : Option System → Option System → ℕ → Contents → Option ImageFault → List ℕ
answer_line plant names atoms c None = leads_words plant ++ decimal (last_number c) ++ codes "\n"
answer_line plant names atoms c (Some fault) = refusal_line names atoms c fault

-- the lines of the contents of an image
abbrev pub contents_text : Shown → Option System → ℕ → List Cell → Contents → List ℕ
contents_text shown names atoms cells c =
    flat_map (atom_line names cells (saved_in_contents c) (marks_in_contents c)) (range_with_len 0 atoms) ++
    held_line names atoms (saved_in_contents c) (marks_in_contents c) ++
    records_text shown.records names c.records ++
    slots_text shown.states names cells atoms ++
    flat_map (open_line cells atoms c) (ahead_of c) ++
    missing_line (missing (last_number c) (saved_in_contents c) (marks_in_contents c) atoms)

-- all that is printed of an image of so many bytes with these cells
abbrev pub inspection_text : Shown → Option System → ℕ → List Cell → List ℕ
inspection_text shown plant bytes cells =
    let identity = identity_held cells in
    let atoms = atoms_told plant identity in
    let names = names_told plant identity in
    let c = contents_of atoms cells in
    image_line identity bytes ++ base_line (base_of cells) c ++ contents_text shown names atoms cells c ++ answer_line plant names atoms c (fault_told plant bytes cells)
