-- What an inspection lists if it is asked for: the live records, and the states in the slots.
use Rattle.std.specs.Prelude.{ℕ, ℤ, Bool, if◌then◌else◌, List, [], ◌++◌, Option, None, Some, codes, decimal, flat_map, map, slice_get}
use Rattle.std.specs.Fmt.{signed_decimal}
use Rattle.std.specs.List.{range_with_len}
use Rattle.std.specs.Option.{option_map_or}
use Rattle.disk_model.specs.Cells.{Cell}
use Rattle.petri_atom.specs.Local.{Local}
use Rattle.record_codec.specs.Fired.{FiredFields}
use Rattle.record_codec.specs.Saved.{SavedFields}
use Rattle.record_codec.specs.declared.entry.Entry.{Entry}
use Rattle.run_text.specs.Line.{fired_line, state_line}
use Rattle.snapshot_writer.specs.Parcels.{local_in}
use Rattle.snapshot_writer.specs.Slots.{saved_at}
use Rattle.plant_model.specs.Choice.{ChoiceDefinition}
use Rattle.plant_model.specs.System.{plant_of}
use Rattle.plant_model.specs.declared.choice.Move.{Move}
use Rattle.plant_model.specs.declared.system.System.{System}
use Rattle.image_inspection.specs.Places.{slot_words}

-- how often an atom had taken part, and the last record when its state was copied
abbrev pub saved_words : SavedFields → List ℕ
saved_words saved = codes "saved " ++ decimal saved.count ++ codes " at " ++ decimal saved.at

-- ---- records

-- what a participant did
abbrev pub move_in : Entry → Move
move_in e = record { atom = e.atom; transition = e.transition }

-- the choice that was fired
abbrev pub choice_in : FiredFields → ChoiceDefinition
choice_in r = record { connector = r.connector; mask = 0; moves = map move_in r.entries }

-- a participant by numbers
abbrev pub entry_word : Entry → List ℕ
entry_word e = codes " " ++ decimal e.atom ++ codes "/" ++ decimal e.transition

-- a record: as the printed run has it, and by numbers without names
abbrev pub record_words : Option System → FiredFields → List ℕ
record_words None r = decimal r.number ++ codes " " ++ decimal r.connector ++ flat_map entry_word r.entries
record_words (Some system) r = fired_line (plant_of system) r.number (choice_in r)

abbrev pub record_line : Option System → FiredFields → List ℕ
record_line names r = record_words names r ++ codes "\n"

-- all live records, if they are asked for
abbrev pub records_text : Bool → Option System → List FiredFields → List ℕ
records_text asked names records = if asked then flat_map (record_line names) records else []

-- ---- states

-- a value with a space before it
abbrev pub value_word : ℤ → List ℕ
value_word value = codes " " ++ signed_decimal value

-- the state of an atom: as the printed run has it, and by numbers without names
abbrev pub local_words : Option System → ℕ → Local → List ℕ
local_words None atom state = codes "marking " ++ decimal state.marking ++ flat_map value_word state.values
local_words (Some system) atom state = option_map_or (λ a. state_line a state) (slice_get (plant_of system).atoms atom) []

-- a state in a slot
abbrev pub slot_text : Option System → ℕ → ℕ → SavedFields → List ℕ
slot_text names atom slot saved = slot_words names atom slot ++ codes " " ++ saved_words saved ++ codes ": " ++ local_words names atom (local_in saved) ++ codes "\n"

-- what is told of a slot: nothing if it holds no state of the atom
abbrev pub slot_line : Option System → List Cell → ℕ → ℕ → List ℕ
slot_line names cells atom slot = option_map_or (slot_text names atom slot) (saved_at atom slot cells) []

-- both slots of an atom
abbrev pub slots_lines : Option System → List Cell → ℕ → List ℕ
slots_lines names cells atom = slot_line names cells atom 0 ++ slot_line names cells atom 1

-- the slots of all atoms, if they are asked for
abbrev pub slots_text : Bool → Option System → List Cell → ℕ → List ℕ
slots_text asked names cells atoms = if asked then flat_map (slots_lines names cells) (range_with_len 0 atoms) else []
