-- What an inspection comes to: what a boot would answer, and whether there is a doubt.
use Rattle.std.specs.Prelude.{◌≡◌, ℕ, ◌+◌, ◌*◌, ◌==◌, ◌||◌, ◌&&◌, Bool, not, nat_lt, if◌then◌else◌, is_none, List, [], ◌∷◌, Option, None, Some, length, map, min, IfSome}
use Rattle.std.specs.List.{list_any, range_with_len}
use Rattle.disk_model.specs.Cells.{Cell, cell, seen_cells}
use Rattle.disk_model.specs.DiskState.{DiskState, size_of}
use Rattle.disk_model.specs.declared.cells.TheConstants.{BODY}
use Rattle.record_codec.specs.Fired.{fired_in}
use Rattle.record_codec.specs.Ring.{device_cells, identity_cell, record_cell, slot_cell}
use Rattle.record_codec.specs.Saved.{SavedFields, saved_in}
use Rattle.plant_model.specs.System.{plant_of, digest_of}
use Rattle.plant_model.specs.declared.system.System.{System}
use Rattle.plant_image.specs.Contents.{Contents, contents_of, identity_held, last_number}
use Rattle.plant_image.specs.Faults.{base_fault, cell_bytes, fault_of, fault_where, first_cell_fault, first_fault, is_any, is_full_but_not}
use Rattle.plant_image.specs.declared.fault.ImageFault.{ImageFault}
use Rattle.plant_image.specs.declared.fault.ImageFault.TheVariants.{Damaged, WrongSize}
use Rattle.image_inspection.specs.Holding.{missing}
use Rattle.image_inspection.specs.Inspected.{atoms_told, marks_in_contents, saved_in_contents}
use Rattle.image_inspection.specs.Open.{ahead_of, is_doubted}
use Rattle.image_inspection.specs.declared.verdict.Verdict.{Verdict}

-- ---- without a plant

-- a saved state is this atom's
abbrev pub is_saved_of : ℕ → SavedFields → Bool
is_saved_of atom saved = saved.atom == atom

-- what is wrong with a slot, whatever the plant: it is full with no state of the atom
abbrev pub bare_slot_fault : List Cell → ℕ → ℕ → Option ImageFault
bare_slot_fault cells atom slot = fault_where (is_full_but_not saved_in (is_saved_of atom) (cell cells (slot_cell atom slot))) (Damaged (slot_cell atom slot))

-- and with both slots of an atom
abbrev pub bare_atom_fault : List Cell → ℕ → Option ImageFault
bare_atom_fault cells atom = first_fault (
    bare_slot_fault cells atom 0 ∷
    bare_slot_fault cells atom 1 ∷
    fault_where (is_none (cell cells (slot_cell atom 0)) && is_none (cell cells (slot_cell atom 1))) (Damaged (slot_cell atom 0)) ∷
    [])

-- and with the cell of record n: it is full with no record
abbrev pub bare_record_fault : List Cell → ℕ → ℕ → ℕ → Option ImageFault
bare_record_fault cells atoms ring n =
    let k = record_cell atoms ring n in
    fault_where (is_full_but_not fired_in is_any (cell cells k)) (Damaged k)

-- the numbers of the live records, and the one after the last if it has a cell
abbrev pub judged_numbers : Contents → List ℕ
judged_numbers c = range_with_len c.base (min c.ring (length c.records + 1))

-- what is wrong with an image of so many bytes, whatever the plant
abbrev pub bare_fault : ℕ → ℕ → List Cell → Option ImageFault
bare_fault atoms bytes cells =
    let c = contents_of atoms cells in
    first_fault (
    fault_where (nat_lt bytes cell_bytes) WrongSize ∷
    first_cell_fault (cell cells identity_cell) ∷
    fault_where (not (bytes == cell_bytes * device_cells atoms c.ring)) WrongSize ∷
    base_fault cells ∷
    first_fault (map (bare_atom_fault cells) (range_with_len 0 atoms)) ∷
    first_fault (map (bare_record_fault cells atoms c.ring) (judged_numbers c)) ∷
    [])

-- ---- the verdict

-- what is wrong: what a boot of the plant would answer, or what is wrong whatever the plant
abbrev pub fault_told : Option System → ℕ → List Cell → Option ImageFault
fault_told None bytes cells = bare_fault (atoms_told None (identity_held cells)) bytes cells
fault_told (Some system) bytes cells = fault_of (plant_of system) (digest_of system) bytes cells

-- there is a doubt: more interactions than the atoms took part in, or a full cell past the end with no dropped record
abbrev pub is_doubtful : ℕ → List Cell → Contents → Bool
is_doubtful atoms cells c =
    nat_lt 0 (missing (last_number c) (saved_in_contents c) (marks_in_contents c) atoms)
    || list_any (is_doubted cells atoms c) (ahead_of c)

-- the verdict on an image
abbrev pub verdict_on : Option System → ℕ → List Cell → Verdict
verdict_on plant bytes cells =
    let atoms = atoms_told plant (identity_held cells) in
    record { fault = fault_told plant bytes cells; doubtful = is_doubtful atoms cells (contents_of atoms cells) }

-- With a plant the fault that is told is what a boot of it answers by all cells of the device.
abbrev pub IsAsBooted : Option System → DiskState → Verdict → Type 0
IsAsBooted plant s v = IfSome plant (λ system. v.fault ≡ fault_of (plant_of system) (digest_of system) (size_of s) (seen_cells (BODY + 1) s))

-- 0 if a boot would not refuse and there is no doubt, and else 1
abbrev pub status_of : Verdict → ℕ
status_of v = if is_none v.fault && not v.doubtful then 0 else 1
