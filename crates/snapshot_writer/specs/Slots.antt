-- Which states the slots of an atom hold, and which of the two is the newest.
use Rattle.std.specs.Prelude.{◌≡◌, ◌≢◌, ◌⊎◌, ℕ, ◌-◌, ◌<◌, ◌≤◌, ◌==◌, nat_lt, Bool, true, false, if◌then◌else◌, List, Option, Some, None, IfSome}
use Rattle.std.specs.Option.{option_map, option_map_or, option_and_then}
use Rattle.disk_model.specs.Cells.{Cell, cell}
use Rattle.record_codec.specs.Ring.{slot_cell}
use Rattle.record_codec.specs.Saved.{SavedFields, saved_in}

-- the state, where it is this atom's
abbrev pub if_of_atom : ℕ → SavedFields → Option SavedFields
if_of_atom atom saved = if saved.atom == atom then Some saved else None

-- the state of this atom that a cell holds
abbrev pub saved_of : ℕ → Cell → Option SavedFields
saved_of atom c = option_and_then (if_of_atom atom) (option_and_then saved_in c)

-- the state that slot 0 or 1 of an atom holds
abbrev pub saved_at : ℕ → ℕ → List Cell → Option SavedFields
saved_at atom slot cells = saved_of atom (cell cells (slot_cell atom slot))

-- one state is newer than another: it has the greater count, or is the only one
abbrev pub is_newer : Option SavedFields → Option SavedFields → Bool
is_newer None other = false
is_newer (Some saved) None = true
is_newer (Some saved) (Some other) = nat_lt other.count saved.count

-- the newest of the states in slot 0 and slot 1: the first where both counts are equal
abbrev pub newest_of : Option SavedFields → Option SavedFields → Option SavedFields
newest_of first second = if is_newer second first then second else first

-- its slot
abbrev pub slot_of : Option SavedFields → Option SavedFields → ℕ
slot_of first second = if is_newer second first then 1 else 0

-- the newest with its slot
abbrev pub slotted : Option SavedFields → Option SavedFields → Option (ℕ × SavedFields)
slotted first second = option_map (λ (saved : SavedFields). (slot_of first second, saved)) (newest_of first second)

-- the newest state of an atom
abbrev pub newest : ℕ → List Cell → Option SavedFields
newest atom cells = newest_of (saved_at atom 0 cells) (saved_at atom 1 cells)

-- the slot that holds it
abbrev pub newest_slot : ℕ → List Cell → ℕ
newest_slot atom cells = slot_of (saved_at atom 0 cells) (saved_at atom 1 cells)

-- both
abbrev pub newest_slotted : ℕ → List Cell → Option (ℕ × SavedFields)
newest_slotted atom cells = slotted (saved_at atom 0 cells) (saved_at atom 1 cells)

-- the slot that is written next: the one that does not hold the newest, and slot 0 where there is none
abbrev pub other_slot : ℕ → List Cell → ℕ
other_slot atom cells = option_map_or (λ (saved : SavedFields). 1 - newest_slot atom cells) (newest atom cells) 0

-- The slot does not hold the newest state of the atom, or there is none.
abbrev pub IsFree : ℕ → ℕ → List Cell → Type 0
IsFree atom slot cells = (slot ≢ newest_slot atom cells) ⊎ (newest atom cells ≡ None)

-- the state has a greater count than the other, if there is one
abbrev pub IsAbove : SavedFields → Option SavedFields → Type 0
IsAbove saved other = IfSome other (λ (was : SavedFields). was.count < saved.count)

-- the state has no smaller count than the other, if there is one
abbrev pub IsNotBelow : SavedFields → Option SavedFields → Type 0
IsNotBelow saved other = IfSome other (λ (was : SavedFields). was.count ≤ saved.count)

-- The atom's newest state is the same, in the same slot.
pub record IsSameNewest (atom : ℕ) (before cells : List Cell) : Type 0 where
  pub newest_same : newest atom cells ≡ newest atom before
  pub slot_same : newest_slot atom cells ≡ newest_slot atom before
