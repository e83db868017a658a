-- Which cell of a device holds what: cell 0 the identity, cells 1 and 2 the bases, after them two slots for each atom, and
-- after these the ring, in which the records go round.
use Rattle.std.specs.Prelude.{◌≡◌, ℕ, ◌+◌, ◌*◌, ◌%◌}

-- the cell of the identity
abbrev pub identity_cell : ℕ
identity_cell = 0

-- the cell of base 0 or 1
abbrev pub base_cell : ℕ → ℕ
base_cell base = 1 + base

-- the cell of slot 0 or 1 of an atom
abbrev pub slot_cell : ℕ → ℕ → ℕ
slot_cell atom slot = 3 + 2 * atom + slot

-- the cell of the record with the number, in a ring of so many cells after the slots of so many atoms
abbrev pub record_cell : ℕ → ℕ → ℕ → ℕ
record_cell atoms ring number = 3 + 2 * atoms + number % ring

-- how many cells there are in all
abbrev pub device_cells : ℕ → ℕ → ℕ
device_cells atoms ring = 3 + 2 * atoms + ring

-- Two slots are one: of the same atom, and with the same number.
pub record AreSameSlot (atom slot other other_slot : ℕ) : Type 0 where
  pub atom_same : atom ≡ other
  pub slot_same : slot ≡ other_slot
