-- A journal as its contracts see it: where its records stand, and the numbers of the first and the last that is live.
use Rattle.std.specs.Prelude.{◌≡◌, ℕ, ◌+◌, ◌<◌, ◌≤◌, Bool, List, length, is_some, vec_len}
use Rattle.disk_model.specs.Cells.{Cell, cell}
use Rattle.record_codec.specs.declared.layout.TheConstants.{MOST_ATOMS, MOST_RING, LAST_NUMBER}
use Rattle.record_codec.specs.Ring.{base_cell, device_cells}
use Rattle.gated_journal.specs.declared.journal.Journal.TheInside.{Inside}
use Rattle.gated_journal.specs.declared.ring.Ring.{Ring}
use Rattle.gated_journal.specs.Live.{live}
use Rattle.gated_journal.specs.Bases.{IsBased}

-- the numbers of a journal are in their ranges, and its live records have room in its ring
pub record IsRing (j : Ring) : Type 0 where
  pub atoms : j.atoms ≤ MOST_ATOMS
  pub some : 1 ≤ j.ring
  pub few : j.ring ≤ MOST_RING
  pub cell_from : base_cell 0 ≤ j.base_cell
  pub cell_to : j.base_cell ≤ base_cell 1
  pub base_from : 1 ≤ j.base
  pub base_to : j.base ≤ j.last + 1
  pub last_to : j.last ≤ LAST_NUMBER
  pub room : j.last < j.base + j.ring

-- how many cells its device has at least
abbrev pub cells_of_ring : Ring → ℕ
cells_of_ring j = device_cells j.atoms j.ring

-- Record n has a cell in the ring and is not live: it is still to come, or it was dropped.
pub record IsAhead (j : Ring) (n : ℕ) : Type 0 where
  pub from : j.last < n
  pub to : n < j.base + j.ring

-- The live records are those from the base to the last.
abbrev pub IsWhole : Ring → List Cell → Type 0
IsWhole j cells = j.base + length (live j cells) ≡ j.last + 1

-- The cells read for this journal.
pub record IsReadFor (j : Ring) (cells : List Cell) : Type 0 where
  pub based : IsBased j cells
  pub whole : IsWhole j cells

-- The list tells of each cell of the journal's device what it reads for.
abbrev pub IsFoundFor : Ring → List Cell → List Cell → Type 0
IsFoundFor j cells found = (k : ℕ) → k < cells_of_ring j → cell found k ≡ cell cells k

-- the list tells that cell k is full
abbrev pub is_full_in : List Cell → ℕ → Bool
is_full_in found k = is_some (cell found k)

-- the journal with so many records more
abbrev pub appended : ℕ → Ring → Ring
appended count j = record j { last = j.last + count }

-- What a journal keeps: its numbers are in range, and it has room for as many cell numbers as its ring has cells.
pub record IsSound (j : Inside) : Type 0 where
  pub ring : IsRing j.ring
  pub room : vec_len j.room ≡ j.ring.ring
