-- What the calls of a journal leave, and what a stop inside of them leaves.
use Rattle.std.specs.Prelude.{◌≡◌, ◌≢◌, ◌⊎◌, ℕ, ◌+◌, ◌-◌, ◌<◌, ◌≤◌, List, ◌++◌, length, take, drop, Some, None}
use Rattle.disk_model.specs.declared.cells.TheConstants.{BODY}
use Rattle.disk_model.specs.DiskState.{DiskState, IsSettled}
use Rattle.disk_model.specs.Cells.{Cell, cell, seen_cells}
use Rattle.record_codec.specs.Fired.{FiredFields}
use Rattle.gated_journal.specs.declared.ring.Ring.{Ring}
use Rattle.gated_journal.specs.Live.{held_in, place, live}
use Rattle.gated_journal.specs.Bases.{other_cell, IsBased}
use Rattle.gated_journal.specs.Rings.{IsAhead, IsWhole, appended}

-- The journal can be appended to: a stop leaves what a read gives, the cells read for its live records, and the cell of
-- each record that is not live is empty.
pub record IsReady (j : Ring) (s : DiskState) : Type 0 where
  pub settled : IsSettled s.now
  pub whole : IsWhole j (seen_cells (BODY + 1) s)
  pub ahead : (n : ℕ) → IsAhead j n → cell (seen_cells (BODY + 1) s) (place j n) ≡ None

-- cell k is of none of the records that are appended
abbrev pub IsBeside : Ring → ℕ → ℕ → Type 0
IsBeside j count k = (n : ℕ) → j.last < n → n ≤ j.last + count → place j n ≢ k

-- After the records that were live there are live now the first ones of the new, after these is an empty cell, and each
-- cell of no new record is as it was, the base among them.
pub record HasAppended (j : Ring) (news : List FiredFields) (before cells : List Cell) : Type 0 where
  pub size : length cells ≡ length before
  pub based : IsBased j before → IsBased j cells
  pub count : ℕ
  pub within : count ≤ length news
  pub reads : live j cells ≡ live j before ++ take count news
  pub behind : IsAhead (appended count j) (j.last + count + 1) → cell cells (place j (j.last + count + 1)) ≡ None
  pub others : (k : ℕ) → IsBeside j (length news) k → cell cells k ≡ cell before k

-- All of the new records are live after those that were, the journal with them can be appended to, and each cell of no new
-- record is as it was, the base among them.
pub record HasAppendedAll (j : Ring) (news : List FiredFields) (old new : DiskState) : Type 0 where
  pub ready : IsReady (appended (length news) j) new
  pub based : IsBased j (seen_cells (BODY + 1) old) → IsBased j (seen_cells (BODY + 1) new)
  pub reads : live j (seen_cells (BODY + 1) new) ≡ live j (seen_cells (BODY + 1) old) ++ news
  pub others : (k : ℕ) → IsBeside j (length news) k → cell (seen_cells (BODY + 1) new) k ≡ cell (seen_cells (BODY + 1) old) k

-- The same records are live, each cell is as it was or empty, and each that is not of a record ahead is as it was, the base
-- among them.
pub record HasCleaned (j : Ring) (before cells : List Cell) : Type 0 where
  pub size : length cells ≡ length before
  pub based : IsBased j before → IsBased j cells
  pub reads : live j cells ≡ live j before
  pub each : (k : ℕ) → (cell cells k ≡ cell before k) ⊎ (cell cells k ≡ None)
  pub others : (k : ℕ) → ((n : ℕ) → IsAhead j n → place j n ≢ k) → cell cells k ≡ cell before k

-- the journal with the new base, in the other cell
abbrev pub moved : ℕ → Ring → Ring
moved base j = record j { base = base; base_cell = other_cell j }

-- cell k is of none of the records that are dropped
abbrev pub IsKept : ℕ → Ring → ℕ → Type 0
IsKept base j k = (n : ℕ) → j.base ≤ n → n < base → place j n ≢ k

-- The base and the live records are the old ones. The other base cell is as it was or empty, and every other cell as it was.
pub record IsUnmoved (j : Ring) (before cells : List Cell) : Type 0 where
  pub size : length cells ≡ length before
  pub based : IsBased j cells
  pub reads : live j cells ≡ live j before
  pub other : (cell cells (other_cell j) ≡ cell before (other_cell j)) ⊎ (cell cells (other_cell j) ≡ None)
  pub others : (k : ℕ) → k ≢ other_cell j → cell cells k ≡ cell before k

-- The base is the new one, in the other cell, and the live records are the old ones without those before it. Each cell of a
-- dropped record is as it was or empty, and every other as it was. Where the ring was full, the cell after the last record is
-- that of a dropped one.
pub record IsMoved (base : ℕ) (j : Ring) (before cells : List Cell) : Type 0 where
  pub size : length cells ≡ length before
  pub based : IsBased (moved base j) cells
  pub reads : live (moved base j) cells ≡ drop (base - j.base) (live j before)
  pub behind : j.last + 1 ≡ j.base + j.ring → (cell cells (place j (j.last + 1)) ≡ None) ⊎ ((r : FiredFields) × (held_in (cell cells (place j (j.last + 1))) ≡ Some r) × (r.number < base))
  pub each : (k : ℕ) → k ≢ other_cell j → (cell cells k ≡ cell before k) ⊎ (cell cells k ≡ None)
  pub others : (k : ℕ) → k ≢ other_cell j → IsKept base j k → cell cells k ≡ cell before k

-- One of the two.
abbrev pub IsMovedOrNot : ℕ → Ring → List Cell → List Cell → Type 0
IsMovedOrNot base j before cells = IsUnmoved j before cells ⊎ IsMoved base j before cells

-- The base is moved, a stop leaves what a read gives, and where the journal could be appended to, it can be with the new base.
pub record HasMoved (base : ℕ) (j : Ring) (old new : DiskState) : Type 0 where
  pub settled : IsSettled new.now
  pub is : IsMoved base j (seen_cells (BODY + 1) old) (seen_cells (BODY + 1) new)
  pub whole : IsWhole (moved base j) (seen_cells (BODY + 1) new)
  pub ready : IsReady j old → IsReady (moved base j) new
