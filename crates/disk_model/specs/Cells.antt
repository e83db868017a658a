-- A device as a list of cells, each empty or full with a body, and what a stop leaves of it.
use Rattle.std.specs.Prelude.{◌≡◌, ◌≢◌, ◌⊎◌, ℕ, ◌+◌, ◌-◌, ◌*◌, ◌/◌, ◌<◌, ◌≤◌, ◌==◌, if◌then◌else◌, List, [], length, map, take, drop, slice_index, slice_index_or, Option, Some, None}
use Rattle.std.specs.List.{range_with_len}
use Rattle.disk_model.specs.DiskState.{DiskState, MayLeave, IsSettled, LeftSince, moment_of, size_of}

-- a cell: full with this body, or empty
abbrev pub Cell : Type 0
Cell = Option (List ℕ)

-- the bytes behind the gate of cell k, at cells of this size
abbrev pub body_at : ℕ → List ℕ → ℕ → List ℕ
body_at size image k = take (size - 1) (drop (size * k + 1) image)

-- cell k of an image: full where its first byte, the gate, is 0xA5
abbrev pub cell_at : ℕ → List ℕ → ℕ → Cell
cell_at size image k = if slice_index image (size * k) == 0xA5 then Some (body_at size image k) else None

-- how many whole cells there are in so many bytes
abbrev pub cells_in : ℕ → ℕ → ℕ
cells_in size bytes = bytes / size

-- the cells of an image, in order
abbrev pub cells_of : ℕ → List ℕ → List Cell
cells_of size image = map (cell_at size image) (range_with_len 0 (cells_in size (length image)))

-- cell k of a list of cells; there is nothing past its end
abbrev pub cell : List Cell → ℕ → Cell
cell cells k = slice_index_or cells k None

-- how many cells the device has
abbrev pub cell_count : ℕ → DiskState → ℕ
cell_count size s = cells_in size (size_of s)

-- the cells that a read gives
abbrev pub seen_cells : ℕ → DiskState → List Cell
seen_cells size s = cells_of size s.now.seen

-- A stop now may leave these cells.
pub record MayBe (size : ℕ) (s : DiskState) (cells : List Cell) : Type 0 where
  pub image : List ℕ
  pub left : MayLeave s.now image
  pub same : cells ≡ cells_of size image

-- A stop at some moment from number t on might have left these cells.
pub record MayHaveBeen (size : ℕ) (s : DiskState) (t : ℕ) (cells : List Cell) : Type 0 where
  pub image : List ℕ
  pub left : LeftSince s t image
  pub same : cells ≡ cells_of size image

-- A stop at any moment since the old state leaves cells that have P.
pub record Leaves (size : ℕ) (P : List Cell → Type 0) (old new : DiskState) : Type 0 where
  pub later : moment_of old ≤ moment_of new
  pub each : (cells : List Cell) → MayHaveBeen size new (moment_of old) cells → P cells
  -- for a run that began earlier: there is no further outcome
  pub before : (t : ℕ) (cells : List Cell) → t ≤ moment_of old → MayHaveBeen size new t cells → MayHaveBeen size old t cells ⊎ P cells

-- Cell k is closed and its gate is not pending: whatever a stop now leaves, the cell is empty.
abbrev pub IsClosed : ℕ → DiskState → ℕ → Type 0
IsClosed size s k = (cells : List Cell) → MayBe size s cells → cell cells k ≡ None

-- k is none of these numbers
abbrev pub IsNoneOf : List ℕ → ℕ → Type 0
IsNoneOf ks k = (i : ℕ) → i < length ks → slice_index ks i ≢ k

-- k is one of these numbers
abbrev pub IsOneOf : List ℕ → ℕ → Type 0
IsOneOf ks k = (i : ℕ) × (i < length ks) × (slice_index ks i ≡ k)

-- These cells are some that a stop in the old state might have left, but that each of the numbered ones is as it was or empty.
pub record OldOrEmpty (size : ℕ) (old : DiskState) (ks : List ℕ) (cells : List Cell) : Type 0 where
  pub before : List Cell
  pub was : MayBe size old before
  pub count : length cells ≡ length before
  pub each : (j : ℕ) → (cell cells j ≡ cell before j) ⊎ (cell cells j ≡ None)
  pub others : (j : ℕ) → IsNoneOf ks j → cell cells j ≡ cell before j

-- These cells are some that a stop in the old state might have left, but that each of the numbered ones is empty or has its new body.
pub record EmptyOrNew (size : ℕ) (old : DiskState) (ks : List ℕ) (bodies : List (List ℕ)) (cells : List Cell) : Type 0 where
  pub before : List Cell
  pub was : MayBe size old before
  pub count : length cells ≡ length before
  pub each : (i : ℕ) → i < length ks → (cell cells (slice_index ks i) ≡ None) ⊎ (cell cells (slice_index ks i) ≡ Some (slice_index_or bodies i []))
  pub others : (j : ℕ) → IsNoneOf ks j → cell cells j ≡ cell before j

-- Each of the numbered cells reads empty and every other as before, and a stop leaves these cells and nothing else.
pub record Erased (size : ℕ) (ks : List ℕ) (old new : DiskState) : Type 0 where
  pub settled : IsSettled new.now
  pub each : (i : ℕ) → i < length ks → cell (seen_cells size new) (slice_index ks i) ≡ None
  pub others : (j : ℕ) → IsNoneOf ks j → cell (seen_cells size new) j ≡ cell (seen_cells size old) j

-- Each of the numbered cells reads full with its body and every other as before, and a stop leaves these cells and nothing else.
pub record Filled (size : ℕ) (ks : List ℕ) (bodies : List (List ℕ)) (old new : DiskState) : Type 0 where
  pub settled : IsSettled new.now
  pub each : (i : ℕ) → i < length ks → cell (seen_cells size new) (slice_index ks i) ≡ Some (slice_index_or bodies i [])
  pub others : (j : ℕ) → IsNoneOf ks j → cell (seen_cells size new) j ≡ cell (seen_cells size old) j

-- Each cell reads as before, and a stop leaves these cells and nothing else.
pub record Settles (size : ℕ) (old new : DiskState) : Type 0 where
  pub settled : IsSettled new.now
  pub same : seen_cells size new ≡ seen_cells size old

-- Each of the numbered cells is as it was or empty, and every other as it was.
pub record OldOrEmptyAt (ks : List ℕ) (before cells : List Cell) : Type 0 where
  pub count : length cells ≡ length before
  pub each : (j : ℕ) → (cell cells j ≡ cell before j) ⊎ (cell cells j ≡ None)
  pub others : (j : ℕ) → IsNoneOf ks j → cell cells j ≡ cell before j

-- Each of the numbered cells is empty or has its new body, and every other is as it was.
pub record EmptyOrNewAt (ks : List ℕ) (bodies : List (List ℕ)) (before cells : List Cell) : Type 0 where
  pub count : length cells ≡ length before
  pub each : (i : ℕ) → i < length ks → (cell cells (slice_index ks i) ≡ None) ⊎ (cell cells (slice_index ks i) ≡ Some (slice_index_or bodies i []))
  pub others : (j : ℕ) → IsNoneOf ks j → cell cells j ≡ cell before j

-- Cell k is as it was, empty, or full with this body, and every other is as it was.
pub record OldEmptyOrNewAt (k : ℕ) (body : List ℕ) (before cells : List Cell) : Type 0 where
  pub count : length cells ≡ length before
  pub here : (cell cells k ≡ cell before k) ⊎ (cell cells k ≡ None) ⊎ (cell cells k ≡ Some body)
  pub others : (j : ℕ) → j ≢ k → cell cells j ≡ cell before j

-- Each of the numbered cells is as it was, empty, or full with its new body, and every other is as it was.
pub record OldEmptyOrNewRun (ks : List ℕ) (bodies : List (List ℕ)) (before cells : List Cell) : Type 0 where
  pub count : length cells ≡ length before
  pub each : (i : ℕ) → i < length ks → (cell cells (slice_index ks i) ≡ cell before (slice_index ks i)) ⊎ (cell cells (slice_index ks i) ≡ None) ⊎ (cell cells (slice_index ks i) ≡ Some (slice_index_or bodies i []))
  pub others : (j : ℕ) → IsNoneOf ks j → cell cells j ≡ cell before j

-- Cell k reads full with this body and every other as before, and a stop leaves these cells and nothing else.
pub record Replaced (size k : ℕ) (body : List ℕ) (old new : DiskState) : Type 0 where
  pub settled : IsSettled new.now
  pub count : length (seen_cells size new) ≡ length (seen_cells size old)
  pub here : cell (seen_cells size new) k ≡ Some body
  pub others : (j : ℕ) → j ≢ k → cell (seen_cells size new) j ≡ cell (seen_cells size old) j
