-- What one device call does to the cells of each image that a stop may leave.
use Rattle.std.specs.Prelude.{◌≡◌, ◌≢◌, ◌⊎◌, ℕ, ◌<◌, true, List, [], ◌∷◌, ◌++◌, length, slice_index, slice_index_or, Some, None}
use Rattle.disk_model.specs.DiskState.{DiskState, MayLeave, IsUnchanged}
use Rattle.disk_model.specs.Cells.{Cell, body_at, cell, cell_count, seen_cells, MayBe, IsClosed, IsNoneOf, IsOneOf}

-- The cells are those from before but for cell k, which changed so.
pub record ChangesOne (k : ℕ) (S : Cell → Cell → Type 0) (before after : List Cell) : Type 0 where
  pub count : length after ≡ length before
  pub here : S (cell before k) (cell after k)
  pub others : (j : ℕ) → j ≢ k → cell after j ≡ cell before j

-- the cell is as it was
abbrev pub IsAsBefore : Cell → Cell → Type 0
IsAsBefore before after = after ≡ before

-- the cell is as it was, or empty
abbrev pub IsAsBeforeOrEmpty : Cell → Cell → Type 0
IsAsBeforeOrEmpty before after = (after ≡ before) ⊎ (after ≡ None)

-- the cell is empty
abbrev pub IsEmptied : Cell → Cell → Type 0
IsEmptied before after = after ≡ None

-- the cell is empty or has this body
abbrev pub IsEmptyOr : List ℕ → Cell → Cell → Type 0
IsEmptyOr body before after = (after ≡ None) ⊎ (after ≡ Some body)

-- the cell has this body
abbrev pub HasBody : List ℕ → Cell → Cell → Type 0
HasBody body before after = after ≡ Some body

-- What a stop now may leave comes of what a stop before the call might have left, and the call made at most one moment.
pub record Steps (size : ℕ) (k : ℕ) (S : Cell → Cell → Type 0) (old new : DiskState) : Type 0 where
  pub time : IsUnchanged old new ⊎ (new.past ≡ old.past ++ old.now ∷ [])
  pub follows : (cells : List Cell) → MayBe size new cells → (before : List Cell) × MayBe size old before × ChangesOne k S before cells

-- whatever a stop now leaves, this body stands behind the gate of cell k
abbrev pub IsFirm : ℕ → DiskState → ℕ → List ℕ → Type 0
IsFirm size s k body = (image : List ℕ) → MayLeave s.now image → body_at size image k ≡ body

-- each of these cells is one of the device's
abbrev pub AreInside : ℕ → DiskState → List ℕ → Type 0
AreInside size s ks = (i : ℕ) → i < length ks → slice_index ks i < cell_count size s

-- a read gives each of these cells empty
abbrev pub ReadEmpty : ℕ → DiskState → List ℕ → Type 0
ReadEmpty size s ks = (i : ℕ) → i < length ks → cell (seen_cells size s) (slice_index ks i) ≡ None

-- a read gives each of these cells full
abbrev pub ReadFull : ℕ → DiskState → List ℕ → Type 0
ReadFull size s ks = (i : ℕ) → i < length ks → cell (seen_cells size s) (slice_index ks i) ≢ None

-- each of these cells is closed and its gate is not pending
abbrev pub AreClosed : ℕ → DiskState → List ℕ → Type 0
AreClosed size s ks = (i : ℕ) → i < length ks → IsClosed size s (slice_index ks i)

-- no number stands in two places of the list
abbrev pub AllDiffer : List ℕ → Type 0
AllDiffer ks = (i j : ℕ) → i < length ks → j < length ks → slice_index ks i ≡ slice_index ks j → i ≡ j

-- Of the cells ks these are the ones that a read gives full, and none is named twice.
pub record AreTheFull (size : ℕ) (s : DiskState) (ks full : List ℕ) : Type 0 where
  pub differ : AllDiffer full
  pub among : (i : ℕ) → i < length full → IsOneOf ks (slice_index full i)
  pub read_full : s.keeps ≡ true → ReadFull size s full
  pub no_other : s.keeps ≡ true → (i : ℕ) → i < length ks → cell (seen_cells size s) (slice_index ks i) ≢ None → IsOneOf full (slice_index ks i)

-- each of these cells has its body firm
abbrev pub AreFirm : ℕ → DiskState → List ℕ → List (List ℕ) → Type 0
AreFirm size s ks bodies = (i : ℕ) → i < length ks → IsFirm size s (slice_index ks i) (slice_index_or bodies i [])

-- a read gives the first n of these cells empty, and each that is none of them as before
pub record SeenEmptied (size n : ℕ) (ks : List ℕ) (old new : DiskState) : Type 0 where
  pub each : (i : ℕ) → i < n → cell (seen_cells size new) (slice_index ks i) ≡ None
  pub others : (j : ℕ) → IsNoneOf ks j → cell (seen_cells size new) j ≡ cell (seen_cells size old) j

-- a read gives the first n of these bodies behind the gates of their cells, and no cell differs
pub record SeenStaged (size n : ℕ) (ks : List ℕ) (bodies : List (List ℕ)) (old new : DiskState) : Type 0 where
  pub same : seen_cells size new ≡ seen_cells size old
  pub written : (i : ℕ) → i < n → body_at size new.now.seen (slice_index ks i) ≡ slice_index_or bodies i []

-- a read gives the first n of these cells full with what stood behind their gates, and each that is none of them as before
pub record SeenOpened (size n : ℕ) (ks : List ℕ) (old new : DiskState) : Type 0 where
  pub bodies : (j : ℕ) → body_at size new.now.seen j ≡ body_at size old.now.seen j
  pub each : (i : ℕ) → i < n → cell (seen_cells size new) (slice_index ks i) ≡ Some (body_at size old.now.seen (slice_index ks i))
  pub others : (j : ℕ) → IsNoneOf ks j → cell (seen_cells size new) j ≡ cell (seen_cells size old) j
