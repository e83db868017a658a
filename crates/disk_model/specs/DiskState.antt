-- What a device holds, what a stop may leave of it, and what its calls change.
use Rattle.std.specs.Prelude.{◌≡◌, ◌⊎◌, ℕ, zero, suc, ◌+◌, ◌-◌, ◌^◌, min, ◌≤◌, Bool, true, false, not, ◌&&◌, ◌||◌, nat_le, nat_lt, if◌then◌else◌, List, [], ◌∷◌, ◌++◌, length, take, drop, slice_index, slice_index_or}

-- A moment of a device: the bytes that a read gives, and a mark for each byte that is pending.
pub record Moment : Type 0 where
  pub seen : List ℕ
  pub pending : List Bool

-- A device: its present moment, those before it with the earliest first, how many of its calls have failed, how many
-- of its syncs have succeeded, and whether it keeps the disk model. Both counts stay at 2 ^ 64 - 1.
pub record DiskState : Type 0 where
  pub now : Moment
  pub past : List Moment
  pub failures : ℕ
  pub syncs : ℕ
  pub keeps : Bool

-- how many bytes the device has
abbrev pub size_of : DiskState → ℕ
size_of s = length s.now.seen

-- the byte is pending
abbrev pub is_pending : Moment → ℕ → Bool
is_pending m i = slice_index_or m.pending i false

-- A stop at this moment may leave this image: each byte that is not pending is as a read gives it, a pending one is any.
pub record MayLeave (m : Moment) (image : List ℕ) : Type 0 where
  pub size : length image ≡ length m.seen
  pub others : (i : ℕ) → is_pending m i ≡ false → slice_index image i ≡ slice_index m.seen i

-- Nothing is pending: a stop leaves what a read gives, and nothing else.
abbrev pub IsSettled : Moment → Type 0
IsSettled m = (image : List ℕ) → MayLeave m image → image ≡ m.seen

-- a stop at one of these moments may have left this image
abbrev pub LeftByOne : List Moment → List ℕ → Type 0
LeftByOne [] image = ⊥
LeftByOne (m ∷ ms) image = MayLeave m image ⊎ LeftByOne ms image

-- the number of the present moment: how many came before it
abbrev pub moment_of : DiskState → ℕ
moment_of s = length s.past

-- A stop at some moment from number t on, this one included, might have left this image.
abbrev pub LeftSince : DiskState → ℕ → List ℕ → Type 0
LeftSince s t image = MayLeave s.now image ⊎ LeftByOne (drop t s.past) image

-- one more where it happened, short of the greatest u64
abbrev pub counted : Bool → ℕ → ℕ
counted happened n = if happened then min (n + 1) (2 ^ 64 - 1) else n

-- What each call keeps and counts, whether the device keeps the disk model or not.
pub record Counts (failed synced : Bool) (old new : DiskState) : Type 0 where
  pub size : size_of new ≡ size_of old
  pub keeps : new.keeps ≡ old.keeps
  pub failures : new.failures ≡ counted failed old.failures
  pub syncs : new.syncs ≡ counted synced old.syncs

-- nothing was changed
pub record IsUnchanged (old new : DiskState) : Type 0 where
  pub now : new.now ≡ old.now
  pub past : new.past ≡ old.past

-- What reading alone keeps and counts: it makes no sync, and where the device keeps the disk model nothing was changed.
pub record Reads (failed : Bool) (old new : DiskState) : Type 0 where
  pub counts : Counts failed false old new
  pub same : old.keeps ≡ true → IsUnchanged old new

-- the list with this part in place of as many entries from number at on
abbrev pub overwritten : {X : Type 0} → ℕ → List X → List X → List X
overwritten at part whole = take at whole ++ part ++ drop (at + length part) whole

-- i is one of the count numbers from number at on
abbrev pub is_within : ℕ → ℕ → ℕ → Bool
is_within at count i = nat_le at i && nat_lt i (at + count)

-- These bytes were written from number at on: a read gives them, and each of them is pending.
pub record Writes (at : ℕ) (bytes : List ℕ) (old new : DiskState) : Type 0 where
  pub seen : new.now.seen ≡ overwritten at bytes old.now.seen
  pub pending : (i : ℕ) → is_pending new.now i ≡ (is_pending old.now i || is_within at (length bytes) i)
  pub past : new.past ≡ old.past ++ old.now ∷ []

-- A write of these bytes failed: the device changed nothing, or there stand any bytes in the range, and each is pending.
abbrev pub FailsToWrite : ℕ → List ℕ → DiskState → DiskState → Type 0
FailsToWrite at bytes old new =
    IsUnchanged old new ⊎ ((other : List ℕ) × (length other ≡ length bytes) × Writes at other old new)

-- All that was written is on the disk: a read gives what it gave, and nothing is pending.
pub record Syncs (old new : DiskState) : Type 0 where
  pub seen : new.now.seen ≡ old.now.seen
  pub pending : (i : ℕ) → is_pending new.now i ≡ false
  pub past : new.past ≡ old.past ++ old.now ∷ []

-- What a call of two syncs keeps and counts: at Ok both are counted, before that one or none.
pub record CountsTwo (ok : Bool) (old new : DiskState) : Type 0 where
  pub size : size_of new ≡ size_of old
  pub keeps : new.keeps ≡ old.keeps
  pub failures : new.failures ≡ counted (not ok) old.failures
  pub ok_syncs : ok ≡ true → new.syncs ≡ counted true (counted true old.syncs)
  pub err_syncs : ok ≡ false → (new.syncs ≡ old.syncs) ⊎ (new.syncs ≡ counted true old.syncs)

-- a count of syncs after so many more
abbrev pub counted_times : ℕ → ℕ → ℕ
counted_times zero n = n
counted_times (suc times) n = counted_times times (counted true n)

-- What a call of a few syncs keeps and counts.
pub record CountsUpTo (failed : Bool) (most : ℕ) (old new : DiskState) : Type 0 where
  pub size : size_of new ≡ size_of old
  pub keeps : new.keeps ≡ old.keeps
  pub failures : new.failures ≡ counted failed old.failures
  pub synced : ℕ
  pub few : synced ≤ most
  pub syncs : new.syncs ≡ counted_times synced old.syncs
