-- Reading alone: how it begins and goes on, and that a read and a stop give after it what they gave before.
use Rattle.std.proofs.Common.{◌≡◌, ℕ, Bool, true, false, List, refl, sym, ◌∙◌, ap, subst}
use Rattle.disk_model.specs.DiskState.{Moment, DiskState, MayLeave, IsSettled, Reads}
use Rattle.disk_model.specs.Cells.{Cell, cells_of, seen_cells, MayBe, Leaves}
use Rattle.disk_model.specs.Moments.{counts_then, unchanged_from, leaves_unchanged, leaves_then, leaves_now}

-- before the first read
pub reads_none : (s : DiskState) → Reads false s s
reads_none s = record { counts = record { size = refl; keeps = refl; failures = refl; syncs = refl }; same = λ keeps. record { now = refl; past = refl } }

-- one read after another
pub reads_then : {failed : Bool} (old mid new : DiskState) → Reads false old mid → Reads failed mid new → Reads failed old new
reads_then {failed} old mid new first second = record {
  counts = counts_then failed false old mid new first.counts second.counts;
  same = λ keeps. unchanged_from old mid new (first.same keeps) (second.same (first.counts.keeps ∙ keeps));
}

-- a device that was settled is settled
pub reads_settled : {failed : Bool} (old new : DiskState) → Reads failed old new → old.keeps ≡ true → IsSettled old.now → IsSettled new.now
reads_settled old new reads keeps settled = subst (λ (m : Moment). IsSettled m) (sym (reads.same keeps).now) settled

module _ (size : ℕ) where
  -- the cells read as before
  pub reads_seen : {failed : Bool} (old new : DiskState) → Reads failed old new → old.keeps ≡ true → seen_cells size new ≡ seen_cells size old
  reads_seen old new reads keeps = ap (λ (m : Moment). cells_of size m.seen) (reads.same keeps).now

  -- what holds of the cells that are read later held of those before
  pub seen_before : {failed : Bool} (P : List Cell → Type 0) (old new : DiskState) → Reads failed old new → old.keeps ≡ true → P (seen_cells size new) → P (seen_cells size old)
  seen_before P old new reads keeps p = subst P (reads_seen old new reads keeps) p

  -- a stop leaves no other cells than before
  pub may_before : {failed : Bool} (old new : DiskState) (cells : List Cell) → Reads failed old new → old.keeps ≡ true → MayBe size new cells → MayBe size old cells
  may_before old new cells reads keeps may = record { image = may.image; left = subst (λ (m : Moment). MayLeave m may.image) (reads.same keeps).now may.left; same = may.same }

  -- a run may begin with reading
  pub reads_leave : {failed : Bool} (P : List Cell → Type 0) (old new : DiskState) → Reads failed old new → old.keeps ≡ true → ((cells : List Cell) → MayBe size old cells → P cells) → Leaves size P old new
  reads_leave P old new reads keeps here = leaves_unchanged size P old new (reads.same keeps) here

  -- and may go on with it
  pub leaves_reading : {failed : Bool} (P : List Cell → Type 0) (old mid new : DiskState) → Leaves size P old mid → Reads failed mid new → mid.keeps ≡ true → Leaves size P old new
  leaves_reading P old mid new run reads keeps = leaves_then size P old mid new run (reads_leave P mid new reads keeps (leaves_now size P old mid run))
