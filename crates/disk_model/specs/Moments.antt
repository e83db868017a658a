-- How a run of device calls goes on: what a stop at any moment since its start leaves.
use Rattle.std.proofs.Common.{◌≡◌, ◌⊎◌, inl, inr, ⊎_elim, ℕ, ◌<◌, ◌≤◌, Bool, false, List, [], ◌∷◌, ◌++◌, length, drop, slice_index, None, Result, Ok, Err, OnOk, refl, sym, ◌∙◌, ap, subst, arith}
use Rattle.std.proofs.lemmas.List.{length-append, length-map, drop-append-le, drop_all}
use Rattle.std.proofs.lemmas.List.FromFn.{length-range_with_len}
use Rattle.disk_model.specs.DiskState.{Moment, DiskState, MayLeave, IsSettled, LeftByOne, LeftSince, Counts, IsUnchanged, counted, moment_of, size_of}
use Rattle.disk_model.specs.Cells.{Cell, cells_of, cells_in, cell, cell_count, seen_cells, IsClosed, MayBe, MayHaveBeen, Leaves, OldOrEmpty, OldOrEmptyAt, EmptyOrNew, EmptyOrNewAt}

-- what follows from a fact of an Ok is a fact of it too
pub on_ok : {V E : Type 0} (r : Result V E) (P Q : Type 0) → (P → Q) → OnOk r P → OnOk r Q
on_ok (Ok v) P Q goes p = goes p
on_ok (Err e) P Q goes p = p

-- counts of one call after another, of which the first did not fail and made no sync
pub counts_then : (failed synced : Bool) (old mid new : DiskState) → Counts false false old mid → Counts failed synced mid new → Counts failed synced old new
counts_then failed synced old mid new first second = record {
  size = second.size ∙ first.size;
  keeps = second.keeps ∙ first.keeps;
  failures = second.failures ∙ ap (λ (n : ℕ). counted failed n) first.failures;
  syncs = second.syncs ∙ ap (λ (n : ℕ). counted synced n) first.syncs;
}

-- two calls that changed nothing
pub unchanged_from : (old mid new : DiskState) → IsUnchanged old mid → IsUnchanged mid new → IsUnchanged old new
unchanged_from old mid new first second = record { now = second.now ∙ first.now; past = second.past ∙ first.past }

-- before an erase and a set the cells are already what these leave
pub old_or_empty_before : (ks : List ℕ) (cells : List Cell) → OldOrEmptyAt ks cells cells
old_or_empty_before ks cells = record { count = refl; each = λ j. inl refl; others = λ j none. refl }

pub empty_or_new_before : (ks : List ℕ) (bodies : List (List ℕ)) (cells : List Cell) → ((i : ℕ) → i < length ks → cell cells (slice_index ks i) ≡ None) → EmptyOrNewAt ks bodies cells cells
empty_or_new_before ks bodies cells empty = record { count = refl; each = λ i lt. inl (empty i lt); others = λ j none. refl }

-- one moment more
left_more : (ms : List Moment) (m : Moment) (image : List ℕ) → LeftByOne (ms ++ m ∷ []) image → LeftByOne ms image ⊎ MayLeave m image
left_more [] m image (inl here) = inr here
left_more [] m image (inr none) = absurd none
left_more (n ∷ ms) m image (inl here) = inl (inl here)
left_more (n ∷ ms) m image (inr there) = ⊎_elim (λ was. inl (inr was)) (λ new. inr new) (left_more ms m image there)

-- since now there is no other moment
pub left_now : (s : DiskState) (image : List ℕ) → LeftSince s (moment_of s) image → MayLeave s.now image
left_now s image (inl here) = here
left_now s image (inr there) = absurd (subst (λ (ms : List Moment). LeftByOne ms image) (drop_all (length s.past) s.past (omega arith)) there)

module _ (size : ℕ) where
  pub been_now : (s : DiskState) (cells : List Cell) → MayHaveBeen size s (moment_of s) cells → MayBe size s cells
  been_now s cells been = record { image = been.image; left = left_now s been.image been.left; same = been.same }

  pub now_been : (s : DiskState) (t : ℕ) (cells : List Cell) → MayBe size s cells → MayHaveBeen size s t cells
  now_been s t cells may = record { image = may.image; left = inl may.left; same = may.same }

  -- before the first call
  pub leaves_start : (P : List Cell → Type 0) (s : DiskState) → ((cells : List Cell) → MayBe size s cells → P cells) → Leaves size P s s
  leaves_start P s here = record {
    later = omega arith;
    each = λ cells been. here cells (been_now s cells been);
    before = λ t cells le been. inl been;
  }

  -- a call that changed nothing
  pub leaves_unchanged : (P : List Cell → Type 0) (old new : DiskState) → IsUnchanged old new → ((cells : List Cell) → MayBe size old cells → P cells) → Leaves size P old new
  leaves_unchanged P old new same here = record {
    later = omega (arith, ap (λ (l : List Moment). length l) same.past);
    each = λ cells been. here cells (been_now old cells (back (moment_of old) cells been));
    before = λ t cells le been. inl (back t cells been);
  }
    where
      back_left : (t : ℕ) (image : List ℕ) → LeftSince new t image → LeftSince old t image
      back_left t image (inl left) = inl (subst (λ (m : Moment). MayLeave m image) same.now left)
      back_left t image (inr left) = inr (subst (λ (l : List Moment). LeftByOne (drop t l) image) same.past left)

      back : (t : ℕ) (cells : List Cell) → MayHaveBeen size new t cells → MayHaveBeen size old t cells
      back t cells been = record { image = been.image; left = back_left t been.image been.left; same = been.same }

  -- a call that made one moment more
  pub leaves_changed : (P : List Cell → Type 0) (old new : DiskState) → new.past ≡ old.past ++ old.now ∷ [] → ((cells : List Cell) → MayBe size old cells → P cells) → ((cells : List Cell) → MayBe size new cells → P cells) → Leaves size P old new
  leaves_changed P old new past was is = record {
    later = omega (arith, ap (λ (l : List Moment). length l) past, length-append old.past (old.now ∷ []));
    each = λ cells been. ⊎_elim (λ earlier. was cells (been_now old cells earlier)) (λ p. p) (split (moment_of old) cells (omega arith) been);
    before = λ t cells le been. split t cells le been;
  }
    where
      split_left : (t : ℕ) (image : List ℕ) → t ≤ moment_of old → LeftSince new t image → LeftSince old t image ⊎ MayLeave new.now image
      split_left t image le (inl left) = inr left
      split_left t image le (inr left) =
          let joined : drop t new.past ≡ drop t old.past ++ old.now ∷ [] = ap (λ (l : List Moment). drop t l) past ∙ drop-append-le t old.past (old.now ∷ []) le in
          let there : LeftByOne (drop t old.past ++ old.now ∷ []) image = subst (λ (l : List Moment). LeftByOne l image) joined left in
          ⊎_elim (λ earlier. inl (inr earlier)) (λ here. inl (inl here)) (left_more (drop t old.past) old.now image there)

      split : (t : ℕ) (cells : List Cell) → t ≤ moment_of old → MayHaveBeen size new t cells → MayHaveBeen size old t cells ⊎ P cells
      split t cells le been = ⊎_elim
          (λ left. inl (record { image = been.image; left = left; same = been.same }))
          (λ left. inr (is cells (record { image = been.image; left = left; same = been.same })))
          (split_left t been.image le been.left)

  -- one run after another
  pub leaves_then : (P : List Cell → Type 0) (old mid new : DiskState) → Leaves size P old mid → Leaves size P mid new → Leaves size P old new
  leaves_then P old mid new first second = record {
    later = omega (arith, first.later, second.later);
    each = λ cells been. ⊎_elim (first.each cells) (λ p. p) (second.before (moment_of old) cells first.later been);
    before = λ t cells le been. ⊎_elim (first.before t cells le) (λ p. inr p) (second.before t cells (omega (arith, le, first.later)) been);
  }

  -- what has P has Q
  pub leaves_weaker : (P Q : List Cell → Type 0) (old new : DiskState) → ((cells : List Cell) → P cells → Q cells) → Leaves size P old new → Leaves size Q old new
  leaves_weaker P Q old new weaker run = record {
    later = run.later;
    each = λ cells been. weaker cells (run.each cells been);
    before = λ t cells le been. ⊎_elim (λ was. inl was) (λ p. inr (weaker cells p)) (run.before t cells le been);
  }

  -- a stop now leaves what has P
  pub leaves_now : (P : List Cell → Type 0) (old new : DiskState) → Leaves size P old new → (cells : List Cell) → MayBe size new cells → P cells
  leaves_now P old new run cells may = run.each cells (now_been new (moment_of old) cells may)

  -- the cells of an image that a stop now may leave
  pub left_may : (s : DiskState) (image : List ℕ) → MayLeave s.now image → MayBe size s (cells_of size image)
  left_may s image left = record { image = image; left = left; same = refl }

  -- what a read gives is among what a stop may leave
  pub seen_may : (s : DiskState) → MayBe size s (cells_of size s.now.seen)
  seen_may s = left_may s s.now.seen (record { size = refl; others = λ i is. refl })

  -- where nothing is pending a cell that reads empty is closed
  pub closed_at_rest : (s : DiskState) (k : ℕ) → IsSettled s.now → cell (seen_cells size s) k ≡ None → IsClosed size s k
  closed_at_rest s k settled empty cells may = ap (λ (l : List Cell). cell l k) (may.same ∙ ap (λ (image : List ℕ). cells_of size image) (settled may.image may.left)) ∙ empty

  -- an image has as many cells as there are whole ones in its bytes
  pub length-cells_of : (image : List ℕ) → length (cells_of size image) ≡ cells_in size (length image)
  length-cells_of image = simp (length-map, length-range_with_len)

  -- a read gives all cells of the device
  pub seen_length : (s : DiskState) → length (seen_cells size s) ≡ cell_count size s
  seen_length s = length-cells_of s.now.seen

  -- a device of the same size reads as many cells
  pub same_count : (old new : DiskState) → size_of new ≡ size_of old → length (seen_cells size new) ≡ length (seen_cells size old)
  same_count old new same = seen_length new ∙ ap (λ (n : ℕ). cells_in size n) same ∙ sym (seen_length old)

  -- what each image has, a read gives too
  pub seen_after : (P : List Cell → Type 0) (old new : DiskState) → Leaves size P old new → P (seen_cells size new)
  seen_after P old new run = leaves_now P old new run (seen_cells size new) (seen_may new)

  -- where nothing is pending a stop leaves one list of cells
  pub settled_cells : (s : DiskState) (cells : List Cell) → IsSettled s.now → MayBe size s cells → cells ≡ seen_cells size s
  settled_cells s cells settled may = may.same ∙ ap (λ (image : List ℕ). cells_of size image) (settled may.image may.left)

  -- so cells that were old or empty, or empty or new, were so of those that a read gave
  pub old_or_empty_seen : (old : DiskState) (ks : List ℕ) (cells : List Cell) → IsSettled old.now → OldOrEmpty size old ks cells → OldOrEmptyAt ks (seen_cells size old) cells
  old_or_empty_seen old ks cells settled p = subst (λ (l : List Cell). OldOrEmptyAt ks l cells) (settled_cells old p.before settled p.was) (record { count = p.count; each = p.each; others = p.others })

  pub empty_or_new_seen : (old : DiskState) (ks : List ℕ) (bodies : List (List ℕ)) (cells : List Cell) → IsSettled old.now → EmptyOrNew size old ks bodies cells → EmptyOrNewAt ks bodies (seen_cells size old) cells
  empty_or_new_seen old ks bodies cells settled p = subst (λ (l : List Cell). EmptyOrNewAt ks bodies l cells) (settled_cells old p.before settled p.was) (record { count = p.count; each = p.each; others = p.others })
