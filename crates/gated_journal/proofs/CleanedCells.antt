-- What emptying the cells after the end leaves: the same live records.
use Rattle.std.proofs.Common.{◌≡◌, ⊎_elim, ℕ, ◌+◌, ◌-◌, ◌<◌, ◌≤◌, Bool, true, false, List, length, get_or, is_some, Some, None, refl, sym, ◌∙◌, ap, subst, arith}
use Rattle.std.specs.List.{filter}
use Rattle.disk_model.specs.declared.cells.TheConstants.{BODY}
use Rattle.disk_model.specs.DiskState.{DiskState, IsSettled}
use Rattle.disk_model.specs.Cells.{Cell, cell, seen_cells, IsNoneOf, Leaves, OldOrEmpty, OldOrEmptyAt, Erased}
use Rattle.disk_model.specs.Moments.{leaves_weaker, old_or_empty_seen}
use Rattle.disk_model.specs.Steps.{ReadFull}
use Rattle.record_codec.specs.Fired.{FiredFields}
use Rattle.gated_journal.specs.declared.ring.Ring.{Ring}
use Rattle.gated_journal.specs.Live.{record_in, place, live}
use Rattle.gated_journal.specs.Rings.{IsRing, IsAhead, IsWhole, IsFoundFor, is_full_in}
use Rattle.gated_journal.specs.Stops.{IsReady, HasCleaned}
use Rattle.gated_journal.proofs.BaseCells.{place_after, based_same}
use Rattle.gated_journal.proofs.Fronts.{front_length, front_same, front_ends}
use Rattle.gated_journal.proofs.KeptCells.{kept, kept_passes, all_erased}
use Rattle.gated_journal.proofs.Places.{places, places_length, places_at, places_within, none_of_places, before_places}

-- Cells that agree on the live records, and hold none of the next number, read for the same live records.
pub same_live : (j : Ring) (before cells : List Cell) → IsWhole j before
    → ((n : ℕ) → j.base ≤ n → n ≤ j.last → cell cells (place j n) ≡ cell before (place j n))
    → (IsAhead j (j.last + 1) → record_in (j.last + 1) (cell cells (place j (j.last + 1))) ≡ None)
    → live j cells ≡ live j before
same_live j before cells whole same next = front_same (λ n. record_in n (cell cells (place j n))) (λ n. record_in n (cell before (place j n))) j.base j.ring j.ring (length (live j before)) (j.last + 1) refl (front_length (λ n. record_in n (cell before (place j n))) j.base j.ring) whole
    (λ n from to. ap (record_in n) (same n from (omega (arith, to))))
    (λ some. next (record { from = omega arith; to = some }))

-- after the live records no record of the next number stands
pub next_is_none : (j : Ring) (cells : List Cell) → IsWhole j cells → IsAhead j (j.last + 1) → record_in (j.last + 1) (cell cells (place j (j.last + 1))) ≡ None
next_is_none j cells whole next = front_ends (λ n. record_in n (cell cells (place j n))) j.base j.ring (length (live j cells)) (j.last + 1) refl (omega (arith, whole, next.to)) whole

module _ (j : Ring) (ring : IsRing j) (count : ℕ) (to_end : j.last + 1 + count ≡ j.base + j.ring) where
  -- the row of all records ahead
  live_kept : (n : ℕ) → j.base ≤ n → n ≤ j.last → IsNoneOf (places j (j.last + 1) count) (place j n)
  live_kept n from to = before_places j (j.last + 1) count n (omega (arith, to)) (omega (arith, from, to_end))

  pub has_cleaned : (before cells : List Cell) → IsWhole j before → OldOrEmptyAt (places j (j.last + 1) count) before cells → HasCleaned j before cells
  has_cleaned before cells whole left = record {
    size = left.count;
    based = based_same j before cells ring (λ k low. left.others k (none_of_places j (j.last + 1) count k (λ n from to. place_after j n k low)));
    reads = same_live j before cells whole (λ n from to. left.others (place j n) (live_kept n from to))
        (λ next. ⊎_elim (λ same. ap (record_in (j.last + 1)) same ∙ next_is_none j before whole next) (λ empty. ap (record_in (j.last + 1)) empty) (left.each (place j (j.last + 1))));
    each = left.each;
    others = λ k apart. left.others k (none_of_places j (j.last + 1) count k (λ n from to. apart n (record { from = omega (arith, from); to = omega (arith, to, to_end) })));
  }

  pub is_cleaned : (old new : DiskState) → HasCleaned j (seen_cells (BODY + 1) old) (seen_cells (BODY + 1) new) → IsWhole j (seen_cells (BODY + 1) old) → Erased (BODY + 1) (places j (j.last + 1) count) old new → IsReady j new
  is_cleaned old new cleaned whole erased = record {
    settled = erased.settled;
    whole = ap (λ (l : List FiredFields). j.base + length l) cleaned.reads ∙ whole;
    ahead = λ n later.
        let i : ℕ = n - (j.last + 1) in
        let at : j.last + 1 + i ≡ n = omega (arith, later.from) in
        let inside : i < length (places j (j.last + 1) count) = omega (arith, at, later.to, to_end, places_length j (j.last + 1) count) in
        subst (λ (k : ℕ). cell (seen_cells (BODY + 1) new) k ≡ None) (places_at j (j.last + 1) count i n inside at) (erased.each i inside);
  }

  -- The list tells which cells of the row are full.
  module _ (found : List Cell) (old : DiskState) (told : IsFoundFor j (seen_cells (BODY + 1) old) found) where
    told_in_row : (i : ℕ) → i < length (places j (j.last + 1) count) → cell found (get_or (places j (j.last + 1) count) i 0) ≡ cell (seen_cells (BODY + 1) old) (get_or (places j (j.last + 1) count) i 0)
    told_in_row i lt = told (get_or (places j (j.last + 1) count) i 0) (places_within j (j.last + 1) count ring.some i lt)

    -- those that it tells full read full
    pub found_full : ReadFull (BODY + 1) old (filter (is_full_in found) (places j (j.last + 1) count))
    found_full i lt none =
        let row : List ℕ = places j (j.last + 1) count in
        let test : ℕ → Bool = is_full_in found in
        let k : ℕ = get_or (filter test row) i 0 in
        let same : cell found k ≡ cell (seen_cells (BODY + 1) old) k = kept test row (λ k. cell found k ≡ cell (seen_cells (BODY + 1) old) k) told_in_row i lt in
        absurd (let both : true ≡ false = sym (kept_passes test row i lt) ∙ ap is_some (same ∙ none) in cc)

    -- and where these were emptied, all of the row were
    pub row_erased : (new : DiskState) → Erased (BODY + 1) (filter (is_full_in found) (places j (j.last + 1) count)) old new → Erased (BODY + 1) (places j (j.last + 1) count) old new
    row_erased new erased = all_erased (is_full_in found) (places j (j.last + 1) count) (BODY + 1) old new
        (λ i lt no_cell. sym (told_in_row i lt) ∙ not_some (cell found (get_or (places j (j.last + 1) count) i 0)) no_cell) erased
      where
        not_some : (c : Cell) → is_some c ≡ false → c ≡ None
        not_some None is = refl
        not_some (Some body) is = absurd (let is = is in cc)

  -- and so of every stop inside the call
  pub clean_leaves : (old new : DiskState) → IsSettled old.now → IsWhole j (seen_cells (BODY + 1) old) → Leaves (BODY + 1) (OldOrEmpty (BODY + 1) old (places j (j.last + 1) count)) old new → Leaves (BODY + 1) (HasCleaned j (seen_cells (BODY + 1) old)) old new
  clean_leaves old new settled whole run = leaves_weaker (BODY + 1) (OldOrEmpty (BODY + 1) old (places j (j.last + 1) count)) (HasCleaned j (seen_cells (BODY + 1) old)) old new
      (λ cells p. has_cleaned (seen_cells (BODY + 1) old) cells whole (old_or_empty_seen (BODY + 1) old (places j (j.last + 1) count) cells settled p)) run
