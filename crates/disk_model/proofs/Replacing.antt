-- What replacing cells leaves: each is as it was, empty, or has its new body.
use Rattle.std.proofs.Common.{◌≡◌, ◌≢◌, ◌⊎◌, inl, inr, ⊎_elim, ℕ, zero, suc, ◌<◌, Bool, true, List, [], ◌∷◌, length, get_or, None, Some, refl, sym, ◌∙◌, subst, arith}
use Rattle.disk_model.specs.DiskState.{DiskState, IsSettled, Reads, size_of}
use Rattle.disk_model.specs.Cells.{Cell, cell, cell_count, seen_cells, IsNoneOf, IsOneOf, Leaves, OldOrEmpty, OldOrEmptyAt, EmptyOrNew, EmptyOrNewAt, Erased, Filled, OldEmptyOrNewAt, OldEmptyOrNewRun, Replaced}
use Rattle.disk_model.specs.Steps.{AreClosed, AreInside, AreTheFull}
use Rattle.disk_model.specs.Moments.{leaves_start, leaves_then, leaves_weaker, old_or_empty_before, old_or_empty_seen, empty_or_new_seen, settled_cells, same_count, seen_after, closed_at_rest}
use Rattle.disk_model.specs.Reading.{reads_leave, reads_seen}

-- another number is none of one
pub none_of_one : (o k : ℕ) → k ≢ o → IsNoneOf (o ∷ []) k
none_of_one o k ne zero within = λ same. ne (sym same)
none_of_one o k ne (suc i) within = absurd (omega arith)

-- a cell is empty or full
empty_or_full : (c : Cell) → (c ≡ None) ⊎ (c ≢ None)
empty_or_full None = inl refl
empty_or_full (Some body) = inr (λ same. cc)

module _ (size : ℕ) (old : DiskState) where
  -- no cell is emptied
  pub nothing_erased : IsSettled old.now → Erased size [] old old
  nothing_erased settled = record { settled = settled; each = λ i lt. absurd (omega arith); others = λ j none. refl }

  pub nothing_leaves : (ks : List ℕ) → IsSettled old.now → Leaves size (OldOrEmptyAt ks (seen_cells size old)) old old
  nothing_leaves ks settled = leaves_start size (OldOrEmptyAt ks (seen_cells size old)) old
      (λ cells may. subst (OldOrEmptyAt ks (seen_cells size old)) (sym (settled_cells size old cells settled may)) (old_or_empty_before ks (seen_cells size old)))

module _ (size : ℕ) (old mid : DiskState) where
  -- cells of a settled device are emptied
  pub erased_leaves : (ks : List ℕ) → IsSettled old.now → Leaves size (OldOrEmpty size old ks) old mid → Leaves size (OldOrEmptyAt ks (seen_cells size old)) old mid
  erased_leaves ks settled run = leaves_weaker size (OldOrEmpty size old ks) (OldOrEmptyAt ks (seen_cells size old)) old mid (λ cells p. old_or_empty_seen size old ks cells settled p) run

  module _ (ks full : List ℕ) (bodies : List (List ℕ)) (are : AreTheFull size old ks full) where
    -- what is none of the run is none of its full cells
    none_of_full : (j : ℕ) → IsNoneOf ks j → IsNoneOf full j
    none_of_full j none i lt same = let one : IsOneOf ks (get_or full i 0) = are.among i lt in none one.0 one.1 (one.2 ∙ same)

    -- the full cells are inside the device, as all are
    pub full_inside : AreInside size old ks → AreInside size old full
    full_inside inside i lt = let one : IsOneOf ks (get_or full i 0) = are.among i lt in subst (λ (k : ℕ). k < cell_count size old) one.2 (inside one.0 one.1)

    -- the full cells are emptied
    emptied_left : (cells : List Cell) → OldOrEmptyAt full (seen_cells size old) cells → OldEmptyOrNewRun ks bodies (seen_cells size old) cells
    emptied_left cells p = record {
      count = p.count;
      each = λ i lt. ⊎_elim (λ same. inl same) (λ empty. inr (inl empty)) (p.each (get_or ks i 0));
      others = λ j none. p.others j (none_of_full j none);
    }

    module _ (run : Leaves size (OldOrEmptyAt full (seen_cells size old)) old mid) where
      pub emptied_leaves : Leaves size (OldEmptyOrNewRun ks bodies (seen_cells size old)) old mid
      emptied_leaves = leaves_weaker size (OldOrEmptyAt full (seen_cells size old)) (OldEmptyOrNewRun ks bodies (seen_cells size old)) old mid emptied_left run

      module _ (erased : Erased size full old mid) where
        -- so each cell of the run reads empty
        reads_empty : old.keeps ≡ true → (i : ℕ) → i < length ks → cell (seen_cells size mid) (get_or ks i 0) ≡ None
        reads_empty keeps i lt = ⊎_elim
            (λ was_empty. ⊎_elim (λ same. same ∙ was_empty) (λ empty. empty) ((seen_after size (OldOrEmptyAt full (seen_cells size old)) old mid run).each (get_or ks i 0)))
            (λ was_full. let one : IsOneOf full (get_or ks i 0) = are.no_other keeps i lt was_full in subst (λ (k : ℕ). cell (seen_cells size mid) k ≡ None) one.2 (erased.each one.0 one.1))
            (empty_or_full (cell (seen_cells size old) (get_or ks i 0)))

        pub are_closed : old.keeps ≡ true → AreClosed size mid ks
        are_closed keeps i lt = closed_at_rest size mid (get_or ks i 0) erased.settled (reads_empty keeps i lt)

        -- and then they are filled
        filled_left : size_of mid ≡ size_of old → (cells : List Cell) → EmptyOrNew size mid ks bodies cells → OldEmptyOrNewRun ks bodies (seen_cells size old) cells
        filled_left same cells p =
            let left : EmptyOrNewAt ks bodies (seen_cells size mid) cells = empty_or_new_seen size mid ks bodies cells erased.settled p in
            record {
              count = left.count ∙ same_count size old mid same;
              each = λ i lt. inr (left.each i lt);
              others = λ j none. left.others j none ∙ erased.others j (none_of_full j none);
            }

        pub filled_leaves : (new : DiskState) → size_of mid ≡ size_of old → Leaves size (EmptyOrNew size mid ks bodies) mid new → Leaves size (OldEmptyOrNewRun ks bodies (seen_cells size old)) old new
        filled_leaves new same filling = leaves_then size (OldEmptyOrNewRun ks bodies (seen_cells size old)) old mid new emptied_leaves
            (leaves_weaker size (EmptyOrNew size mid ks bodies) (OldEmptyOrNewRun ks bodies (seen_cells size old)) mid new (filled_left same) filling)

        pub are_filled : (new : DiskState) → Filled size ks bodies mid new → Filled size ks bodies old new
        are_filled new filled = record {
          settled = filled.settled;
          each = filled.each;
          others = λ j none. filled.others j none ∙ erased.others j (none_of_full j none);
        }

module _ (size k : ℕ) (body : List ℕ) (old : DiskState) where
  -- a run of one cell
  one_left : (cells : List Cell) → OldEmptyOrNewRun (k ∷ []) (body ∷ []) (seen_cells size old) cells → OldEmptyOrNewAt k body (seen_cells size old) cells
  one_left cells p = record { count = p.count; here = p.each 0 (omega arith); others = λ j ne. p.others j (none_of_one k j ne) }

  pub one_leaves : (new : DiskState) → Leaves size (OldEmptyOrNewRun (k ∷ []) (body ∷ []) (seen_cells size old)) old new → Leaves size (OldEmptyOrNewAt k body (seen_cells size old)) old new
  one_leaves new run = leaves_weaker size (OldEmptyOrNewRun (k ∷ []) (body ∷ []) (seen_cells size old)) (OldEmptyOrNewAt k body (seen_cells size old)) old new one_left run

  pub one_replaced : (new : DiskState) → size_of new ≡ size_of old → Filled size (k ∷ []) (body ∷ []) old new → Replaced size k body old new
  one_replaced new same filled = record {
    settled = filled.settled;
    count = same_count size old new same;
    here = filled.each 0 (omega arith);
    others = λ j ne. filled.others j (none_of_one k j ne);
  }

  -- the cell is read
  pub read_leaves : {failed : Bool} (mid : DiskState) → Reads failed old mid → old.keeps ≡ true → IsSettled old.now → Leaves size (OldEmptyOrNewAt k body (seen_cells size old)) old mid
  read_leaves mid reads keeps settled = reads_leave size (OldEmptyOrNewAt k body (seen_cells size old)) old mid reads keeps
      (λ cells may. subst (OldEmptyOrNewAt k body (seen_cells size old)) (sym (settled_cells size old cells settled may)) (record { count = refl; here = inl refl; others = λ j ne. refl }))

  -- and then replaced
  pub read_then_leaves : {failed : Bool} (mid new : DiskState) → Reads failed old mid → old.keeps ≡ true → IsSettled old.now → Leaves size (OldEmptyOrNewAt k body (seen_cells size mid)) mid new → Leaves size (OldEmptyOrNewAt k body (seen_cells size old)) old new
  read_then_leaves mid new reads keeps settled run = leaves_then size (OldEmptyOrNewAt k body (seen_cells size old)) old mid new (read_leaves mid reads keeps settled)
      (subst (λ (cells : List Cell). Leaves size (OldEmptyOrNewAt k body cells) mid new) (reads_seen size old mid reads keeps) run)
