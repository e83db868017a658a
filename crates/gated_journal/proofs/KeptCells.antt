-- Of a row of cells those are kept that pass a test.
use Rattle.std.proofs.Common.{◌≡◌, ◌≢◌, inl, inr, ℕ, ◌<◌, Bool, true, false, cond, List, [], ◌∷◌, length, get_or, None, refl, sym, ◌∙◌, ap, subst, arith}
use Rattle.std.specs.List.{All, AllPairs, filter}
use Rattle.std.proofs.lemmas.Bool.{cases_order}
use Rattle.std.proofs.lemmas.List.{get_or_default}
use Rattle.std.proofs.lemmas.List.Elements.{All-cons, All-head, All-tail, All-get_or, All-from_get_or, All-filter, filter_passes}
use Rattle.std.proofs.lemmas.List.Kept.{AllPairs-filter}
use Rattle.disk_model.specs.DiskState.{DiskState}
use Rattle.disk_model.specs.Cells.{Cell, cell, seen_cells, IsNoneOf, OldOrEmpty, Erased}
use Rattle.disk_model.specs.Steps.{AllDiffer}

module _ (p : ℕ → Bool) where
  -- what each that is kept has, each has that passes
  all_passing : (Q : ℕ → Type 0) (ks : List ℕ) → All Q (filter p ks) → All (λ k. p k ≡ true → Q k) ks
  all_passing Q [] all = All-from_get_or (λ k. p k ≡ true → Q k) [] 0 (λ i lt. absurd (omega arith))
  all_passing Q (k ∷ ks) all = by_test (p k) refl (all_passing Q ks)
    where
      by_test : (b : Bool) → p k ≡ b → (All Q (filter p ks) → All (λ k. p k ≡ true → Q k) ks) → All (λ k. p k ≡ true → Q k) (k ∷ ks)
      by_test true is rest =
          let kept : All Q (k ∷ filter p ks) = subst (λ (b : Bool). All Q (cond b (k ∷ filter p ks) (filter p ks))) is all in
          All-cons (λ k. p k ≡ true → Q k) k ks (λ passes. All-head Q k (filter p ks) kept) (rest (All-tail Q k (filter p ks) kept))
      by_test false is rest =
          let kept : All Q (filter p ks) = subst (λ (b : Bool). All Q (cond b (k ∷ filter p ks) (filter p ks))) is all in
          All-cons (λ k. p k ≡ true → Q k) k ks (λ passes. absurd (let both : true ≡ false = sym passes ∙ is in cc)) (rest kept)

  module _ (ks : List ℕ) where
    pub passing : (Q : ℕ → Type 0) → ((i : ℕ) → i < length (filter p ks) → Q (get_or (filter p ks) i 0)) → (i : ℕ) → i < length ks → p (get_or ks i 0) ≡ true → Q (get_or ks i 0)
    passing Q each i lt = All-get_or (λ k. p k ≡ true → Q k) ks i 0 lt (all_passing Q ks (All-from_get_or Q (filter p ks) 0 each))

    -- what each has, each has that is kept
    pub kept : (Q : ℕ → Type 0) → ((i : ℕ) → i < length ks → Q (get_or ks i 0)) → (i : ℕ) → i < length (filter p ks) → Q (get_or (filter p ks) i 0)
    kept Q each i lt = All-get_or Q (filter p ks) i 0 lt (All-filter p Q ks (All-from_get_or Q ks 0 each))

    -- and each passes
    pub kept_passes : (i : ℕ) → i < length (filter p ks) → p (get_or (filter p ks) i 0) ≡ true
    kept_passes i lt = All-get_or (λ k. p k ≡ true) (filter p ks) i 0 lt (filter_passes p ks)

    -- what does not pass is none of them
    pub none_kept : (k : ℕ) → p k ≡ false → IsNoneOf (filter p ks) k
    none_kept k fails i lt same = absurd (let both : true ≡ false = sym (kept_passes i lt) ∙ ap p same ∙ fails in cc)

    -- where all differ, so do they
    pub kept_differ : AllDiffer ks → AllDiffer (filter p ks)
    kept_differ differ i j i_lt j_lt same = elim (cases_order i j) [
      | inl is ↦ is
      | inr (inl below) ↦ absurd (apart i j 0 below j_lt same)
      | inr (inr above) ↦ absurd (apart j i 0 above i_lt (sym same))
    ]
      where
        ordered : (i j : ℕ) → i < j → i ≡ j → ⊥
        ordered i j below is = omega arith

        apart : AllPairs (λ x y. x ≢ y) (filter p ks)
        apart = AllPairs-filter (λ x y. x ≢ y) p ks (λ i j d below lt is. ordered i j below (differ i j (omega (arith, below, lt)) lt
            (get_or_default ks i 0 d (omega (arith, below, lt)) ∙ is ∙ get_or_default ks j d 0 lt)))

    -- emptying those that are kept leaves what emptying all leaves
    pub all_old_or_empty : (size : ℕ) (old : DiskState) (cells : List Cell) → OldOrEmpty size old (filter p ks) cells → OldOrEmpty size old ks cells
    all_old_or_empty size old cells left = record {
      before = left.before;
      was = left.was;
      count = left.count;
      each = left.each;
      others = λ k none. left.others k (kept (λ x. x ≢ k) none);
    }

    -- and where the others read empty, all are emptied
    pub all_erased : (size : ℕ) (old new : DiskState) → ((i : ℕ) → i < length ks → p (get_or ks i 0) ≡ false → cell (seen_cells size old) (get_or ks i 0) ≡ None) → Erased size (filter p ks) old new → Erased size ks old new
    all_erased size old new empty erased = record {
      settled = erased.settled;
      each = λ i lt. by_test i lt (p (get_or ks i 0)) refl;
      others = λ k none. erased.others k (kept (λ x. x ≢ k) none);
    }
      where
        by_test : (i : ℕ) → i < length ks → (b : Bool) → p (get_or ks i 0) ≡ b → cell (seen_cells size new) (get_or ks i 0) ≡ None
        by_test i lt true is = passing (λ k. cell (seen_cells size new) k ≡ None) erased.each i lt is
        by_test i lt false is = erased.others (get_or ks i 0) (none_kept (get_or ks i 0) is) ∙ empty i lt is
