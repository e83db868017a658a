-- What the tests' devices of five cells have.
use Rattle.std.proofs.Common.{◌+◌, ◌≡◌, ℕ, zero, suc, ◌/◌, ◌<◌, Bool, true, List, [], ◌∷◌, get_or, refl, sym, ap, subst, arith}
use Rattle.disk_model.specs.declared.cells.TheConstants.{BODY}
use Rattle.disk_model.specs.DiskState.{DiskState, IsSettled, Reads, size_of}
use Rattle.disk_model.specs.Cells.{Cell, cell_count, seen_cells, Erased, Leaves, OldOrEmpty, OldOrEmptyAt}
use Rattle.disk_model.specs.Moments.{closed_at_rest, leaves_then, old_or_empty_before, settled_cells}
use Rattle.disk_model.specs.Reading.{reads_leave, reads_seen, reads_settled}
use Rattle.disk_model.proofs.Replacing.{erased_leaves}
use Rattle.disk_model.specs.Steps.{AreInside, AreClosed, AllDiffer}

pub one_of_five : (s : DiskState) (k : ℕ) → size_of s ≡ 5120 → k < 5 → k < cell_count (BODY + 1) s
one_of_five s k size lt = let five : size_of s / (BODY + 1) ≡ 5 = ap (λ (n : ℕ). n / (BODY + 1)) size in omega (arith, five)

-- a call that reads, and then one that empties cells of a settled device
module _ (old mid new : DiskState) (ks : List ℕ) where
  pub read_then_erased : {failed : Bool} → old.keeps ≡ true → IsSettled old.now → Reads failed old mid → Leaves (BODY + 1) (OldOrEmpty (BODY + 1) mid ks) mid new → Leaves (BODY + 1) (OldOrEmptyAt ks (seen_cells (BODY + 1) old)) old new
  read_then_erased keeps settled reads run =
      let P : List Cell → Type 0 = OldOrEmptyAt ks (seen_cells (BODY + 1) old) in
      let first : Leaves (BODY + 1) P old mid = reads_leave (BODY + 1) P old mid reads keeps (λ cells may. subst P (sym (settled_cells (BODY + 1) old cells settled may)) (old_or_empty_before ks (seen_cells (BODY + 1) old))) in
      leaves_then (BODY + 1) P old mid new first
      (subst (λ (cells : List Cell). Leaves (BODY + 1) (OldOrEmptyAt ks cells) mid new) (reads_seen (BODY + 1) old mid reads keeps) (erased_leaves (BODY + 1) mid new ks (reads_settled old mid reads keeps settled) run))

-- what was erased is closed
pub closed_after_erase : (old s : DiskState) (ks : List ℕ) → Erased (BODY + 1) ks old s → AreClosed (BODY + 1) s ks
closed_after_erase old s ks e i lt = closed_at_rest (BODY + 1) s (get_or ks i 0) e.settled (e.each i lt)

pub three_differ : AllDiffer (1 ∷ 2 ∷ 3 ∷ [])
three_differ zero zero h k is = refl
three_differ zero (suc zero) h k is = absurd (omega arith)
three_differ zero (suc (suc zero)) h k is = absurd (omega arith)
three_differ (suc zero) zero h k is = absurd (omega arith)
three_differ (suc zero) (suc zero) h k is = refl
three_differ (suc zero) (suc (suc zero)) h k is = absurd (omega arith)
three_differ (suc (suc zero)) zero h k is = absurd (omega arith)
three_differ (suc (suc zero)) (suc zero) h k is = absurd (omega arith)
three_differ (suc (suc zero)) (suc (suc zero)) h k is = refl
three_differ (suc (suc (suc i))) j h k is = absurd (omega arith)
three_differ zero (suc (suc (suc j))) h k is = absurd (omega arith)
three_differ (suc zero) (suc (suc (suc j))) h k is = absurd (omega arith)
three_differ (suc (suc zero)) (suc (suc (suc j))) h k is = absurd (omega arith)

pub three_inside : (s : DiskState) → size_of s ≡ 5120 → AreInside (BODY + 1) s (1 ∷ 2 ∷ 3 ∷ [])
three_inside s size zero lt = one_of_five s 1 size (omega arith)
three_inside s size (suc zero) lt = one_of_five s 2 size (omega arith)
three_inside s size (suc (suc zero)) lt = one_of_five s 3 size (omega arith)
three_inside s size (suc (suc (suc i))) lt = absurd (omega arith)
