-- The image that a stop may leave where one pending byte is any.
use Rattle.std.proofs.Common.{◌≡◌, ◌≢◌, ◌↔◌, ◌⊎◌, inl, inr, ℕ, ◌+◌, ◌*◌, ◌<◌, ◌≤◌, Bool, true, false, cond, eqb, List, get_or, set, Option, Some, None, refl, sym, ◌∙◌, ap, subst, arith}
use Rattle.std.proofs.lemmas.Bool.Decides.{nat_tests}
use Rattle.std.proofs.lemmas.List.{ext_get_or, length-set, get_or-set_same, get_or-set_other}
use Rattle.disk_model.specs.DiskState.{Moment, DiskState, MayLeave, IsSettled, size_of, is_pending}
use Rattle.disk_model.specs.Cells.{body_at, cell_at, cells_in, cells_of, cell, cell_count, IsClosed}
use Rattle.disk_model.specs.Laws.{IsShut}
use Rattle.disk_model.proofs.CellBytes.{cell-cells_of, cell_inside}
use Rattle.disk_model.proofs.CallLemmas.{open_cell}

-- one pending byte changed
pub changed_one : (m : Moment) (i x : ℕ) → is_pending m i ≡ true → MayLeave m (set m.seen i x)
changed_one m i x is = record {
  size = length-set m.seen i x;
  others = λ j not. get_or-set_other m.seen i j x 0 (apart j not);
}
  where
    apart : (j : ℕ) → is_pending m j ≡ false → j ≢ i
    apart j not same = differ (is_pending m i) is (subst (λ (n : ℕ). is_pending m n ≡ false) same not)
      where
        differ : (b : Bool) → b ≡ true → b ≡ false → ⊥
        differ b marked clear = cc

both : (b : Bool) → (b ≡ true) ⊎ (b ≡ false)
both true = inl refl
both false = inr refl

pub settled_both : (s : DiskState) → IsSettled s.now ↔ ((i : ℕ) → i < size_of s → is_pending s.now i ≡ false)
settled_both s = (forth, back)
  where
    forth : IsSettled s.now → (i : ℕ) → i < size_of s → is_pending s.now i ≡ false
    forth settled i lt = elim (both (is_pending s.now i)) [
      | inl marked ↦
          let x = get_or s.now.seen i 0 in
          let same : set s.now.seen i (x + 1) ≡ s.now.seen = settled (set s.now.seen i (x + 1)) (changed_one s.now i (x + 1) marked) in
          let up : x + 1 ≡ x = sym (get_or-set_same s.now.seen i (x + 1) 0 lt) ∙ ap (λ (l : List ℕ). get_or l i 0) same in
          absurd (omega (arith, up))
      | inr clear ↦ clear
    ]

    back : ((i : ℕ) → i < size_of s → is_pending s.now i ≡ false) → IsSettled s.now
    back none image left = ext_get_or 0 image s.now.seen left.size (λ i lt. left.others i (none i (omega (arith, left.size))))

pub closed_both : (size k : ℕ) (s : DiskState) → 0 < size → k < cell_count size s → IsClosed size s k ↔ IsShut size s k
closed_both size k s sized inside = (forth, back)
  where
    at : ℕ
    at = size * k

    within : at < size_of s
    within = let whole : size * k + size ≤ size_of s = cell_inside size (size_of s) k inside in omega (arith, whole)

    entry : (image : List ℕ) → MayLeave s.now image → cell (cells_of size image) k ≡ cell_at size image k
    entry image left = cell-cells_of size image k (subst (λ (n : ℕ). k < cells_in size n) (sym left.size) inside)

    never_open : IsClosed size s k → (image : List ℕ) → MayLeave s.now image → get_or image at 0 ≢ 165
    never_open closed image left gate =
        let none : cell_at size image k ≡ None = sym (entry image left) ∙ closed (cells_of size image) (record { image = image; left = left; same = refl }) in
        let some : cell_at size image k ≡ Some (body_at size image k) = open_cell size k image gate in
        cc (none, some)

    forth : IsClosed size s k → IsShut size s k
    forth closed = record {
      gate = never_open closed s.now.seen (record { size = refl; others = λ i is. refl });
      written = elim (both (is_pending s.now at)) [
        | inl marked ↦ absurd (never_open closed (set s.now.seen at 165) (changed_one s.now at 165 marked) (get_or-set_same s.now.seen at 165 0 within))
        | inr clear ↦ clear
      ];
    }

    back : IsShut size s k → IsClosed size s k
    back shut cells may =
        let gate : get_or may.image at 0 ≡ get_or s.now.seen at 0 = may.left.others at shut.written in
        let ne : get_or may.image at 0 ≢ 165 = (λ (is : get_or may.image at 0 ≡ 165). shut.gate (sym gate ∙ is)) in
        let test : eqb (get_or may.image at 0) 165 ≡ false = grind (arith, nat_tests) in
        ap (λ (l : List (Option (List ℕ))). cell l k) may.same ∙ entry may.image may.left ∙ ap (λ (b : Bool). cond b (Some (body_at size may.image k)) None) test
