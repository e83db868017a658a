-- The first cells of a device, loaded one after another, and after some reading.
use Rattle.std.proofs.Common.{◌≡◌, ◌∙◌, sym, subst, ap, arith, refl, ℕ, ◌+◌, ◌<◌, ◌≤◌, ◌++◌, Bool, true, false, nat_lt, List, [], ◌∷◌, None, length, min, take}
use Rattle.std.proofs.lemmas.List.{take_all, take_more}
use Rattle.std.proofs.lemmas.Bool.{ltb-true, ltb-false}
use Rattle.disk_model.specs.Cells.{Cell, cell}
use Rattle.disk_model.specs.DiskState.{DiskState, Reads}
use Rattle.disk_model.specs.Reading.{reads_seen}
use Rattle.disk_model.specs.declared.cells.TheConstants.{BODY}
use Rattle.image_inspection.specs.Inspected.{inspected_cells, most_cells}
use Rattle.image_inspection.specs.Seen.{size_of}

-- as many as the most, or as there are
pub taken : {X : Type 0} (most count read : ℕ) (all : List X) → length all ≡ count → read ≡ min most count → take read all ≡ take most all
taken {X} most count read all long is = by_test (nat_lt count most) refl
  where
    by_test : (t : Bool) → nat_lt count most ≡ t → take read all ≡ take most all
    by_test true less =
        let below : count < most = ltb-true count most less in
        take_all read all (omega arith) ∙ sym (take_all most all (omega arith))
    by_test false more =
        let above : most ≤ count = ltb-false count most more in
        let same : read ≡ most = omega arith in
        ap (λ (k : ℕ). take k all) same

-- one more of them
pub taken_more : (all list next : List Cell) (found : Cell) (k : ℕ) → k < length all → list ≡ take k all → next ≡ list ++ found ∷ [] → found ≡ cell all k → next ≡ take (k + 1) all
taken_more all list next found k inside so_far pushed is =
    pushed
    ∙ ap (λ (l : List Cell). l ++ found ∷ []) so_far
    ∙ ap (λ (x : Cell). take k all ++ x ∷ []) is
    ∙ sym (take_more all k None inside)

-- the cells that are loaded after some reading are those of the device as it was before
loaded-before : (old mid : DiskState) (list : List Cell) → Reads false old mid → old.keeps ≡ true → (mid.keeps ≡ true → list ≡ inspected_cells mid) → list ≡ inspected_cells old
loaded-before old mid list reads keeps is = is (reads.counts.keeps ∙ keeps) ∙ ap (take most_cells) (reads_seen (BODY + 1) old mid reads keeps)

-- what is told of the size and of the cells that are loaded after some reading is told of the device as it was before
pub told-before : (Told : ℕ → List Cell → Type 0) (old mid : DiskState) (bytes : ℕ) (list loaded : List Cell) → bytes ≡ size_of old → Reads false old mid → old.keeps ≡ true
    → list ≡ loaded → (mid.keeps ≡ true → loaded ≡ inspected_cells mid) → Told bytes list → Told (size_of old) (inspected_cells old)
told-before Told old mid bytes list loaded size reads keeps is loads told =
    subst (λ (n : ℕ). Told n (inspected_cells old)) size (subst (λ (l : List Cell). Told bytes l) (is ∙ loaded-before old mid loaded reads keeps loads) told)
