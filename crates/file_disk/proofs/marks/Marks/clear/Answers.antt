use Rattle.std.proofs.Common.{◌≡◌, ℕ, ◌<◌, ◌≤◌, Bool, false, List, length, replicate, inl, inr, sym, ◌∙◌, arith}
use Rattle.std.proofs.lemmas.Bool.{cases_lt}
use Rattle.std.proofs.lemmas.List.{ext_get_or, length-replicate, get_or-replicate}
use Rattle.file_disk.specs.Blocks.{is_marked}
use Rattle.file_disk.proofs.marks.Marks.clear.Goals as goal

-- where no block is marked before some place, and none from it on, each mark is absent
cleared : (marked : List Bool) (place count : ℕ) → length marked ≡ count → ((i : ℕ) → i < place → is_marked marked i ≡ false) → ((i : ℕ) → place ≤ i → is_marked marked i ≡ false) → marked ≡ replicate count false
cleared marked place count as_many below above = ext_get_or false marked (replicate count false) (as_many ∙ sym (length-replicate count false)) (λ i within. none i ∙ sym (get_or-replicate count i false false (omega (arith, as_many))))
  where
    none : (i : ℕ) → is_marked marked i ≡ false
    none i = elim (cases_lt i place) [
      | inl low ↦ below i low
      | inr high ↦ above i high
    ]

pub returns : goal.returns
returns c =
    let all = c.loop-block.invariant in
    cleared _ c.loop-block.block _ all.as_many all.below (λ i high. all.above i (omega arith))
