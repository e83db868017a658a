use Rattle.std.proofs.Common.{◌≡◌, ℕ, ◌<◌, false, sym, ap, ◌∙◌, subst, ⊎_elim, arith, IsTrue}
use Rattle.std.specs.Ordering.{nat_cmp}
use Rattle.std.specs.FinSet as set
use Rattle.std.proofs.lemmas.Bool.{false≢true}
use Rattle.priority_filter.specs.Table.{row_at}
use Rattle.priority_filter.proofs.TableLaws.{contains_insert_cases, row_read}
use Rattle.priority_filter.proofs.table.free_rows.Goals as goal
use Rattle.priority_filter.proofs.table.free_rows.Goals.{then-is_empty, else-is_empty}

pub loop-number-init : goal.loop-number-init
loop-number-init c n there b = absurd (false≢true (sym (ap (λ s. set.contains s n) c.new-free.ensures ∙ set.contains-empty nat_cmp n) ∙ there))

pub loop-number-preserved : goal.loop-number-preserved
loop-number-preserved c =
    let rows = c.args.rows.now in
    let number : ℕ = c.loop-number.number in
    let within : number < 1024 = omega (arith, c.loop-number-test.true, c.requires) in
    elim c.if-is_empty.branch [
      | then-is_empty w ↦ λ n there b above.
          ⊎_elim
          (λ same.
          let row : c.index-rows-number.result ≡ row_at rows number = row_read rows number number c.index-rows-number.result c.index-rows-number.is (λ _. number) c.loop-number-test.true in
          let none : set.contains c.index-rows-number.result b ≡ false = c.is_empty.ensures.0 w.if-is_empty.true b in
          false≢true (sym (sym (ap (λ s. set.contains s b) row) ∙ none) ∙ subst (λ j. IsTrue (set.contains (row_at rows j) b)) same above))
          (λ was. c.loop-number.invariant n was b above)
          ((contains_insert_cases c.loop-number.free number n).0 (sym (ap (λ s. set.contains s n) (w.free-is ∙ w.insert.ensures.within within)) ∙ there))
      | else-is_empty w ↦ λ n there b above. c.loop-number.invariant n (sym (ap (λ s. set.contains s n) w.free-is) ∙ there) b above
    ]
