use Rattle.std.proofs.Common.{◌≡◌, ℕ, ◌+◌, ◌∙◌, sym, ap, subst, arith}
use Rattle.std.specs.FinSet as set
use Rattle.std.proofs.lemmas.Bool.{both_ways}
use Rattle.priority_filter.specs.Table.{row_at, Above}
use Rattle.priority_filter.proofs.TableLaws.{HoldsBelow, holds_none, holds_more, holds_skip, row_read, above_within}
use Rattle.priority_filter.proofs.table.rows_with.Goals as goal
use Rattle.priority_filter.proofs.table.rows_with.Goals.{then-contains, else-contains}

pub loop-number-init : goal.loop-number-init
loop-number-init c =
    let P : ℕ → Type 0 = λ a. Above c.args.rows.now a c.args.upper in
    subst (HoldsBelow P 0) (sym c.new-found.ensures) (holds_none P)

pub loop-number-preserved : goal.loop-number-preserved
loop-number-preserved c =
    let rows = c.args.rows.now in
    let P : ℕ → Type 0 = λ a. Above rows a c.args.upper in
    let number : ℕ = c.loop-number.number in
    let found = c.loop-number.found in
    let row : c.index-rows-number.result ≡ row_at rows number = row_read rows number number c.index-rows-number.result c.index-rows-number.is (λ _. number) c.loop-number-test.true in
    let held : c.contains.result ≡ set.contains (row_at rows number) c.args.upper = c.contains.ensures.held ∙ ap (λ s. set.contains s c.args.upper) row in
    elim c.if-contains.branch [
      | then-contains w ↦ subst (HoldsBelow P (number + 1)) (sym (w.found-is ∙ w.insert.ensures.within (omega (arith, c.loop-number-test.true, c.requires)))) (holds_more P number found c.loop-number.invariant (sym held ∙ w.if-contains.true))
      | else-contains w ↦ subst (HoldsBelow P (number + 1)) (sym w.found-is) (holds_skip P number found c.loop-number.invariant (λ above. both_ways c.contains.result w.if-contains.false (held ∙ above)))
    ]

pub returns : goal.returns
returns c a =
    let rows = c.args.rows.now in
    (λ there. ((c.loop-number.invariant a).0 there).1, λ above. (c.loop-number.invariant a).1 (omega (arith, above_within rows a c.args.upper above, c.loop-number-test.false), above))
