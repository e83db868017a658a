use Rattle.std.proofs.Common.{◌≡◌, ℕ, ◌+◌, sym, ap, ◌∙◌, subst}
use Rattle.std.specs.FinSet as set
use Rattle.std.proofs.lemmas.Bool.{both_ways}
use Rattle.priority_filter.specs.Table.{row_at}
use Rattle.priority_filter.proofs.Keeping.{HasFrom, from-skip, from-more, from-all}
use Rattle.priority_filter.proofs.TableLaws.{row_read, above_within}
use Rattle.priority_filter.proofs.table.from_side.Goals as goal
use Rattle.priority_filter.proofs.table.from_side.Goals.{then-contains, else-contains}

pub loop-number-preserved : goal.loop-number-preserved
loop-number-preserved c =
    let rows = c.args.rows.now in
    let on = c.on_side-on.result in
    let number : ℕ = c.loop-number.number in
    let found = c.loop-number.found in
    elim c.if-contains.branch [
      | then-contains w ↦
          let here = w.index-rows-number.result in
          let row : here ≡ row_at rows number = row_read rows number number here w.index-rows-number.is (λ _. number) c.loop-number-test.true in
          subst (HasFrom rows on (number + 1)) (sym (w.found-is ∙ w.union_with.ensures ∙ ap (set.union found) row))
          (from-more rows on number found c.loop-number.invariant (sym c.contains.ensures.held ∙ w.if-contains.true))
      | else-contains w ↦
          subst (HasFrom rows on (number + 1)) (sym w.found-is)
          (from-skip rows on number found c.loop-number.invariant (λ yes_. both_ways c.contains.result w.if-contains.false (c.contains.ensures.held ∙ yes_)))
    ]

pub returns : goal.returns
returns c =
    from-all c.args.rows.now c.on_side-on.result c.args.interactions.now c.args.side c.on_side-on.ensures c.loop-number.number c.loop-number-test.false (above_within c.args.rows.now) c.loop-number.found c.loop-number.invariant
