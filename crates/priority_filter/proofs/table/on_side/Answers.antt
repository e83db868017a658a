use Rattle.std.proofs.Common.{ℕ, ◌+◌, ◌∙◌, sym, subst, arith}
use Rattle.std.proofs.lemmas.Bool.{both_ways}
use Rattle.priority_filter.specs.Rule.{IsOn}
use Rattle.priority_filter.specs.Order.{interaction_at}
use Rattle.priority_filter.proofs.TableLaws.{HoldsBelow, holds_none, holds_more, holds_skip}
use Rattle.priority_filter.proofs.table.on_side.Goals as goal
use Rattle.priority_filter.proofs.table.on_side.Goals.{then-names, else-names}

pub loop-b-init : goal.loop-b-init
loop-b-init c =
    let P : ℕ → Type 0 = λ b. IsOn c.args.side (interaction_at c.args.interactions.now b) in
    subst (HoldsBelow P 0) (sym c.new-found.ensures) (holds_none P)

pub loop-b-preserved : goal.loop-b-preserved
loop-b-preserved c =
    let P : ℕ → Type 0 = λ b. IsOn c.args.side (interaction_at c.args.interactions.now b) in
    let here : ℕ = c.loop-b.b in
    let found = c.loop-b.found in
    elim c.if-names.branch [
      | then-names w ↦ subst (HoldsBelow P (here + 1)) (sym (w.found-is ∙ w.insert.ensures.within (omega arith))) (holds_more P here found c.loop-b.invariant (c.names.ensures.0 w.if-names.true))
      | else-names w ↦ subst (HoldsBelow P (here + 1)) (sym w.found-is) (holds_skip P here found c.loop-b.invariant (λ on. both_ways c.names.result w.if-names.false (c.names.ensures.1 on)))
    ]
