use Rattle.std.proofs.Common.{◌≡◌, ℕ, ◌+◌, ◌∙◌, sym, subst, arith}
use Rattle.std.proofs.lemmas.Bool.{both_ways}
use Rattle.priority_filter.specs.Rule.{IsProperSubset}
use Rattle.priority_filter.specs.Order.{interaction_at}
use Rattle.priority_filter.proofs.TableLaws.{HoldsBelow, holds_none, holds_more, holds_skip}
use Rattle.priority_filter.proofs.table.larger.Goals as goal
use Rattle.priority_filter.proofs.table.larger.Goals.{then-is_larger, else-is_larger}

pub loop-upper-init : goal.loop-upper-init
loop-upper-init c =
    let P : ℕ → Type 0 = λ b. ((interaction_at c.args.interactions.now b).0 ≡ c.args.connector) × IsProperSubset c.args.leaves (interaction_at c.args.interactions.now b).1 in
    subst (HoldsBelow P 0) (sym c.new-found.ensures) (holds_none P)

pub loop-upper-preserved : goal.loop-upper-preserved
loop-upper-preserved c =
    let P : ℕ → Type 0 = λ b. ((interaction_at c.args.interactions.now b).0 ≡ c.args.connector) × IsProperSubset c.args.leaves (interaction_at c.args.interactions.now b).1 in
    let here : ℕ = c.loop-upper.upper in
    let found = c.loop-upper.found in
    elim c.if-is_larger.branch [
      | then-is_larger w ↦ subst (HoldsBelow P (here + 1)) (sym (w.found-is ∙ w.insert.ensures.within (omega arith))) (holds_more P here found c.loop-upper.invariant (c.is_larger.ensures.0 w.if-is_larger.true))
      | else-is_larger w ↦ subst (HoldsBelow P (here + 1)) (sym w.found-is) (holds_skip P here found c.loop-upper.invariant (λ more. both_ways c.is_larger.result w.if-is_larger.false (c.is_larger.ensures.1 more)))
    ]
