use Rattle.std.proofs.Common.{Contains, subst, sym, ◌∙◌, arith}
use Rattle.std.specs.Vec.{vec_len}
use Rattle.std.proofs.lemmas.Bool.{eqb-true, not-false}
use Rattle.priority_filter.specs.declared.rule.Rule.TheVariants.{UnderAt}
use Rattle.priority_filter.specs.Order.{Priorities}
use Rattle.priority_filter.proofs.order.Order.has_conditions.Goals as goal

pub returns : goal.returns
returns c = λ none left right at there.
    let inside : Priorities = record { rules = c.self.inside.rules.items; interactions = c.self.inside.interactions.items } in
    let here : Contains inside.rules (UnderAt left right at) = subst (λ (p : Priorities). Contains p.rules (UnderAt left right at)) (sym c.self.view_is) there in
    let kept = c.self.invariant.conditions.all left right at here in
    omega (arith, kept.there.1, c.self.inside.conditions.ok.0, eqb-true (vec_len c.self.inside.conditions) 0 (sym c.is_empty.ensures ∙ not-false c.is_empty.result none))
