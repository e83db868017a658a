use Rattle.std.proofs.Common.{Contains, get_or, subst, sym, ap, ◌∙◌, arith}
use Rattle.std.proofs.lemmas.List.{get_or_past}
use Rattle.priority_filter.specs.declared.rule.Rule.TheVariants.{UnderAt}
use Rattle.priority_filter.specs.Members.{has_bit}
use Rattle.priority_filter.specs.Order.{Priorities}
use Rattle.priority_filter.proofs.order.Order.watched.Goals as goal

pub returns-in-Some : goal.returns-in-Some
returns-in-Some c = λ left right at there same.
    let row = c.self.inside.watched in
    let found = c.in-Some.ensures.lookup in
    ap (λ w. has_bit w at.place) (found.3.1 0 ∙ ap (λ k. get_or row k 0) (c.from.ensures ∙ sym same)) ∙
    c.self.invariant.watched left right at (subst (λ (p : Priorities). Contains p.rules (UnderAt left right at)) (sym c.self.view_is) there)

pub returns-in-None : goal.returns-in-None
returns-in-None c = λ left right at there same.
    let row = c.self.inside.watched in
    ap (λ w. has_bit w at.place) (sym (get_or_past row at.atom 0 (omega (arith, c.in-None.ensures.lookup.3, c.from.ensures, same)))) ∙
    c.self.invariant.watched left right at (subst (λ (p : Priorities). Contains p.rules (UnderAt left right at)) (sym c.self.view_is) there)
