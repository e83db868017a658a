use Rattle.std.proofs.Common.{◌≡◌, ℕ, List, IsTrue, ◌↔◌, ◌∙◌, ap, subst}
use Rattle.std.specs.FinSet as set
use Rattle.std.proofs.lemmas.Result.{IfOk-weaker}
use Rattle.priority_filter.specs.declared.rule.Rule.{Rule}
use Rattle.priority_filter.specs.Active.{active, may_be_marked}
use Rattle.priority_filter.specs.Decided.{is_below}
use Rattle.priority_filter.specs.Order.{Priorities, IsBelow}
use Rattle.priority_filter.specs.Table.{row_at}
use Rattle.priority_filter.proofs.DecidedTests.{same_answer}
use Rattle.priority_filter.proofs.DecidedOrder.{decides_below}
use Rattle.priority_filter.proofs.order.Order.table_at.Goals as goal

pub returns-clause-below : goal.returns-clause-below
returns-clause-below c =
    let order = c.args.self.now in
    let rules = active (may_be_marked c.args.seen.now) order.rules in
    let named : c.deref-2.result.now ≡ rules =
    c.deref-2.ensures.value ∙ c.in_ok-rules.ensures ∙ ap (active (may_be_marked c.args.seen.now)) (c.deref.ensures.value ∙ ap (λ (p : Priorities). p.rules) c.self.view_is) in
    let listed : c.deref-3.result.now ≡ order.interactions = c.deref-3.ensures.value ∙ ap (λ (p : Priorities). p.interactions) c.self.view_is in
    IfOk-weaker c.order_table.result _ _
    (λ rows exact a b.
    same_answer (set.contains (row_at rows.items a) b) (is_below rules order.interactions a b) (IsBelow rules order.interactions a b)
    (subst (λ (all : List (ℕ × ℕ)). IsTrue (set.contains (row_at rows.items a) b) ↔ IsBelow rules all a b) listed
    (subst (λ (counted : List Rule). IsTrue (set.contains (row_at rows.items a) b) ↔ IsBelow counted c.deref-3.result.now a b) named (exact a b)))
    (decides_below rules order.interactions a b))
    c.order_table.ensures.below
