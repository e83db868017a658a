use Rattle.std.proofs.Common.{◌≡◌, ℕ, ◌*◌, ◌≤◌, ◌||◌, List, length, sym, subst}
use Rattle.std.specs.FinSet as set
use Rattle.priority_filter.specs.declared.condition.Condition.{Condition}
use Rattle.priority_filter.specs.Active.{active, unconditional, may_be_marked}
use Rattle.priority_filter.specs.Conditions.{AreWithin, IsLeastClosed}
use Rattle.priority_filter.specs.Decided.{is_overruled}
use Rattle.priority_filter.specs.Order.{Priorities}
use Rattle.priority_filter.proofs.Keeping.{within-list}
use Rattle.priority_filter.proofs.Overruling.{over-decides}
use Rattle.priority_filter.proofs.order.Order.overruled_by_conditions.Goals as goal

pub overruled_by-requires-clause-within : goal.overruled_by-requires-clause-within
overruled_by-requires-clause-within c =
    let inside = c.self.inside in
    let bound : ℕ = 64 * c.words.result in
    let enough : length inside.interactions.items ≤ bound = subst (λ (p : Priorities). length p.interactions ≤ bound) (sym c.self.view_is) c.words.ensures.enough in
    subst (λ conditions. AreWithin conditions bound) (sym c.deref.ensures.value) (within-list inside.rules.items inside.interactions.items inside.conditions.items c.self.invariant.conditions bound enough)

pub returns : goal.returns
returns c = λ n.
    let inside = c.self.inside in
    let holds = may_be_marked c.args.seen.now in
    let rivals = set.contains c.args.rivals.now in
    let over = set.contains c.overruled_by.result in
    let least : IsLeastClosed inside.conditions.items holds rivals over = subst (λ (conditions : List Condition). IsLeastClosed conditions holds rivals over) c.deref.ensures.value c.overruled_by.ensures in
    subst (λ (p : Priorities). is_overruled (active holds p.rules) p.interactions rivals n ≡ (is_overruled (unconditional p.rules) p.interactions rivals n || over n)) c.self.view_is
    (over-decides inside.rules.items inside.interactions.items inside.conditions.items c.self.invariant.conditions holds rivals over least n)
