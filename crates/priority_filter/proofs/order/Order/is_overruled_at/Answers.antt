use Rattle.std.proofs.Common.{false, sym, ap, ◌∙◌}
use Rattle.std.specs.FinSet as set
use Rattle.priority_filter.specs.Active.{may_be_marked}
use Rattle.priority_filter.specs.Decided.{is_overruled}
use Rattle.priority_filter.proofs.Counting.{same-counted, overruled-always}
use Rattle.priority_filter.proofs.order.Order.is_overruled_at.Goals as goal

pub returns-then-is_overruled-clause-value : goal.returns-then-is_overruled-clause-value
returns-then-is_overruled-clause-value c =
    let order = c.args.self.now in
    c.if-is_overruled.true ∙ sym (overruled-always order.rules order.interactions (may_be_marked c.args.seen.now) (set.contains c.args.rivals.now) c.args.interaction (sym c.is_overruled.ensures.value ∙ c.if-is_overruled.true))

pub returns-else-has_conditions-clause-value : goal.returns-else-has_conditions-clause-value
returns-else-has_conditions-clause-value c =
    let order = c.args.self.now in
    c.is_overruled-else-has_conditions.ensures.value ∙
    ap (λ rules. is_overruled rules order.interactions (set.contains c.args.rivals.now) c.args.interaction) (same-counted order.rules (λ _. false) (may_be_marked c.args.seen.now) (c.has_conditions.ensures c.if-has_conditions.false))
