use Rattle.std.proofs.Common.{false, not, ◌&&◌, ap, ◌∙◌}
use Rattle.std.specs.FinSet as set
use Rattle.priority_filter.specs.Active.{may_be_marked}
use Rattle.priority_filter.specs.Decided.{is_overruled}
use Rattle.priority_filter.proofs.Counting.{same-counted}
use Rattle.priority_filter.proofs.order.Order.filter.Goals as goal

pub returns-else-has_conditions-clause-within : goal.returns-else-has_conditions-clause-within
returns-else-has_conditions-clause-within c n below =
    let order = c.args.self.now in
    c.filter_always.ensures.within n below ∙
    ap (λ rules. set.contains c.args.candidates.now n && not (is_overruled rules order.interactions (set.contains c.args.rivals.now) n)) (same-counted order.rules (λ _. false) (may_be_marked c.args.seen.now) (c.has_conditions.ensures c.if-has_conditions.false))
