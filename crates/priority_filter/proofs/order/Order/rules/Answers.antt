use Rattle.std.proofs.Common.{◌∙◌, ap}
use Rattle.priority_filter.specs.Order.{Priorities}
use Rattle.priority_filter.proofs.order.Order.rules.Goals as goal

pub returns : goal.returns
returns c = c.as_slice.ensures.value ∙ ap (λ (order : Priorities). order.rules) c.self.view_is
