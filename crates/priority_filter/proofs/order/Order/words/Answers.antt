use Rattle.std.proofs.Common.{◌≤◌, ◌*◌, length, subst, arith}
use Rattle.priority_filter.specs.Order.{Priorities}
use Rattle.priority_filter.proofs.order.Order.words.Goals as goal

pub returns-clause-enough : goal.returns-clause-enough
returns-clause-enough c =
    let inside = c.self.inside in
    subst (λ (p : Priorities). length p.interactions ≤ 64 * c.div_ceil.result) c.self.view_is (omega (arith, c.div_ceil.ensures, c.len.ensures, inside.interactions.ok.0))

pub returns-clause-limit : goal.returns-clause-limit
returns-clause-limit c = omega (arith, c.div_ceil.ensures, c.len.ensures, c.self.inside.interactions.ok.0, c.self.invariant.table.limit)
