use Rattle.std.proofs.Common.{◌≡◌, ◌%◌, ap, ◌∙◌, subst, List}
use Rattle.std.specs.Ordering.{nat_cmp}
use Rattle.std.specs.FinSet.{FinSet, contains}
use Rattle.priority_filter.specs.Active.{unconditional}
use Rattle.priority_filter.specs.Decided.{is_below}
use Rattle.priority_filter.specs.Members.{has_bit}
use Rattle.priority_filter.specs.Order.{Priorities}
use Rattle.priority_filter.specs.Table.{row_at}
use Rattle.priority_filter.proofs.TableLaws.{row_decides}
use Rattle.priority_filter.proofs.order.Order.above_word.Goals as goal

pub returns : goal.returns
returns c n at =
    let inside = c.self.inside in
    let a = c.args.interaction in
    subst (λ (p : Priorities). has_bit c.row_word.result (n % 64) ≡ is_below (unconditional p.rules) p.interactions a n) c.self.view_is
    (c.row_word.ensures n at ∙ ap (λ (t : List (FinSet nat_cmp)). contains (row_at t a) n) c.deref.ensures.value ∙
    row_decides (unconditional inside.rules.items) inside.interactions.items inside.above.items c.self.invariant.table.exact a n)
