use Rattle.std.proofs.Common.{◌≡◌, ◌%◌, ap, ◌∙◌, subst, List}
use Rattle.std.specs.Ordering.{nat_cmp}
use Rattle.std.specs.FinSet.{FinSet, contains}
use Rattle.priority_filter.specs.Active.{unconditional}
use Rattle.priority_filter.specs.Decided.{is_below}
use Rattle.priority_filter.specs.Members.{has_bit}
use Rattle.priority_filter.specs.Order.{Priorities}
use Rattle.priority_filter.specs.Table.{row_at, Above}
use Rattle.priority_filter.proofs.DecidedTests.{same_answer}
use Rattle.priority_filter.proofs.TableLaws.{row_decides}
use Rattle.priority_filter.proofs.order.Order.below_word.Goals as goal

pub returns : goal.returns
returns c n at =
    let inside = c.self.inside in
    let a = c.args.interaction in
    let turned : contains (row_at inside.below.items a) n ≡ contains (row_at inside.above.items n) a
    = same_answer (contains (row_at inside.below.items a) n) (contains (row_at inside.above.items n) a) (Above inside.above.items n a) (c.self.invariant.below n a) (λ yes_. yes_, λ yes_. yes_) in
    subst (λ (p : Priorities). has_bit c.row_word.result (n % 64) ≡ is_below (unconditional p.rules) p.interactions n a) c.self.view_is
    (c.row_word.ensures n at ∙ ap (λ (t : List (FinSet nat_cmp)). contains (row_at t a) n) c.deref.ensures.value ∙ turned ∙
    row_decides (unconditional inside.rules.items) inside.interactions.items inside.above.items c.self.invariant.table.exact n a)
