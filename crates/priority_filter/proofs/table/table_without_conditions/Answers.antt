use Rattle.std.proofs.Common.{ℕ, false, ◌↔◌, sym, subst, ◌∙◌}
use Rattle.priority_filter.specs.Active.{is_active}
use Rattle.priority_filter.specs.Order.{IsBelow}
use Rattle.priority_filter.specs.Table.{Above}
use Rattle.priority_filter.proofs.Counting.{all-kept}
use Rattle.priority_filter.proofs.table.table_without_conditions.Goals as goal

pub returns-then-count_always-clause-below : goal.returns-then-count_always-clause-below
returns-then-count_always-clause-below c =
    let rules = c.args.rules.now in
    subst (λ counted. (a b : ℕ) → Above c.args.all.items a b ↔ IsBelow counted c.args.interactions.now a b) (sym (all-kept (is_active (λ _. false)) rules (sym c.count_always.ensures ∙ c.if-count_always.true))) c.requires.below
