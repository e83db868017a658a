use Rattle.std.proofs.Common.{ℕ, ◌↔◌, ◌∙◌, sym, subst}
use Rattle.std.proofs.lemmas.List.{take_at}
use Rattle.priority_filter.specs.Order.{IsBelow}
use Rattle.priority_filter.specs.Table.{Above}
use Rattle.priority_filter.proofs.TableLaws.{chains_of_steps}
use Rattle.priority_filter.proofs.table.order_table.Goals as goal

pub returns-clause-below : goal.returns-clause-below
returns-clause-below c =
    let rules = c.args.rules.now in
    let interactions = c.args.interactions.now in
    let steps = c.add_rules.new.rows in
    let closed = c.close.new.rows in
    subst (λ rows. (a b : ℕ) → Above rows a b ↔ IsBelow rules interactions a b)
    (sym (take_at closed _ c.in_ok-rows.rows.len (c.close.auto.rows ∙ c.deref_mut-2.ensures.len)))
    (chains_of_steps rules interactions steps c.deref_mut-2.result.now closed
    (c.deref_mut-2.ensures.value ∙ take_at steps _ c.in_ok-rows.rows.len (c.add_rules.auto.rows ∙ c.deref_mut.ensures.len)) c.add_rules.ensures c.close.ensures)
