use Rattle.std.proofs.Common.{◌≡◌, ℕ, ◌+◌, ◌∙◌, sym, ap, length}
use Rattle.priority_filter.proofs.TableLaws.{turned_none, turned_more, turned_all}
use Rattle.priority_filter.proofs.table.turned.Goals as goal

pub loop-upper-init : goal.loop-upper-init
loop-upper-init c = record {
  size = c.in_ok-lower.ensures.len;
  room = c.in_ok-lower.ensures.exact;
  turned = turned_none c.args.rows.now c.in_ok-lower.lower.items (ap length c.in_ok-lower.ensures.items);
}

pub loop-upper-preserved : goal.loop-upper-preserved
loop-upper-preserved c =
    let upper : ℕ = c.loop-upper.upper in
    let lower = c.loop-upper.lower in
    let size : length lower.items ≡ upper = sym lower.ok.0 ∙ c.loop-upper.invariant.size in
    record {
      size = c.push_reserved.ensures.len ∙ ap (λ (n : ℕ). n + 1) c.loop-upper.invariant.size;
      room = c.push_reserved.ensures.capacity ∙ c.loop-upper.invariant.room;
      turned = turned_more c.args.rows.now upper lower.items c.push_reserved.new.self.items c.rows_with.result size c.push_reserved.ensures.items c.loop-upper.invariant.turned c.rows_with.ensures;
    }

pub returns-clause-turned : goal.returns-clause-turned
returns-clause-turned c = turned_all c.args.rows.now c.loop-upper.upper c.loop-upper.lower.items c.loop-upper-test.false c.requires.within c.loop-upper.invariant.turned
