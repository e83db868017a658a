use Rattle.std.proofs.Common.{ℕ, ◌+◌, ◌∙◌, length, sym, subst, ap}
use Rattle.priority_filter.proofs.TableLaws.{StepsBelow, steps_none, steps_more, steps_skip}
use Rattle.priority_filter.proofs.table.add_rules.Goals as goal
use Rattle.priority_filter.proofs.table.add_rules.Goals.{then-not-is_repeated, else-not-is_repeated}

pub loop-k-init : goal.loop-k-init
loop-k-init c = record {
  size = c.requires.size;
  steps = steps_none c.args.rules.now c.args.interactions.now c.args.rows.now c.requires.empty;
}

pub loop-k-preserved : goal.loop-k-preserved
loop-k-preserved c =
    let rules = c.args.rules.now in
    let interactions = c.args.interactions.now in
    let k : ℕ = c.loop-k.k in
    elim c.if-not-is_repeated.branch [
      | then-not-is_repeated w ↦
          record {
            size = ap length w.rows-is ∙ w.add_rule.auto.rows ∙ c.loop-k.invariant.size;
            steps = subst (StepsBelow rules interactions (k + 1)) (sym w.rows-is)
                (steps_more rules interactions k c.loop-k.rows w.add_rule.new.rows c.loop-k.invariant.steps w.add_rule.ensures);
          }
      | else-not-is_repeated w ↦
          let earlier = c.is_repeated.ensures.0 w.if-not-is_repeated.false in
          record {
            size = ap length w.rows-is ∙ c.loop-k.invariant.size;
            steps = subst (StepsBelow rules interactions (k + 1)) (sym w.rows-is)
                (steps_skip rules interactions k c.loop-k.rows c.loop-k.invariant.steps earlier.0 earlier.1 earlier.2);
          }
    ]
