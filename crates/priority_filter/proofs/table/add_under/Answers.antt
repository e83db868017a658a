use Rattle.std.proofs.Common.{◌+◌, sym, subst, arith}
use Rattle.std.proofs.lemmas.Bool.{both_ways}
use Rattle.priority_filter.specs.declared.rule.Rule.TheVariants.{Under}
use Rattle.priority_filter.proofs.TableLaws.{GainsBelow, gains_skip, gains_more}
use Rattle.priority_filter.proofs.table.add_under.Goals as goal
use Rattle.priority_filter.proofs.table.add_under.Goals.{then-names, else-names}

pub loop-a-preserved : goal.loop-a-preserved
loop-a-preserved c =
    let interactions = c.args.interactions.now in
    let rule = Under c.args.left c.args.right in
    let old = c.args.rows.now in
    let now = c.loop-a.rows in
    let a = c.loop-a.a in
    let above = c.on_side-above.result in
    elim c.if-names.branch [
      | then-names w ↦ gains_more interactions rule a old now c.if-names.rows w.union_with.new.self w.index-rows-a.result above (omega arith) w.rows-is w.union_with.ensures c.loop-a.invariant
          (λ b. (λ held. let right = (c.on_side-above.ensures b).0 held in (right.0, (c.names.ensures.0 w.if-names.true, right.1)), λ put. (c.on_side-above.ensures b).1 (put.0, put.1.1)))
      | else-names w ↦ subst (GainsBelow interactions rule (a + 1) old) (sym w.rows-is) (gains_skip interactions rule a old now c.loop-a.invariant (λ b put. both_ways c.names.result w.if-names.false (c.names.ensures.1 put.0)))
    ]
