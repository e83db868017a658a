use Rattle.std.proofs.Common.{◌+◌, sym, subst, arith}
use Rattle.priority_filter.specs.declared.rule.Rule.TheVariants.{Maximal}
use Rattle.priority_filter.proofs.TableLaws.{GainsBelow, gains_skip, gains_more}
use Rattle.priority_filter.proofs.table.add_maximal.Goals as goal
use Rattle.priority_filter.proofs.table.add_maximal.Goals.{then-lower-connector, else-lower-connector}

pub loop-a-preserved : goal.loop-a-preserved
loop-a-preserved c =
    let interactions = c.args.interactions.now in
    let rule = Maximal c.args.connector in
    let old = c.args.rows.now in
    let now = c.loop-a.rows in
    let a = c.loop-a.a in
    elim c.if-lower-connector.branch [
      | then-lower-connector w ↦ gains_more interactions rule a old now c.if-lower-connector.rows w.union_with.new.self w.index-rows-a.result w.larger-above.result (omega arith) w.rows-is w.union_with.ensures c.loop-a.invariant
          (λ b. (λ held. let more = (w.larger-above.ensures b).0 held in (more.0, (w.if-lower-connector.true, more.1.0, more.1.1)), λ put. (w.larger-above.ensures b).1 (put.0, (put.1.1, put.1.2))))
      | else-lower-connector w ↦ subst (GainsBelow interactions rule (a + 1) old) (sym w.rows-is) (gains_skip interactions rule a old now c.loop-a.invariant (λ b put. w.if-lower-connector.false put.0))
    ]
