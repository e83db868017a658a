use Rattle.std.proofs.Common.{◌≡◌, ◌∙◌, ◌&&◌, ap, sym, map, arith}
use Rattle.std.specs.FinSet.{contains, contains-empty}
use Rattle.std.specs.Ordering.{nat_cmp}
use Rattle.plant_model.specs.BoundExpressions.{has_all}
use Rattle.plant_model.specs.ConnectorRows.{has_all_at, is_from}
use Rattle.plant_model.specs.Interaction.{interaction_of}
use Rattle.plant_model.specs.declared.interaction.Interaction.{Interaction}
use Rattle.plant_model.proofs.ByConnector.{from-none, kept-at, row-in, row-out}
use Rattle.plant_model.proofs.Noting.{put-here, put-other}
use Rattle.plant_model.proofs.connector_rows.row_with_all.Goals as goal
use Rattle.plant_model.proofs.connector_rows.row_with_all.Goals.{then-has_all, else-has_all}

pub loop-number-init : goal.loop-number-init
loop-number-init c n =
    ap (λ row. contains row n) c.new-row.ensures ∙ contains-empty nat_cmp n ∙
    sym (ap (λ b. b && has_all_at (map interaction_of c.args.interactions.now) c.args.leaves n) (from-none c.args.first n))

pub loop-number-preserved : goal.loop-number-preserved
loop-number-preserved c n =
    let items = c.args.interactions.now in
    let item = c.index-interactions-number.result in
    let k = c.loop-number.number in
    let all = map interaction_of items in
    let old = c.loop-number.row in
    let there = kept-at items k item (omega (arith, c.loop-number-test.true, c.requires.end)) c.index-interactions-number.is in
    let mask : has_all item.mask c.args.leaves ≡ c.has_all.result = ap (λ (x : Interaction). has_all x.mask c.args.leaves) c.index-interactions-number.is ∙ sym c.has_all.ensures in
    elim c.if-has_all.branch [
      | then-has_all w ↦
          let put = w.row-is ∙ w.insert.ensures.within (omega (arith, c.loop-number-test.true, c.requires.end, c.requires.few)) in
          row-in all c.args.leaves c.args.first k (interaction_of item) there c.loop-number.auto.number (contains old) c.loop-number.invariant (mask ∙ w.if-has_all.true)
          (contains c.if-has_all.row) (ap (λ row. contains row k) put ∙ put-here old k) (λ m other. ap (λ row. contains row m) put ∙ put-other old k m other) n
      | else-has_all w ↦
          ap (λ row. contains row n) w.row-is ∙
          row-out all c.args.leaves c.args.first k (interaction_of item) there c.loop-number.auto.number (contains old) c.loop-number.invariant (mask ∙ w.if-has_all.false) n
    ]

pub returns : goal.returns
returns c n =
    let end : c.loop-number.number ≡ c.args.end = omega (arith, c.loop-number-test.false, c.requires.first, c.loop-number.auto.number-end c.requires.first) in
    c.loop-number.invariant n ∙ ap (λ m. is_from c.args.first m n && has_all_at (map interaction_of c.args.interactions.now) c.args.leaves n) end
