use Rattle.std.proofs.Common.{◌∙◌, ap, sym}
use Rattle.std.specs.Prelude.{Some, slice_get}
use Rattle.std.proofs.lemmas.List.{take_all}
use Rattle.plant_model.specs.BoundExpressions.{copied_by, given_for}
use Rattle.plant_model.proofs.Copying.{row-more, row-same}
use Rattle.plant_model.proofs.transfers.deliver_copies.Goals as goal
use Rattle.plant_model.proofs.transfers.deliver_copies.Goals.{then-has_all, else-has_all}

pub loop-row-init : goal.loop-row-init
loop-row-init c place m there first = c.requires.nothing place m there

pub loop-row-preserved : goal.loop-row-preserved
loop-row-preserved c =
    let states = c.args.states.now in
    let item = c.row-item in
    let i = c.loop-row.row-index in
    elim c.if-has_all.branch [
      | then-has_all w ↦ row-more states c.args.rows.now c.args.mask i item.result c.loop-row-test.true item.is c.args.moves.now c.loop-row.delivered c.if-has_all.delivered c.loop-row.invariant (sym c.has_all.ensures ∙ w.if-has_all.true)
          (λ place m row there first old. ap (λ ds. slice_get ds place) w.delivered-is ∙ w.deliver_row.ensures place m row there first old)
      | else-has_all w ↦ row-same states c.args.rows.now c.args.mask i item.result c.loop-row-test.true item.is c.args.moves.now c.loop-row.delivered c.if-has_all.delivered c.loop-row.invariant (sym c.has_all.ensures ∙ w.if-has_all.false) w.delivered-is
    ]

pub returns : goal.returns
returns c place m there first =
    c.loop-row.invariant place m there first ∙
    ap (λ rs. Some (given_for c.args.states.now (copied_by rs) c.args.mask m.atom)) (take_all c.loop-row.row-index c.args.rows.now c.loop-row-test.false)
