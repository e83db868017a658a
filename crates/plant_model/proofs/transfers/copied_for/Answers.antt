use Rattle.std.proofs.Common.{◌==◌, ◌&&◌, ◌∙◌, ap, sym}
use Rattle.std.proofs.lemmas.Bool.{and_right, ne_eqb}
use Rattle.plant_model.specs.BoundExpressions.{given_copies, has_all}
use Rattle.plant_model.proofs.Copying.{row-given, row-passed}
use Rattle.plant_model.proofs.transfers.copied_for.Goals as goal
use Rattle.plant_model.proofs.transfers.copied_for.Goals.{then-has_all+then-row-atom, else-has_all, else-has_all-via-then-has_all+else-row-atom, else-has_all-via-else-has_all}

pub loop-row-preserved : goal.loop-row-preserved
loop-row-preserved c =
    let states = c.args.states.now in
    let mask = c.args.mask in
    let atom = c.args.atom in
    let row = c.row-item.result in
    let more = row-given states c.args.rows.now mask c.loop-row.row-index row c.loop-row-test.true c.row-item.is atom in
    let passed = row-passed states c.args.rows.now mask c.loop-row.row-index row c.loop-row-test.true c.row-item.is atom in
    elim c.if-has_all.branch [
      | then-has_all+then-row-atom w ↦ w.delivered-is ∙ w.give.ensures ∙ ap (given_copies states 0 row.cells) c.loop-row.invariant ∙ sym (more w.if-row-atom.true (sym c.has_all.ensures ∙ w.if-has_all.true))
      | else-has_all w ↦
          w.delivered-is ∙ c.loop-row.invariant ∙
          sym (passed (elim w.else-has_all.branch [
            | else-has_all-via-then-has_all+else-row-atom w' ↦ and_right (has_all mask row.leaves) (row.atom == atom) (ne_eqb row.atom atom w'.if-row-atom.false)
            | else-has_all-via-else-has_all w' ↦ ap (λ b. b && row.atom == atom) (sym c.has_all.ensures ∙ w'.if-has_all.false)
          ]))
    ]
