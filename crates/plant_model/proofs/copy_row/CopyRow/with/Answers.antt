use Rattle.std.proofs.Common.{◌≡◌, ◌+◌, ◌∙◌, ◌++◌, [], ◌∷◌, ap, arith}
use Rattle.plant_model.specs.BoundExpressions.{copies_in, copy_by}
use Rattle.plant_model.proofs.Copying.{one-copied}
use Rattle.plant_model.proofs.copy_row.CopyRow.with.Goals as goal

pub returns : goal.returns
returns c =
    let row = c.args.self.now in
    let at : 0 + c.from.result ≡ c.args.export = omega (arith, c.from.ensures) in
    one-copied row.leaves row.atom row.cells 0 c.from.result c.args.cell (omega (arith, c.requires.exported, c.from.ensures))
    (λ k past. c.requires.free k (omega (arith, past, c.from.ensures))) ∙
    ap (λ k. copies_in row ++ copy_by row.leaves row.atom k c.args.cell ∷ []) at
