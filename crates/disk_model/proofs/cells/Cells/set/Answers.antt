use Rattle.std.proofs.Common.{◌≡◌, [], ◌∷◌, rules}
use Rattle.disk_model.proofs.cells.Cells.set.Goals as goal

pub returns-clause-leaves : goal.returns-clause-leaves
returns-clause-leaves g c =
    let one : c.from_ref.result.now ≡ c.args.body.now ∷ [] = search rules in
    rw one at c.set_run.ensures.leaves

pub returns-clause-filled : goal.returns-clause-filled
returns-clause-filled g c =
    let one : c.from_ref.result.now ≡ c.args.body.now ∷ [] = search rules in
    rw one at c.set_run.ensures.filled
