use Rattle.std.proofs.Common.{◌≡◌, drop}
use Rattle.plant_model.specs.BoundExpressions.{given_copies}
use Rattle.plant_model.proofs.copy_row.CopyRow.give.Given as goal

abbrev pub invariant-loop-export : goal.invariant-loop-export
invariant-loop-export l =
    given_copies l.states l.export (drop l.export l.self.cells) l.row ≡ given_copies l.states 0 l.self.cells l.fn.row
