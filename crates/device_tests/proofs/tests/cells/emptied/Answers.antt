use Rattle.std.proofs.Common.{◌∷◌, [], ◌∙◌}
use Rattle.device_tests.proofs.FiveCells.{read_then_erased}
use Rattle.device_tests.proofs.tests.cells.emptied.Goals as goal

pub returns-in_err-erase-clause-leaves : goal.returns-in_err-erase-clause-leaves
returns-in_err-erase-clause-leaves g c keeps =
    let old = c.args.cells.now in
    let mid = c.size.new.self in
    read_then_erased old mid c.erase.new.self (c.args.k ∷ []) keeps (c.requires.settled keeps) c.size.ensures.reads (c.erase.ensures.leaves (c.size.ensures.reads.counts.keeps ∙ keeps))

pub returns-clause-leaves : goal.returns-clause-leaves
returns-clause-leaves g c keeps =
    let old = c.args.cells.now in
    let mid = c.size.new.self in
    read_then_erased old mid c.erase.new.self (c.args.k ∷ []) keeps (c.requires.settled keeps) c.size.ensures.reads (c.erase.ensures.leaves (c.size.ensures.reads.counts.keeps ∙ keeps))
