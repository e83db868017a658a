use Rattle.std.proofs.Common.{◌-◌, ap, refl}
use Rattle.std.proofs.lemmas.Iterator.{YieldsList-from_range, items_from_collect}
use Rattle.recovery.proofs.writing.other_cells.Goals as goal

pub returns : goal.returns
returns c = items_from_collect _ c.collect.ensures.ran (YieldsList-from_range 1 c.cells_for.result _ refl (ap (λ n. n - 1) c.cells_for.ensures))
