use Rattle.std.proofs.Common.{ap, map}
use Rattle.petri_atom.specs.Expression.{tree_of}
use Rattle.plant_warnings.specs.Connectors.{is_zero}
use Rattle.plant_warnings.proofs.Mapped.{any_seen}
use Rattle.plant_warnings.proofs.connectors.has_zero_guard.Goals as goal

pub returns : goal.returns
returns c = any_seen is_zero tree_of c.deref.result.now _ c.is_one_zero.result (ap (map tree_of) c.deref.ensures.value) c.is_one_zero.ensures
