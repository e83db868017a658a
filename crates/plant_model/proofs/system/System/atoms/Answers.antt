use Rattle.std.proofs.Common.{ap, map}
use Rattle.petri_atom.specs.Atom.{definition_of}
use Rattle.plant_model.proofs.system.System.atoms.Goals as goal

pub returns : goal.returns
returns c = ap (map definition_of) c.deref.ensures.value
