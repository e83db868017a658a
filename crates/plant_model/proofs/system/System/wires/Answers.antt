use Rattle.std.proofs.Common.{ap, map}
use Rattle.plant_model.specs.Wire.{wire_of}
use Rattle.plant_model.proofs.system.System.wires.Goals as goal

pub returns : goal.returns
returns c = ap (map wire_of) c.deref.ensures.value
