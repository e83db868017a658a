use Rattle.std.proofs.Common.{ap, sym}
use Rattle.plant_text.specs.Fault.{number_of}
use Rattle.plant_text.proofs.fault.Fault.number.Goals as goal

pub returns-in-Limit : goal.returns-in-Limit
returns-in-Limit c = ap number_of (sym c.in-Limit.is)
