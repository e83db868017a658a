use Rattle.std.proofs.Common.{ap}
use Rattle.gated_journal.specs.declared.ring.Ring.{Ring}
use Rattle.plant_core.proofs.plant.Plant.knows_its_records.Goals as goal

pub returns-clause-marks : goal.returns-clause-marks
returns-clause-marks g c = λ keeps whole. c.args.self.now.marked keeps whole

pub returns-clause-base : goal.returns-clause-base
returns-clause-base g c = λ keeps whole. ap (λ (r : Ring). r.base) (c.args.self.now.at_rest keeps whole).journal

pub returns-clause-ring : goal.returns-clause-ring
returns-clause-ring g c = λ keeps whole. ap (λ (r : Ring). r.ring) (c.args.self.now.at_rest keeps whole).journal
