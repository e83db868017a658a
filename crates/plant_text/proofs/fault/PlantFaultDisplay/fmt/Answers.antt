use Rattle.std.proofs.Common.{append_assoc}
use Rattle.std.proofs.lemmas.Bool.{ne_eqb}
use Rattle.plant_text.proofs.fault.PlantFaultDisplay.fmt.Goals as goal

pub returns-else-self-eq0-clause-writes : goal.returns-else-self-eq0-clause-writes
returns-else-self-eq0-clause-writes g c = rw (ne_eqb c.args.self.now.line 0 c.if-self-eq0.false, append_assoc) c.write-else-self-eq0.ensures.writes
