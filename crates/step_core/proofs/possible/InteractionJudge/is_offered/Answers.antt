use Rattle.std.proofs.Common.{map}
use Rattle.petri_atom.specs.Atom.{definition_of}
use Rattle.step_core.proofs.Offering.{offered-told}
use Rattle.step_core.proofs.possible.InteractionJudge.is_offered.Goals as goal

pub returns : goal.returns
returns c = offered-told (map definition_of c.args.self.now.atoms.now) c.args.self.now.states.now c.args.port.now c.move_count.result c.move_count.ensures.count
