use Rattle.std.proofs.Common.{arith}
use Rattle.petri_atom.proofs.Drawn.{suits-arcs}
use Rattle.petri_atom.proofs.arcs.Arcs.can_move.Goals as goal

pub returns : goal.returns
returns c t drawn = suits-arcs c.args.self.now t drawn c.args.marking (omega arith)
