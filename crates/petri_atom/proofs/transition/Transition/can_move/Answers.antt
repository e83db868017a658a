use Rattle.std.proofs.Common.{arith}
use Rattle.petri_atom.proofs.Grouping.{suits-can_move}
use Rattle.petri_atom.proofs.transition.Transition.can_move.Goals as goal

pub returns : goal.returns
returns c = suits-can_move c.args.self.now c.args.marking (omega arith)
