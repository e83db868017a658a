use Rattle.std.proofs.Common.{sym, arith}
use Rattle.priority_filter.proofs.Watching.{bit-there, bits-stay}
use Rattle.priority_filter.proofs.watched.watch.Goals as goal

pub returns-clause-here : goal.returns-clause-here
returns-clause-here c =
    bit-there c.args.watched.now c.from.result c.args.at.place (omega (arith, c.requires.0, c.from.ensures, c.told-watched)) (omega (arith, c.requires.1)) c.args.at.atom (sym c.from.ensures)

pub returns-clause-others : goal.returns-clause-others
returns-clause-others c =
    bits-stay c.args.watched.now c.from.result c.args.at.place (omega (arith, c.requires.0, c.from.ensures, c.told-watched)) (omega (arith, c.requires.1))
