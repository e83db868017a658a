use Rattle.std.proofs.Common.{◌<◌, ◌^◌, arith}
use Rattle.petri_atom.proofs.Markings.{moved-word}
use Rattle.petri_atom.proofs.arcs.Arcs.marking_after.Goals as goal

pub returns : goal.returns
returns c t drawn =
    let small : c.args.marking < 2 ^ 64 = omega arith in
    rw (drawn.sources, drawn.targets) (moved-word c.args.marking t.sources t.targets small)
