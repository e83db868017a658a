use Rattle.std.proofs.Common.{arith}
use Rattle.petri_atom.proofs.Effects.{stopped-word, kept-word, made-word}
use Rattle.petri_atom.proofs.behind.effect_on.Goals as goal

pub returns-then-other-gone-ne0 : goal.returns-then-other-gone-ne0
returns-then-other-gone-ne0 c =
    let some = c.if-other-gone-ne0.true in
    stopped-word c.args.fired.now c.args.other.now (omega arith)

pub returns-then-places-gone-eq0 : goal.returns-then-places-gone-eq0
returns-then-places-gone-eq0 c = kept-word c.args.fired.now c.args.other.now c.if-places-gone-eq0.true

pub returns-then-places-fired-eq0 : goal.returns-then-places-fired-eq0
returns-then-places-fired-eq0 c =
    made-word c.args.fired.now c.args.other.now c.if-other-gone-ne0.false c.if-places-fired-eq0.true
