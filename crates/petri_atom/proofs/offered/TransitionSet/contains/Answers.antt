use Rattle.std.proofs.Common.{◌<◌, ◌^◌, ◌∙◌, sym, arith}
use Rattle.std.proofs.lemmas.Bool.{le-ltb}
use Rattle.petri_atom.proofs.Sets.{has-above}
use Rattle.petri_atom.proofs.offered.TransitionSet.contains.Goals as goal

pub returns-else-transition-lt128 : goal.returns-else-transition-lt128
returns-else-transition-lt128 c =
    let small : c.args.self < 2 ^ 128 = omega (arith, c.self.view_is) in
    le-ltb c.args.transition 128 c.if-transition-lt128.false ∙ sym (has-above c.args.self 128 c.args.transition small c.if-transition-lt128.false)
