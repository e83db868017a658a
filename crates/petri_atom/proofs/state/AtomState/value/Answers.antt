use Rattle.std.proofs.Common.{ap, sym, arith, length, pos}
use Rattle.std.proofs.lemmas.List.{get_or_past, length-take}
use Rattle.petri_atom.proofs.state.AtomState.value.Goals as goal

pub returns-else-variable-self : goal.returns-else-variable-self
returns-else-variable-self c =
    let values = ap (λ s. length s.values) c.self.view_is in
    sym (get_or_past c.args.self.now.values c.args.variable (pos 0) (omega (arith, values, length-take c.self.inside.used c.self.inside.vars)))
