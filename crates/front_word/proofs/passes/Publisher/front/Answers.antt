use Rattle.std.proofs.Common.{map, sym, subst}
use Rattle.plant_core.specs.declared.front.Front.{Front}
use Rattle.front_word.specs.Fronts.{IsWithin}
use Rattle.front_word.proofs.Fronts.{last-within}
use Rattle.front_word.proofs.passes.Publisher.front.Goals as goal

pub returns-clause-within : goal.returns-clause-within
returns-clause-within g c =
    let pass = c.self.invariant.0 in
    let opening = g.N.WordNaming.opening in
    subst (λ (f : Front). IsWithin opening f) (sym c.self.invariant.1) (last-within opening opening (map g.E.Fronted.front c.self.inside.seat.me.0.seen) pass.opens pass.rises)
