use Rattle.std.proofs.Common.{◌∙◌, ap, sym, false}
use Rattle.std.specs.Option.{option_map_or}
use Rattle.petri_atom.specs.Definition.{offers}
use Rattle.petri_atom.specs.Transition.{transition_of}
use Rattle.petri_atom.proofs.Lists.{mapped-at, mapped-past}
use Rattle.petri_atom.proofs.atom.Atom.is_offered.Goals as goal

pub returns-in-Some : goal.returns-in-Some
returns-in-Some c =
    let found = c.in-Some.ensures.lookup in
    c.is_offered.ensures ∙
    sym (ap (λ o. option_map_or (offers c.args.state.now) o false) (mapped-at transition_of c.args.self.now.transitions.items c.deref.result.now c.from.result c.args.transition c.in-Some.transition.now c.deref.ensures.value c.from.ensures found.3.0 found.1))

pub returns-in-None : goal.returns-in-None
returns-in-None c =
    sym (ap (λ o. option_map_or (offers c.args.state.now) o false) (mapped-past transition_of c.args.self.now.transitions.items c.deref.result.now c.from.result c.args.transition c.deref.ensures.value c.from.ensures c.in-None.ensures.lookup.3))
