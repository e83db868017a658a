use Rattle.std.proofs.Common.{◌∙◌, ap, sym, refl, subst, length, map, []}
use Rattle.std.specs.Option.{option_map_or}
use Rattle.petri_atom.specs.Behind.{IsBehind}
use Rattle.petri_atom.specs.Definition.{PortDefinition}
use Rattle.petri_atom.specs.Parts.{port_of}
use Rattle.petri_atom.specs.Transition.{transition_of}
use Rattle.petri_atom.proofs.Lists.{mapped-at, mapped-past}
use Rattle.petri_atom.proofs.behind.behind_one.Goals as goal

pub returns-in-Some : goal.returns-in-Some
returns-in-Some c =
    let found = c.in-Some.ensures.lookup in
    let ts = c.args.transitions.now in
    subst (λ exports. IsBehind (map transition_of ts) (length ts) (transition_of c.args.fired.now) exports c.behind_of.result)
    (c.deref.ensures.value ∙ sym (ap (λ o. option_map_or (λ (p : PortDefinition). p.exports) o []) (mapped-at port_of c.args.ports.now c.args.ports.now c.from.result c.args.fired.now.port c.in-Some.port.now refl (c.from.ensures ∙ c.port.ensures) found.3.0 found.1)))
    c.behind_of.ensures

pub returns-in-None : goal.returns-in-None
returns-in-None c =
    let ts = c.args.transitions.now in
    subst (λ exports. IsBehind (map transition_of ts) (length ts) (transition_of c.args.fired.now) exports c.behind_of-in-None.result)
    (sym (ap (λ o. option_map_or (λ (p : PortDefinition). p.exports) o []) (mapped-past port_of c.args.ports.now c.args.ports.now c.from.result c.args.fired.now.port refl (c.from.ensures ∙ c.port.ensures) c.in-None.ensures.lookup.3)))
    c.behind_of-in-None.ensures
