use Rattle.std.proofs.Common.{◌∙◌, ap, sym, []}
use Rattle.std.specs.Option.{option_map_or}
use Rattle.petri_atom.specs.Definition.{PortDefinition}
use Rattle.petri_atom.specs.Parts.{port_of}
use Rattle.petri_atom.proofs.Lists.{mapped-at, mapped-past}
use Rattle.petri_atom.proofs.atom.Atom.exports.Goals as goal

pub returns-in-Some : goal.returns-in-Some
returns-in-Some c =
    let found = c.in-Some.ensures.lookup in
    c.deref-in-Some.ensures.value ∙
    sym (ap (λ o. option_map_or (λ (p : PortDefinition). p.exports) o []) (mapped-at port_of c.args.self.now.ports.items c.deref.result.now c.from.result c.args.port c.in-Some.port.now c.deref.ensures.value c.from.ensures found.3.0 found.1))

pub returns-in-None : goal.returns-in-None
returns-in-None c =
    sym (ap (λ o. option_map_or (λ (p : PortDefinition). p.exports) o []) (mapped-past port_of c.args.self.now.ports.items c.deref.result.now c.from.result c.args.port c.deref.ensures.value c.from.ensures c.in-None.ensures.lookup.3))
