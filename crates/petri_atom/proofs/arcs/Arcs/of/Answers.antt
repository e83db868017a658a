use Rattle.std.proofs.Common.{◌≡◌, refl, sym, ◌∙◌, ap, arith, length, map, [], Some}
use Rattle.std.specs.Prelude.{slice_get}
use Rattle.std.specs.Option.{option_map_or}
use Rattle.std.proofs.lemmas.Bool.{leb-true}
use Rattle.petri_atom.specs.Definition.{PortDefinition, exports_few}
use Rattle.petri_atom.specs.Parts.{port_of}
use Rattle.petri_atom.proofs.Fitting.{all_get}
use Rattle.petri_atom.proofs.Lists.{mapped-at}
use Rattle.petri_atom.proofs.arcs.Arcs.of.Goals as goal

pub of-requires : goal.of-requires
of-requires c =
    let ports = c.args.ports.now in
    let port = c.index-ports-from.result in
    let there : slice_get (map port_of ports) c.args.transition.now.port ≡ Some (port_of port) =
    mapped-at port_of ports ports c.from.result c.args.transition.now.port port refl c.from.ensures (omega (arith, c.requires.known, c.from.ensures)) c.index-ports-from.is in
    leb-true (length port.exports.items) 4 (all_get exports_few (map port_of ports) c.args.transition.now.port (port_of port) c.requires.few there)

pub returns-clause-exported : goal.returns-clause-exported
returns-clause-exported c =
    let ports = c.args.ports.now in
    let port = c.index-ports-from.result in
    let there : slice_get (map port_of ports) c.args.transition.now.port ≡ Some (port_of port) =
    mapped-at port_of ports ports c.from.result c.args.transition.now.port port refl c.from.ensures (omega (arith, c.requires.known, c.from.ensures)) c.index-ports-from.is in
    c.of.ensures ∙ sym (ap (λ o. option_map_or (λ (p : PortDefinition). p.exports) o []) there)
