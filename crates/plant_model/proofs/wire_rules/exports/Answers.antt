use Rattle.std.proofs.Common.{◌∙◌, ap, sym, Bool, false, length, ltb}
use Rattle.std.specs.Option.{option_map_or}
use Rattle.petri_atom.specs.Definition.{AtomDefinition, exports_of}
use Rattle.plant_model.proofs.Judging.{atom-at, atom-past}
use Rattle.plant_model.proofs.wire_rules.exports.Goals as goal

pub returns-in-Some : goal.returns-in-Some
returns-in-Some c =
    let port = c.args.leaf.now.port in
    let export = c.args.export in
    let found = c.in-Some.ensures.lookup in
    let known : AtomDefinition → Bool = λ a. ltb export (length (exports_of a port)) in
    ap (λ n. ltb n (length c.exports.result.now)) c.from-in-Some.ensures ∙
    ap (λ xs. ltb export (length xs)) c.exports.ensures ∙
    sym (ap (λ o. option_map_or known o false) (atom-at c.args.atoms.now c.from.result c.args.leaf.now.atom c.in-Some.atom.now c.from.ensures found.3.0 found.1))

pub returns-in-None : goal.returns-in-None
returns-in-None c =
    let port = c.args.leaf.now.port in
    let known : AtomDefinition → Bool = λ a. ltb c.args.export (length (exports_of a port)) in
    sym (ap (λ o. option_map_or known o false) (atom-past c.args.atoms.now c.from.result c.args.leaf.now.atom c.from.ensures c.in-None.ensures.lookup.3))
