use Rattle.std.proofs.Common.{◌∙◌, ap, sym, Bool, false, length, ltb}
use Rattle.std.specs.Option.{option_map_or}
use Rattle.std.proofs.lemmas.List.{length-map}
use Rattle.petri_atom.specs.Definition.{AtomDefinition}
use Rattle.plant_model.proofs.Judging.{atom-at, atom-past}
use Rattle.plant_model.proofs.wire_rules.is_known_port.Goals as goal

pub returns-in-Some : goal.returns-in-Some
returns-in-Some c =
    let port = c.args.leaf.now.port in
    let lent = c.ports.result.now in
    let found = c.in-Some.ensures.lookup in
    let known : AtomDefinition → Bool = λ a. ltb port (length a.ports) in
    ap (λ n. ltb n (length lent)) c.from-in-Some.ensures ∙
    ap (ltb port) (sym (length-map lent _) ∙ ap length c.ports.ensures) ∙
    sym (ap (λ o. option_map_or known o false) (atom-at c.args.atoms.now c.from.result c.args.leaf.now.atom c.in-Some.atom.now c.from.ensures found.3.0 found.1))

pub returns-in-None : goal.returns-in-None
returns-in-None c =
    let port = c.args.leaf.now.port in
    let known : AtomDefinition → Bool = λ a. ltb port (length a.ports) in
    sym (ap (λ o. option_map_or known o false) (atom-past c.args.atoms.now c.from.result c.args.leaf.now.atom c.from.ensures c.in-None.ensures.lookup.3))
