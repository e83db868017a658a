use Rattle.std.proofs.Common.{◌∙◌, ap, sym, Bool, false, length, ltb}
use Rattle.std.specs.Option.{option_map_or}
use Rattle.petri_atom.specs.Definition.{AtomDefinition}
use Rattle.plant_model.proofs.Judging.{atom-at, atom-past}
use Rattle.plant_model.proofs.rules.is_known_place.Goals as goal

pub returns-in-Some : goal.returns-in-Some
returns-in-Some c =
    let place = c.args.at.place in
    let lent = c.places.result.now in
    let found = c.in-Some.ensures.lookup in
    let known : AtomDefinition → Bool = λ a. ltb place (length a.places) in
    ap (λ n. ltb n (length lent)) c.from-in-Some.ensures ∙
    ap (ltb place) (ap length c.places.ensures) ∙
    sym (ap (λ o. option_map_or known o false) (atom-at c.args.atoms.now c.from.result c.args.at.atom c.in-Some.atom.now c.from.ensures found.3.0 found.1))

pub returns-in-None : goal.returns-in-None
returns-in-None c =
    let place = c.args.at.place in
    let known : AtomDefinition → Bool = λ a. ltb place (length a.places) in
    sym (ap (λ o. option_map_or known o false) (atom-past c.args.atoms.now c.from.result c.args.at.atom c.from.ensures c.in-None.ensures.lookup.3))
