use Rattle.std.proofs.Common.{◌∙◌, ap, sym, refl, map, pos, rules, w64, SFits}
use Rattle.std.specs.Option.{option_map_or}
use Rattle.std.specs.Prelude.{slice_get}
use Rattle.std.proofs.lemmas.Int.{to_z-of_z}
use Rattle.petri_atom.specs.Atom.{definition_of}
use Rattle.petri_atom.specs.Definition.{AtomDefinition, exported_value}
use Rattle.blocked_text.proofs.Entries.{made-at, made-past}
use Rattle.blocked_text.proofs.clauses.exported_at.Goals as goal

pub returns-in-Some : goal.returns-in-Some
returns-in-Some c =
    let atoms = c.args.atoms.now in
    let port = c.args.port in
    let found = c.in-Some.ensures.lookup in
    let fits : SFits w64 c.exported_by.result = search rules in
    to_z-of_z w64 c.exported_by.result fits ∙ c.exported_by.ensures ∙
    sym (ap (λ o. option_map_or (λ (a : AtomDefinition). option_map_or (λ s. exported_value a s port.port c.args.export) (slice_get c.args.states.now port.atom) (pos 0)) o (pos 0))
    (made-at definition_of atoms (map definition_of atoms) refl c.from.result port.atom c.from.ensures c.in-Some.atom.now found.3.0 found.1))

pub returns-in-None : goal.returns-in-None
returns-in-None c =
    let atoms = c.args.atoms.now in
    let port = c.args.port in
    sym (ap (λ o. option_map_or (λ (a : AtomDefinition). option_map_or (λ s. exported_value a s port.port c.args.export) (slice_get c.args.states.now port.atom) (pos 0)) o (pos 0))
    (made-past definition_of atoms (map definition_of atoms) refl c.from.result port.atom c.from.ensures c.in-None.ensures.lookup.3))
