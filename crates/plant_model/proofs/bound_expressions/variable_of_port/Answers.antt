use Rattle.std.proofs.Common.{◌≡◌, ℕ, ◌∙◌, ap, sym, refl, arith, length}
use Rattle.std.specs.Prelude.{Option, Some, None, slice_get, option_map}
use Rattle.std.specs.Option.{option_map_or}
use Rattle.std.proofs.lemmas.Option.{slice_get_read, slice_get_past}
use Rattle.petri_atom.specs.Definition.{AtomDefinition, exports_of}
use Rattle.plant_model.specs.declared.bound_expressions.AtomVariable.{AtomVariable}
use Rattle.plant_model.proofs.Judging.{atom-at, atom-past}
use Rattle.plant_model.proofs.bound_expressions.variable_of_port.Goals as goal

-- a variable by its number in an atom
abbrev variable : ℕ → ℕ → AtomVariable
variable atom number = record { atom = atom; variable = number }

-- the variable that a port of an atom exports
abbrev exported : ℕ → ℕ → ℕ → AtomDefinition → Option AtomVariable
exported number port export atom = option_map (variable number) (slice_get (exports_of atom port) export)

pub returns-in-Some-get : goal.returns-in-Some-get
returns-in-Some-get c =
    let port = c.args.port.now in
    let export = c.args.export in
    let atom = c.in-Some.atom.now in
    let names = c.exports.result.now in
    let number = c.in-Some-get.variable.now in
    let found = c.in-Some.ensures.lookup in
    let read = c.in-Some-get.ensures.lookup in
    let there : slice_get names export ≡ Some number =
    ap (slice_get names) (sym c.from-in-Some.ensures) ∙
    slice_get_read names (length names) c.from-in-Some.result number refl read.3.0 read.1 in
    sym (ap (λ o. option_map_or (exported port.atom port.port export) o None) (atom-at c.args.atoms.now c.from.result port.atom atom c.from.ensures found.3.0 found.1) ∙
    ap (λ xs. option_map (variable port.atom) (slice_get xs export)) (sym c.exports.ensures) ∙
    ap (option_map (variable port.atom)) there)

pub returns-in-None-get : goal.returns-in-None-get
returns-in-None-get c =
    let port = c.args.port.now in
    let export = c.args.export in
    let atom = c.in-Some.atom.now in
    let names = c.exports.result.now in
    let found = c.in-Some.ensures.lookup in
    let none : slice_get names export ≡ None =
    slice_get_past names export (omega (arith, c.in-None-get.ensures.lookup.3, c.from-in-Some.ensures)) in
    sym (ap (λ o. option_map_or (exported port.atom port.port export) o None) (atom-at c.args.atoms.now c.from.result port.atom atom c.from.ensures found.3.0 found.1) ∙
    ap (λ xs. option_map (variable port.atom) (slice_get xs export)) (sym c.exports.ensures) ∙
    ap (option_map (variable port.atom)) none)

pub returns-in-None : goal.returns-in-None
returns-in-None c =
    let port = c.args.port.now in
    sym (ap (λ o. option_map_or (exported port.atom port.port c.args.export) o None) (atom-past c.args.atoms.now c.from.result port.atom c.from.ensures c.in-None.ensures.lookup.3))
