use Rattle.std.proofs.Common.{◌≡◌, ◌<◌, ◌∙◌, ℕ, ap, arith, map, length, get_or}
use Rattle.std.proofs.lemmas.List.{length-map}
use Rattle.petri_atom.specs.Parts.{port_of, set_of_port}
use Rattle.petri_atom.specs.Transition.{transition_of}
use Rattle.petri_atom.specs.declared.atom.Atom.{Atom}
use Rattle.petri_atom.proofs.Numbers.{get_or-table_below, length-table_below}
use Rattle.petri_atom.proofs.atom.Atom.mask_at.Goals as goal

-- the set of the transitions of the port with a number
abbrev sets : Atom → ℕ → ℕ
sets atom port = set_of_port port (map transition_of atom.transitions.items)

pub index-requires : goal.index-requires
index-requires c =
    let atom = c.args.self.now in
    let one_for_each : length atom.masks.items ≡ length atom.ports.items =
    ap length atom.masked ∙ length-table_below (sets atom) (length atom.ports.items) in
    omega (arith, c.requires, c.from.ensures, length-map atom.ports.items port_of, one_for_each, atom.masks.ok.0)

pub returns : goal.returns
returns c =
    let atom = c.args.self.now in
    let mask = c.index.result.now in
    let within : c.from.result < length atom.ports.items =
    omega (arith, c.requires, c.from.ensures, length-map atom.ports.items port_of) in
    c.index.ensures ∙ ap (λ xs. get_or xs c.from.result mask) atom.masked ∙
    get_or-table_below (sets atom) mask (length atom.ports.items) c.from.result within ∙ ap (sets atom) c.from.ensures
