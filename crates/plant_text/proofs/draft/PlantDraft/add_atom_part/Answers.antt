use Rattle.std.proofs.Common.{◌∙◌, ◌-◌, sym, ap, map, Ok}
use Rattle.std.proofs.lemmas.Result.{err_from_is_err_and}
use Rattle.atom_lines.specs.Draft.{drafted}
use Rattle.atom_lines.specs.declared.draft.AtomDraft.{AtomDraft}
use Rattle.plant_text.specs.Fault.{of_line}
use Rattle.plant_text.specs.Parts.{wire_listed}
use Rattle.plant_words.specs.Reading.{◌>>=◌}
use Rattle.plant_text.specs.Rows.{atom_part_row}
use Rattle.plant_text.proofs.Indexed.{names_stay}
use Rattle.plant_text.proofs.Lasts.{last_changed_of, last_refused_of}
use Rattle.plant_text.proofs.draft.PlantDraft.add_atom_part.Goals as goal

pub invariant_of-self-2-clause-atoms_named : goal.invariant_of-self-2-clause-atoms_named
invariant_of-self-2-clause-atoms_named c =
    let atoms = c.args.self.now.atoms in
    c.args.self.now.atoms_named ∙
    sym (names_stay (λ (d : AtomDraft). (drafted d).name) atoms.items (atoms.len - 1) c.in-Some.atom.now c.change_atom.new.atom
    c.in-Some.ensures.value c.change_atom.ensures.same_name)

pub returns-in_err-change_atom-clause-fault : goal.returns-in_err-change_atom-clause-fault
returns-in_err-change_atom-clause-fault c =
    let atoms = c.args.self.now.atoms in
    let p = err_from_is_err_and c.from_residual.result c.from_residual.ensures.1 in
    rw (p.1, p.2) (λ other.
    ap (λ changed. changed >>= λ atoms. Ok (record { atoms = atoms; wires = map wire_listed c.args.self.now.wires.items; rules = c.args.self.now.rules.items }))
    (last_refused_of drafted (atom_part_row c.args.part c.args.words.now) atoms.items atoms.len c.in-Some.atom.now _ atoms.ok.0
    c.in-Some.ensures.item.3.0 c.in-Some.ensures.value (c.in_err-change_atom.ensures.fault (λ is. other (ap of_line is)))))

pub returns-clause-added : goal.returns-clause-added
returns-clause-added c =
    let atoms = c.args.self.now.atoms in
    ap (λ changed. changed >>= λ atoms. Ok (record { atoms = atoms; wires = map wire_listed c.args.self.now.wires.items; rules = c.args.self.now.rules.items }))
    (last_changed_of drafted (atom_part_row c.args.part c.args.words.now) atoms.items atoms.len c.in-Some.atom.now c.change_atom.new.atom atoms.ok.0
    c.in-Some.ensures.item.3.0 c.in-Some.ensures.value c.in_ok-change_atom.ensures.added)
