use Rattle.std.proofs.Common.{◌≡◌, ◌∙◌, ◌≤◌, ◌-◌, sym, ap, subst, map, ℕ, List, Ok}
use Rattle.std.proofs.lemmas.List.{length-set}
use Rattle.std.proofs.lemmas.Result.{err_from_is_err_and}
use Rattle.plant_model.specs.declared.limits.TheConstants.{MAX_WIRES}
use Rattle.atom_lines.specs.Draft.{drafted}
use Rattle.atom_lines.specs.declared.draft.AtomDraft.{AtomDraft}
use Rattle.plant_text.specs.Fault.{of_line}
use Rattle.plant_text.specs.Parts.{wire_listed}
use Rattle.plant_words.specs.Reading.{◌>>=◌}
use Rattle.plant_text.specs.Rows.{wire_part_row}
use Rattle.plant_text.specs.declared.listed.ListedWire.{ListedWire}
use Rattle.plant_text.proofs.Indexed.{names_stay}
use Rattle.plant_text.proofs.Lasts.{last_changed_of, last_refused_of}
use Rattle.plant_text.proofs.draft.PlantDraft.add_wire_part.Goals as goal

pub returns-clause-added : goal.returns-clause-added
returns-clause-added c =
    let wires = c.args.self.now.wires in
    let atoms = map drafted c.args.self.now.atoms.items in
    let added : wire_part_row c.args.part atoms c.args.words.now (wire_listed c.in-Some.wire.now) ≡ Ok (wire_listed c.add_part.new.self) =
    subst (λ (drafts : List AtomDraft). wire_part_row c.args.part (map drafted drafts) c.args.words.now (wire_listed c.in-Some.wire.now) ≡ Ok (wire_listed c.add_part.new.self)) c.deref.ensures.value c.in_ok-add_part.ensures.added in
    ap (λ changed. changed >>= λ wires. Ok (record { atoms = atoms; wires = wires; rules = c.args.self.now.rules.items }))
    (last_changed_of wire_listed (wire_part_row c.args.part atoms c.args.words.now) wires.items wires.len c.in-Some.wire.now c.add_part.new.self wires.ok.0
    c.in-Some.ensures.item.3.0 c.in-Some.ensures.value added)

pub invariant_of-self-2-clause-wires_named : goal.invariant_of-self-2-clause-wires_named
invariant_of-self-2-clause-wires_named c =
    let wires = c.args.self.now.wires in
    c.args.self.now.wires_named ∙
    sym (names_stay (λ (w : ListedWire). (wire_listed w).name) wires.items (wires.len - 1) c.in-Some.wire.now c.add_part.new.self
    c.in-Some.ensures.value c.add_part.ensures.same_name)

pub returns-in_err-add_part-clause-fault : goal.returns-in_err-add_part-clause-fault
returns-in_err-add_part-clause-fault c =
    let wires = c.args.self.now.wires in
    let atoms = map drafted c.args.self.now.atoms.items in
    let p = err_from_is_err_and c.from_residual.result c.from_residual.ensures.1 in
    rw (p.1, p.2) (λ other.
    ap (λ changed. changed >>= λ wires. Ok (record { atoms = atoms; wires = wires; rules = c.args.self.now.rules.items }))
    (last_refused_of wire_listed (wire_part_row c.args.part atoms c.args.words.now) wires.items wires.len c.in-Some.wire.now _ wires.ok.0
    c.in-Some.ensures.item.3.0 c.in-Some.ensures.value
    (ap (λ (drafts : List AtomDraft). wire_part_row c.args.part (map drafted drafts) c.args.words.now (wire_listed c.in-Some.wire.now)) (sym c.deref.ensures.value) ∙
    c.in_err-add_part.ensures.fault (λ is. other (ap of_line is)))))

pub invariant_of-self-2-clause-few_wires : goal.invariant_of-self-2-clause-few_wires
invariant_of-self-2-clause-few_wires c =
    let wires = c.args.self.now.wires in
    subst (λ (count : ℕ). count ≤ MAX_WIRES) (sym (length-set wires.items (wires.len - 1) c.add_part.new.self)) c.args.self.now.few_wires
