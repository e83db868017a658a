use Rattle.std.proofs.Common.{◌∙◌, sym, ap, ℕ, List, Ok, Err}
use Rattle.std.proofs.lemmas.Result.{IfOk-from_err}
use Rattle.atom_lines.specs.Draft.{drafted as atom_drafted}
use Rattle.plant_words.specs.Reading.{at_end}
use Rattle.petri_atom.specs.Definition.{AtomDefinition}
use Rattle.plant_model.specs.declared.limits.TheConstants.{MAX_ATOMS}
use Rattle.plant_text.specs.Draft.{drafted}
use Rattle.plant_text.specs.Fault.{of_line}
use Rattle.plant_text.specs.Names.{atom_number}
use Rattle.plant_text.specs.Rows.{told, atom_row}
use Rattle.plant_words.proofs.Exits.{fails, passes, found_fault, found_memory, room_for, new_name}
use Rattle.plant_text.specs.declared.fault.Fault.TheVariants.{Twice, Limit, Memory}
use Rattle.plant_text.proofs.draft.PlantDraft.add_atom.Goals as goal

pub returns-in_err-check-clause-added : goal.returns-in_err-check-clause-added
returns-in_err-check-clause-added c = IfOk-from_err c.from_residual.result _ c.from_residual.ensures.0

pub returns-in_err-check-clause-fault : goal.returns-in_err-check-clause-fault
returns-in_err-check-clause-fault c =
    found_fault Memory (atom_row c.args.words.now (drafted c.args.self.now)) c.from_residual.result c.in_err-check.field-0.0 c.from_residual.ensures.1
    (λ _. fails _ (room_for c.args.self.now.atoms.items atom_drafted MAX_ATOMS c.len.result Limit (Err c.in_err-check.field-0.0) (c.len.ensures ∙ c.args.self.now.atoms.ok.0) c.in_err-check.ensures))

pub returns-in_err-name-clause-added : goal.returns-in_err-name-clause-added
returns-in_err-name-clause-added c = IfOk-from_err c.from_residual-in_err-name.result _ c.from_residual-in_err-name.ensures.0

pub returns-in_err-name-clause-fault : goal.returns-in_err-name-clause-fault
returns-in_err-name-clause-fault c =
    found_fault Memory (atom_row c.args.words.now (drafted c.args.self.now)) c.from_residual-in_err-name.result (of_line c.in_err-name.field-0.0) c.from_residual-in_err-name.ensures.1
    (λ _. passes _ (room_for c.args.self.now.atoms.items atom_drafted MAX_ATOMS c.len.result Limit (Ok c.in_ok-check.field-0) (c.len.ensures ∙ c.args.self.now.atoms.ok.0) c.in_ok-check.ensures) (fails _ (ap told (sym c.in_err-name.ensures.name))))

pub returns-in_err-check-2-clause-added : goal.returns-in_err-check-2-clause-added
returns-in_err-check-2-clause-added c = IfOk-from_err c.from_residual-in_err-check-2.result _ c.from_residual-in_err-check-2.ensures.0

pub returns-in_err-check-2-clause-fault : goal.returns-in_err-check-2-clause-fault
returns-in_err-check-2-clause-fault c =
    let atoms : List AtomDefinition = (drafted c.args.self.now).atoms in
    found_fault Memory (atom_row c.args.words.now (drafted c.args.self.now)) c.from_residual-in_err-check-2.result c.in_err-check-2.field-0.0 c.from_residual-in_err-check-2.ensures.1
    (λ _. passes _ (room_for c.args.self.now.atoms.items atom_drafted MAX_ATOMS c.len.result Limit (Ok c.in_ok-check.field-0) (c.len.ensures ∙ c.args.self.now.atoms.ok.0) c.in_ok-check.ensures) (passes _ (ap told (sym c.in_ok-name.ensures.name))
    (fails _ (new_name (atom_number atoms) c.in_ok-name.name c.as_bytes.result.now c.find-before.result c.is_none.result Twice (Err c.in_err-check-2.field-0.0) c.as_bytes.ensures (c.find-before.ensures.first ∙ ap (λ (all : List AtomDefinition). atom_number all c.as_bytes.result.now) c.table.ensures) c.is_none.ensures c.in_err-check-2.ensures))))

pub returns-in_err-end-clause-added : goal.returns-in_err-end-clause-added
returns-in_err-end-clause-added c = IfOk-from_err c.from_residual-in_err-end.result _ c.from_residual-in_err-end.ensures.0

pub returns-in_err-end-clause-fault : goal.returns-in_err-end-clause-fault
returns-in_err-end-clause-fault c =
    let atoms : List AtomDefinition = (drafted c.args.self.now).atoms in
    found_fault Memory (atom_row c.args.words.now (drafted c.args.self.now)) c.from_residual-in_err-end.result (of_line c.in_err-end.field-0.0) c.from_residual-in_err-end.ensures.1
    (λ _. passes _ (room_for c.args.self.now.atoms.items atom_drafted MAX_ATOMS c.len.result Limit (Ok c.in_ok-check.field-0) (c.len.ensures ∙ c.args.self.now.atoms.ok.0) c.in_ok-check.ensures) (passes _ (ap told (sym c.in_ok-name.ensures.name))
    (passes _ (new_name (atom_number atoms) c.in_ok-name.name c.as_bytes.result.now c.find-before.result c.is_none.result Twice (Ok c.in_ok-check-2.field-0) c.as_bytes.ensures (c.find-before.ensures.first ∙ ap (λ (all : List AtomDefinition). atom_number all c.as_bytes.result.now) c.table.ensures) c.is_none.ensures c.in_ok-check-2.ensures)
    (fails _ (ap (λ (words : List (List ℕ)). told (at_end words)) (sym c.next_name.ensures.taken) ∙ ap told (sym c.in_err-end.ensures))))))

pub returns-in_err-push_atom-clause-added : goal.returns-in_err-push_atom-clause-added
returns-in_err-push_atom-clause-added c = IfOk-from_err c.from_residual-in_err-push_atom.result _ c.from_residual-in_err-push_atom.ensures.0

pub returns-in_err-push_atom-clause-fault : goal.returns-in_err-push_atom-clause-fault
returns-in_err-push_atom-clause-fault c = found_memory Memory (atom_row c.args.words.now (drafted c.args.self.now)) c.from_residual-in_err-push_atom.result c.from_residual-in_err-push_atom.ensures.1

pub returns-clause-added : goal.returns-clause-added
returns-clause-added c =
    let atoms : List AtomDefinition = (drafted c.args.self.now).atoms in
    passes _ (room_for c.args.self.now.atoms.items atom_drafted MAX_ATOMS c.len.result Limit (Ok c.in_ok-check.field-0) (c.len.ensures ∙ c.args.self.now.atoms.ok.0) c.in_ok-check.ensures) (passes _ (ap told (sym c.in_ok-name.ensures.name))
    (passes _ (new_name (atom_number atoms) c.in_ok-name.name c.as_bytes.result.now c.find-before.result c.is_none.result Twice (Ok c.in_ok-check-2.field-0) c.as_bytes.ensures (c.find-before.ensures.first ∙ ap (λ (all : List AtomDefinition). atom_number all c.as_bytes.result.now) c.table.ensures) c.is_none.ensures c.in_ok-check-2.ensures)
    (passes _ (ap (λ (words : List (List ℕ)). told (at_end words)) (sym c.next_name.ensures.taken) ∙ ap told (sym c.in_ok-end.ensures)) (ap Ok (sym c.in_ok-push_atom.ensures.pushed)))))
