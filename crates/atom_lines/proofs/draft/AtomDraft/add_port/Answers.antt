use Rattle.std.proofs.Common.{◌∙◌, refl, sym, ap, [], Ok, Err}
use Rattle.std.specs.Prelude.{nat_lt}
use Rattle.std.proofs.lemmas.Result.{IfOk-from_err}
use Rattle.petri_atom.specs.Parts.{port_of}
use Rattle.petri_atom.specs.declared.parts.TheConstants.{MAX_PORTS}
use Rattle.atom_lines.specs.Draft.{drafted}
use Rattle.atom_lines.specs.Lookup.{port_number}
use Rattle.atom_lines.specs.Rows.{port_row, exports_in}
use Rattle.plant_words.specs.Reading.{check, first_name}
use Rattle.plant_words.specs.declared.line_fault.LineFault.TheVariants.{Limit, Twice, Memory}
use Rattle.plant_words.proofs.Early.{check_takes_none, name_takes_none, found_before, found_last}
use Rattle.atom_lines.proofs.Early.{exports_take_none}
use Rattle.plant_words.proofs.Exits.{fails, passes, found_fault, found_memory, at_fault, room_for, new_name}
use Rattle.atom_lines.proofs.Making.{port_says}
use Rattle.atom_lines.proofs.SoundParts.{exports_sound}
use Rattle.atom_lines.proofs.draft.AtomDraft.add_port.Goals as goal

pub returns-in_err-check-clause-added : goal.returns-in_err-check-clause-added
returns-in_err-check-clause-added c = IfOk-from_err c.from_residual.result _ c.from_residual.ensures.0

pub returns-in_err-check-clause-fault : goal.returns-in_err-check-clause-fault
returns-in_err-check-clause-fault c =
    found_fault Memory (port_row c.args.words.now (drafted c.args.self.now)) c.from_residual.result c.in_err-check.field-0.0 c.from_residual.ensures.1
    (λ _. fails _ (room_for c.args.self.now.ports.items port_of MAX_PORTS c.len.result Limit (Err c.in_err-check.field-0.0) (c.len.ensures ∙ c.args.self.now.ports.ok.0) c.in_err-check.ensures))

pub returns-in_err-check-clause-memory : goal.returns-in_err-check-clause-memory
returns-in_err-check-clause-memory c =
    found_before (port_row c.args.words.now (drafted c.args.self.now)) (check (nat_lt c.len.result MAX_PORTS) Limit) c.from_residual.result c.in_err-check.field-0.0 c.from_residual.ensures.1 (sym c.in_err-check.ensures) (check_takes_none (nat_lt c.len.result MAX_PORTS) Limit (λ is. absurd (cc)))

pub returns-in_err-check-clause-unchanged : goal.returns-in_err-check-clause-unchanged
returns-in_err-check-clause-unchanged c = at_fault c.from_residual.result refl

pub returns-in_err-name-clause-added : goal.returns-in_err-name-clause-added
returns-in_err-name-clause-added c = IfOk-from_err c.from_residual-in_err-name.result _ c.from_residual-in_err-name.ensures.0

pub returns-in_err-name-clause-fault : goal.returns-in_err-name-clause-fault
returns-in_err-name-clause-fault c =
    found_fault Memory (port_row c.args.words.now (drafted c.args.self.now)) c.from_residual-in_err-name.result c.in_err-name.field-0.0 c.from_residual-in_err-name.ensures.1
    (λ _. passes _ (room_for c.args.self.now.ports.items port_of MAX_PORTS c.len.result Limit (Ok c.in_ok-check.field-0) (c.len.ensures ∙ c.args.self.now.ports.ok.0) c.in_ok-check.ensures) (fails _ (sym c.in_err-name.ensures.name)))

pub returns-in_err-name-clause-memory : goal.returns-in_err-name-clause-memory
returns-in_err-name-clause-memory c =
    found_before (port_row c.args.words.now (drafted c.args.self.now)) (first_name c.args.words.now) c.from_residual-in_err-name.result c.in_err-name.field-0.0 c.from_residual-in_err-name.ensures.1 (sym c.in_err-name.ensures.name) (name_takes_none c.args.words.now)

pub returns-in_err-name-clause-unchanged : goal.returns-in_err-name-clause-unchanged
returns-in_err-name-clause-unchanged c = at_fault c.from_residual-in_err-name.result refl

pub returns-in_err-check-2-clause-added : goal.returns-in_err-check-2-clause-added
returns-in_err-check-2-clause-added c = IfOk-from_err c.from_residual-in_err-check-2.result _ c.from_residual-in_err-check-2.ensures.0

pub returns-in_err-check-2-clause-fault : goal.returns-in_err-check-2-clause-fault
returns-in_err-check-2-clause-fault c =
    found_fault Memory (port_row c.args.words.now (drafted c.args.self.now)) c.from_residual-in_err-check-2.result c.in_err-check-2.field-0.0 c.from_residual-in_err-check-2.ensures.1
    (λ _. passes _ (room_for c.args.self.now.ports.items port_of MAX_PORTS c.len.result Limit (Ok c.in_ok-check.field-0) (c.len.ensures ∙ c.args.self.now.ports.ok.0) c.in_ok-check.ensures) (passes _ (sym c.in_ok-name.ensures.name) (fails _ (new_name (port_number (drafted c.args.self.now)) c.in_ok-name.name c.as_bytes.result.now c.find_port.result c.is_none.result Twice (Err c.in_err-check-2.field-0.0) c.as_bytes.ensures c.find_port.ensures c.is_none.ensures c.in_err-check-2.ensures))))

pub returns-in_err-check-2-clause-memory : goal.returns-in_err-check-2-clause-memory
returns-in_err-check-2-clause-memory c =
    found_before (port_row c.args.words.now (drafted c.args.self.now)) (check c.is_none.result Twice) c.from_residual-in_err-check-2.result c.in_err-check-2.field-0.0 c.from_residual-in_err-check-2.ensures.1 (sym c.in_err-check-2.ensures) (check_takes_none c.is_none.result Twice (λ is. absurd (cc)))

pub returns-in_err-check-2-clause-unchanged : goal.returns-in_err-check-2-clause-unchanged
returns-in_err-check-2-clause-unchanged c = at_fault c.from_residual-in_err-check-2.result refl

pub returns-in_err-numbers-clause-added : goal.returns-in_err-numbers-clause-added
returns-in_err-numbers-clause-added c = IfOk-from_err c.from_residual-in_err-numbers.result _ c.from_residual-in_err-numbers.ensures.0

pub returns-in_err-numbers-clause-fault : goal.returns-in_err-numbers-clause-fault
returns-in_err-numbers-clause-fault c =
    found_fault Memory (port_row c.args.words.now (drafted c.args.self.now)) c.from_residual-in_err-numbers.result c.in_err-numbers.field-0.0 c.from_residual-in_err-numbers.ensures.1
    (λ other. passes _ (room_for c.args.self.now.ports.items port_of MAX_PORTS c.len.result Limit (Ok c.in_ok-check.field-0) (c.len.ensures ∙ c.args.self.now.ports.ok.0) c.in_ok-check.ensures) (passes _ (sym c.in_ok-name.ensures.name) (passes _ (new_name (port_number (drafted c.args.self.now)) c.in_ok-name.name c.as_bytes.result.now c.find_port.result c.is_none.result Twice (Ok c.in_ok-check-2.field-0) c.as_bytes.ensures c.find_port.ensures c.is_none.ensures c.in_ok-check-2.ensures) (fails _ (ap (exports_in (drafted c.args.self.now) []) (sym c.next_name.ensures.taken) ∙ c.in_err-numbers.ensures.fault)))))

pub returns-in_err-numbers-clause-memory : goal.returns-in_err-numbers-clause-memory
returns-in_err-numbers-clause-memory c =
    found_before (port_row c.args.words.now (drafted c.args.self.now)) (exports_in (drafted c.args.self.now) [] c.next_name.new.words) c.from_residual-in_err-numbers.result c.in_err-numbers.field-0.0 c.from_residual-in_err-numbers.ensures.1 c.in_err-numbers.ensures.fault (exports_take_none (drafted c.args.self.now) [] c.next_name.new.words)

pub returns-in_err-numbers-clause-unchanged : goal.returns-in_err-numbers-clause-unchanged
returns-in_err-numbers-clause-unchanged c = at_fault c.from_residual-in_err-numbers.result refl

pub returns-in_err-exports-clause-fault : goal.returns-in_err-exports-clause-fault
returns-in_err-exports-clause-fault c = found_memory Memory (port_row c.args.words.now (drafted c.args.self.now)) c.from_residual-in_err-exports.result c.from_residual-in_err-exports.ensures.1

pub returns-in_err-exports-clause-memory : goal.returns-in_err-exports-clause-memory
returns-in_err-exports-clause-memory c =
    found_last (port_row c.args.words.now (drafted c.args.self.now)) _ c.from_residual-in_err-exports.result
    (port_says (drafted c.args.self.now) c.args.words.now c.next_name.new.words c.in_ok-name.name c.in_ok-numbers.numbers.items c.in_ok-numbers.numbers.items c.in_ok-check.field-0 c.in_ok-check-2.field-0
    (room_for c.args.self.now.ports.items port_of MAX_PORTS c.len.result Limit (Ok c.in_ok-check.field-0) (c.len.ensures ∙ c.args.self.now.ports.ok.0) c.in_ok-check.ensures)
    (sym c.in_ok-name.ensures.name)
    (new_name (port_number (drafted c.args.self.now)) c.in_ok-name.name c.as_bytes.result.now c.find_port.result c.is_none.result Twice (Ok c.in_ok-check-2.field-0) c.as_bytes.ensures c.find_port.ensures c.is_none.ensures c.in_ok-check-2.ensures)
    c.next_name.ensures.taken c.in_ok-numbers.ensures.exports refl)

pub push_port-requires-clause-sound : goal.push_port-requires-clause-sound
push_port-requires-clause-sound c =
    exports_sound (drafted c.args.self.now) c.next_name.new.words c.in_ok-name.name c.in_ok-exports.exports.items (c.in_ok-numbers.ensures.exports ∙ ap Ok (sym (c.in_ok-exports.ensures ∙ c.deref.ensures.0)))

pub returns-in_err-push_port-clause-fault : goal.returns-in_err-push_port-clause-fault
returns-in_err-push_port-clause-fault c = found_memory Memory (port_row c.args.words.now (drafted c.args.self.now)) c.from_residual-in_err-push_port.result c.from_residual-in_err-push_port.ensures.1

pub returns-in_err-push_port-clause-memory : goal.returns-in_err-push_port-clause-memory
returns-in_err-push_port-clause-memory c =
    found_last (port_row c.args.words.now (drafted c.args.self.now)) _ c.from_residual-in_err-push_port.result
    (port_says (drafted c.args.self.now) c.args.words.now c.next_name.new.words c.in_ok-name.name c.in_ok-numbers.numbers.items c.in_ok-numbers.numbers.items c.in_ok-check.field-0 c.in_ok-check-2.field-0
    (room_for c.args.self.now.ports.items port_of MAX_PORTS c.len.result Limit (Ok c.in_ok-check.field-0) (c.len.ensures ∙ c.args.self.now.ports.ok.0) c.in_ok-check.ensures)
    (sym c.in_ok-name.ensures.name)
    (new_name (port_number (drafted c.args.self.now)) c.in_ok-name.name c.as_bytes.result.now c.find_port.result c.is_none.result Twice (Ok c.in_ok-check-2.field-0) c.as_bytes.ensures c.find_port.ensures c.is_none.ensures c.in_ok-check-2.ensures)
    c.next_name.ensures.taken c.in_ok-numbers.ensures.exports refl)

pub returns-in_err-push_port-clause-unchanged : goal.returns-in_err-push_port-clause-unchanged
returns-in_err-push_port-clause-unchanged c = at_fault c.from_residual-in_err-push_port.result c.in_err-push_port.ensures.unchanged

pub returns-clause-added : goal.returns-clause-added
returns-clause-added c =
    port_says (drafted c.args.self.now) c.args.words.now c.next_name.new.words c.in_ok-name.name c.in_ok-numbers.numbers.items c.in_ok-exports.exports.items c.in_ok-check.field-0 c.in_ok-check-2.field-0
    (room_for c.args.self.now.ports.items port_of MAX_PORTS c.len.result Limit (Ok c.in_ok-check.field-0) (c.len.ensures ∙ c.args.self.now.ports.ok.0) c.in_ok-check.ensures)
    (sym c.in_ok-name.ensures.name)
    (new_name (port_number (drafted c.args.self.now)) c.in_ok-name.name c.as_bytes.result.now c.find_port.result c.is_none.result Twice (Ok c.in_ok-check-2.field-0) c.as_bytes.ensures c.find_port.ensures c.is_none.ensures c.in_ok-check-2.ensures)
    c.next_name.ensures.taken c.in_ok-numbers.ensures.exports (c.in_ok-exports.ensures ∙ c.deref.ensures.0)
    ∙ ap Ok (sym c.in_ok-push_port.ensures.pushed)
