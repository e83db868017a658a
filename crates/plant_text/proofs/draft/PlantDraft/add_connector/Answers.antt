use Rattle.std.proofs.Common.{◌∙◌, sym, ap, ℕ, List, [], ◌∷◌, ◌++◌, Ok, Err}
use Rattle.std.proofs.lemmas.Result.{IfOk-from_err}
use Rattle.connector_tree.specs.Tokens.{tokens_of}
use Rattle.connector_tree.specs.Tree.{tree_of}
use Rattle.connector_lines.specs.Trees.{tree_in}
use Rattle.plant_model.specs.declared.limits.TheConstants.{MAX_WIRES}
use Rattle.plant_text.specs.Draft.{drafted}
use Rattle.plant_text.specs.Fault.{of_line}
use Rattle.plant_text.specs.Names.{wire_number, port_named}
use Rattle.plant_text.specs.Parts.{wire_listed}
use Rattle.plant_text.specs.Rows.{told, found_tree, connector_row}
use Rattle.plant_text.specs.Text.{WireText}
use Rattle.plant_words.proofs.Exits.{fails, passes, found_fault, found_memory, room_for, new_name}
use Rattle.plant_text.proofs.Exits.{room_for_more}
use Rattle.plant_text.specs.declared.fault.Fault.TheVariants.{Twice, Limit, Memory}
use Rattle.plant_text.proofs.draft.PlantDraft.add_connector.Goals as goal

pub returns-in_err-check-clause-added : goal.returns-in_err-check-clause-added
returns-in_err-check-clause-added c = IfOk-from_err c.from_residual.result _ c.from_residual.ensures.0

pub returns-in_err-check-clause-fault : goal.returns-in_err-check-clause-fault
returns-in_err-check-clause-fault c =
    found_fault Memory (connector_row c.args.words.now (drafted c.args.self.now)) c.from_residual.result c.in_err-check.field-0.0 c.from_residual.ensures.1
    (λ _. fails _ (room_for c.args.self.now.wires.items wire_listed MAX_WIRES c.len.result Limit (Err c.in_err-check.field-0.0) (c.len.ensures ∙ c.args.self.now.wires.ok.0) c.in_err-check.ensures))

pub returns-in_err-name-clause-added : goal.returns-in_err-name-clause-added
returns-in_err-name-clause-added c = IfOk-from_err c.from_residual-in_err-name.result _ c.from_residual-in_err-name.ensures.0

pub returns-in_err-name-clause-fault : goal.returns-in_err-name-clause-fault
returns-in_err-name-clause-fault c =
    found_fault Memory (connector_row c.args.words.now (drafted c.args.self.now)) c.from_residual-in_err-name.result (of_line c.in_err-name.field-0.0) c.from_residual-in_err-name.ensures.1
    (λ _. passes _ (room_for c.args.self.now.wires.items wire_listed MAX_WIRES c.len.result Limit (Ok c.in_ok-check.field-0) (c.len.ensures ∙ c.args.self.now.wires.ok.0) c.in_ok-check.ensures)
    (fails _ (ap told (sym c.in_err-name.ensures.name))))

pub returns-in_err-check-2-clause-added : goal.returns-in_err-check-2-clause-added
returns-in_err-check-2-clause-added c = IfOk-from_err c.from_residual-in_err-check-2.result _ c.from_residual-in_err-check-2.ensures.0

pub returns-in_err-check-2-clause-fault : goal.returns-in_err-check-2-clause-fault
returns-in_err-check-2-clause-fault c =
    found_fault Memory (connector_row c.args.words.now (drafted c.args.self.now)) c.from_residual-in_err-check-2.result c.in_err-check-2.field-0.0 c.from_residual-in_err-check-2.ensures.1
    (λ _. passes _ (room_for c.args.self.now.wires.items wire_listed MAX_WIRES c.len.result Limit (Ok c.in_ok-check.field-0) (c.len.ensures ∙ c.args.self.now.wires.ok.0) c.in_ok-check.ensures)
    (passes _ (ap told (sym c.in_ok-name.ensures.name))
    (fails _ (new_name (wire_number (drafted c.args.self.now).wires) c.in_ok-name.name c.as_bytes.result.now c.find-earlier.result c.is_none.result Twice (Err c.in_err-check-2.field-0.0) c.as_bytes.ensures (c.find-earlier.ensures.first ∙ ap (λ (all : List WireText). wire_number all c.as_bytes.result.now) c.wire_table.ensures) c.is_none.ensures c.in_err-check-2.ensures))))

pub returns-in_err-connector-clause-added : goal.returns-in_err-connector-clause-added
returns-in_err-connector-clause-added c = IfOk-from_err c.from_residual-in_err-connector.result _ c.from_residual-in_err-connector.ensures.0

pub returns-in_err-connector-clause-fault : goal.returns-in_err-connector-clause-fault
returns-in_err-connector-clause-fault c =
    found_fault Memory (connector_row c.args.words.now (drafted c.args.self.now)) c.from_residual-in_err-connector.result c.in_err-connector.field-0.0 c.from_residual-in_err-connector.ensures.1
    (λ other. passes _ (room_for c.args.self.now.wires.items wire_listed MAX_WIRES c.len.result Limit (Ok c.in_ok-check.field-0) (c.len.ensures ∙ c.args.self.now.wires.ok.0) c.in_ok-check.ensures)
    (passes _ (ap told (sym c.in_ok-name.ensures.name))
    (passes _ (new_name (wire_number (drafted c.args.self.now).wires) c.in_ok-name.name c.as_bytes.result.now c.find-earlier.result c.is_none.result Twice (Ok c.in_ok-check-2.field-0) c.as_bytes.ensures (c.find-earlier.ensures.first ∙ ap (λ (all : List WireText). wire_number all c.as_bytes.result.now) c.wire_table.ensures) c.is_none.ensures c.in_ok-check-2.ensures)
    (fails _ (ap (λ (words : List (List ℕ)). found_tree (tree_in (port_named (drafted c.args.self.now).atoms) words)) (sym c.next_name.ensures.taken) ∙ c.in_err-connector.ensures.fault other)))))

pub returns-in_err-wire-clause-added : goal.returns-in_err-wire-clause-added
returns-in_err-wire-clause-added c = IfOk-from_err c.from_residual-in_err-wire.result _ c.from_residual-in_err-wire.ensures.0

pub returns-in_err-wire-clause-fault : goal.returns-in_err-wire-clause-fault
returns-in_err-wire-clause-fault c =
    found_fault Memory (connector_row c.args.words.now (drafted c.args.self.now)) c.from_residual-in_err-wire.result c.in_err-wire.field-0.0 c.from_residual-in_err-wire.ensures.1
    (λ other. absurd (other c.in_err-wire.ensures.fault))

pub returns-in_err-check-3-clause-added : goal.returns-in_err-check-3-clause-added
returns-in_err-check-3-clause-added c = IfOk-from_err c.from_residual-in_err-check-3.result _ c.from_residual-in_err-check-3.ensures.0

pub returns-in_err-check-3-clause-fault : goal.returns-in_err-check-3-clause-fault
returns-in_err-check-3-clause-fault c =
    found_fault Memory (connector_row c.args.words.now (drafted c.args.self.now)) c.from_residual-in_err-check-3.result c.in_err-check-3.field-0.0 c.from_residual-in_err-check-3.ensures.1
    (λ _. passes _ (room_for c.args.self.now.wires.items wire_listed MAX_WIRES c.len.result Limit (Ok c.in_ok-check.field-0) (c.len.ensures ∙ c.args.self.now.wires.ok.0) c.in_ok-check.ensures)
    (passes _ (ap told (sym c.in_ok-name.ensures.name))
    (passes _ (new_name (wire_number (drafted c.args.self.now).wires) c.in_ok-name.name c.as_bytes.result.now c.find-earlier.result c.is_none.result Twice (Ok c.in_ok-check-2.field-0) c.as_bytes.ensures (c.find-earlier.ensures.first ∙ ap (λ (all : List WireText). wire_number all c.as_bytes.result.now) c.wire_table.ensures) c.is_none.ensures c.in_ok-check-2.ensures)
    (passes _ (ap (λ (words : List (List ℕ)). found_tree (tree_in (port_named (drafted c.args.self.now).atoms) words)) (sym c.next_name.ensures.taken) ∙ c.in_ok-connector.ensures.tree)
    (fails _ (room_for_more c.args.self.now.wires.items c.deref.result.now c.in_ok-wire.wire (record { name = c.in_ok-name.name; tree = tokens_of (tree_of c.in_ok-connector.connector); guards = []; transfers = []; inputs = [] }) c.len-2.result c.have_room.result (Err c.in_err-check-3.field-0.0) c.deref.ensures.value c.in_ok-wire.ensures.wire (c.len-2.ensures ∙ c.in_ok-wire.wire.masks.ok.0) c.have_room.ensures c.in_err-check-3.ensures))))))

pub returns-in_err-push_wire-clause-added : goal.returns-in_err-push_wire-clause-added
returns-in_err-push_wire-clause-added c = IfOk-from_err c.from_residual-in_err-push_wire.result _ c.from_residual-in_err-push_wire.ensures.0

pub returns-in_err-push_wire-clause-fault : goal.returns-in_err-push_wire-clause-fault
returns-in_err-push_wire-clause-fault c = found_memory Memory (connector_row c.args.words.now (drafted c.args.self.now)) c.from_residual-in_err-push_wire.result c.from_residual-in_err-push_wire.ensures.1

pub returns-clause-added : goal.returns-clause-added
returns-clause-added c =
    passes _ (room_for c.args.self.now.wires.items wire_listed MAX_WIRES c.len.result Limit (Ok c.in_ok-check.field-0) (c.len.ensures ∙ c.args.self.now.wires.ok.0) c.in_ok-check.ensures)
    (passes _ (ap told (sym c.in_ok-name.ensures.name))
    (passes _ (new_name (wire_number (drafted c.args.self.now).wires) c.in_ok-name.name c.as_bytes.result.now c.find-earlier.result c.is_none.result Twice (Ok c.in_ok-check-2.field-0) c.as_bytes.ensures (c.find-earlier.ensures.first ∙ ap (λ (all : List WireText). wire_number all c.as_bytes.result.now) c.wire_table.ensures) c.is_none.ensures c.in_ok-check-2.ensures)
    (passes _ (ap (λ (words : List (List ℕ)). found_tree (tree_in (port_named (drafted c.args.self.now).atoms) words)) (sym c.next_name.ensures.taken) ∙ c.in_ok-connector.ensures.tree)
    (passes _ (room_for_more c.args.self.now.wires.items c.deref.result.now c.in_ok-wire.wire (record { name = c.in_ok-name.name; tree = tokens_of (tree_of c.in_ok-connector.connector); guards = []; transfers = []; inputs = [] }) c.len-2.result c.have_room.result (Ok c.in_ok-check-3.field-0) c.deref.ensures.value c.in_ok-wire.ensures.wire (c.len-2.ensures ∙ c.in_ok-wire.wire.masks.ok.0) c.have_room.ensures c.in_ok-check-3.ensures)
    (ap Ok (ap (λ (wire : WireText). record (drafted c.args.self.now) { wires = (drafted c.args.self.now).wires ++ wire ∷ [] }) (sym c.in_ok-wire.ensures.wire) ∙ sym c.in_ok-push_wire.ensures.pushed))))))
