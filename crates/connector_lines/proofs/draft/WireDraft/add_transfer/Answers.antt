use Rattle.std.proofs.Common.{◌<◌, ◌∙◌, ◌&&◌, ap, sym, true, length, map, [], ◌∷◌, Ok, Err, arith}
use Rattle.std.specs.Prelude.{nat_lt}
use Rattle.std.specs.Result.{is_ok}
use Rattle.std.proofs.lemmas.Bool.{and_from, and_parts, le-leb}
use Rattle.std.proofs.lemmas.List.{map-append}
use Rattle.petri_atom.specs.Expression.{all_variables}
use Rattle.plant_model.specs.Wire.{transfer_of}
use Rattle.plant_model.specs.declared.limits.TheConstants.{MAX_TRANSFERS}
use Rattle.plant_words.specs.Reading.{check}
use Rattle.plant_words.specs.declared.line_fault.LineFault.TheVariants.{Limit, Memory}
use Rattle.plant_words.proofs.Early.{check_takes_none, found_before, found_after, found_last}
use Rattle.plant_words.proofs.Exits.{found_fault, found_memory, room_for}
use Rattle.connector_lines.specs.Draft.{drafted}
use Rattle.connector_lines.specs.Rows.{named_on, transfer_row}
use Rattle.connector_lines.specs.Parts.{is_small}
use Rattle.connector_lines.proofs.Adding.{had_room, no_transfer_more, transfer_at_fault, transfer_is_added}
use Rattle.connector_lines.proofs.WantingLines.{transfer_row_is_well}
use Rattle.connector_lines.proofs.OnePartMore.{all_after, small_after, transfer_is_kept, passes_always}
use Rattle.connector_lines.proofs.Targets.{targets_once_after}
use Rattle.connector_lines.proofs.draft.WireDraft.add_transfer.Goals as goal

pub returns-in_err-check-clause-fault : goal.returns-in_err-check-clause-fault
returns-in_err-check-clause-fault g c =
    let w = drafted c.args.self.now in
    let named = named_on (g.N.Exports.atom_named c.args.names.now) (g.N.Exports.export_named c.args.names.now) w in
    found_fault Memory (transfer_row (g.N.Exports.atom_named c.args.names.now) (g.N.Exports.export_named c.args.names.now) c.args.words.now w) c.from_residual.result c.in_err-check.field-0.0 c.from_residual.ensures.1
    (λ _. no_transfer_more named c.args.words.now w c.in_err-check.field-0.0
    (room_for c.args.self.now.transfers.items transfer_of MAX_TRANSFERS c.len.result Limit (Err c.in_err-check.field-0.0) (c.len.ensures ∙ c.args.self.now.transfers.ok.0) c.in_err-check.ensures))

pub returns-in_err-transfer-clause-fault : goal.returns-in_err-transfer-clause-fault
returns-in_err-transfer-clause-fault g c =
    let w = drafted c.args.self.now in
    let named = named_on (g.N.Exports.atom_named c.args.names.now) (g.N.Exports.export_named c.args.names.now) w in
    found_fault Memory (transfer_row (g.N.Exports.atom_named c.args.names.now) (g.N.Exports.export_named c.args.names.now) c.args.words.now w) c.from_residual-in_err-transfer.result c.in_err-transfer.field-0.0 c.from_residual-in_err-transfer.ensures.1
    (λ other. transfer_at_fault named c.args.words.now w c.in_err-transfer.field-0.0 c.in_ok-check.field-0
    (room_for c.args.self.now.transfers.items transfer_of MAX_TRANSFERS c.len.result Limit (Ok c.in_ok-check.field-0) (c.len.ensures ∙ c.args.self.now.transfers.ok.0) c.in_ok-check.ensures)
    (c.in_err-transfer.ensures.fault other))

pub returns-in_err-push-clause-fault : goal.returns-in_err-push-clause-fault
returns-in_err-push-clause-fault g c =
    found_memory Memory (transfer_row (g.N.Exports.atom_named c.args.names.now) (g.N.Exports.export_named c.args.names.now) c.args.words.now (drafted c.args.self.now)) c.from_residual-in_err-push.result c.from_residual-in_err-push.ensures.1

pub returns-clause-added : goal.returns-clause-added
returns-clause-added g c =
    let w = drafted c.args.self.now in
    let named = named_on (g.N.Exports.atom_named c.args.names.now) (g.N.Exports.export_named c.args.names.now) w in
    transfer_is_added named c.args.words.now w (transfer_of c.in_ok-transfer.transfer) c.in_ok-check.field-0
    (room_for c.args.self.now.transfers.items transfer_of MAX_TRANSFERS c.len.result Limit (Ok c.in_ok-check.field-0) (c.len.ensures ∙ c.args.self.now.transfers.ok.0) c.in_ok-check.ensures)
    c.in_ok-transfer.ensures.transfer
    ∙ ap (λ transfers. Ok (record w { transfers = transfers })) (sym (ap (map transfer_of) c.in_ok-push.ensures.items ∙ map-append transfer_of c.args.self.now.transfers.items (c.in_ok-transfer.transfer ∷ [])))

pub invariant_of-self-clause-small_transfers : goal.invariant_of-self-clause-small_transfers
invariant_of-self-clause-small_transfers g c =
    let named = named_on (g.N.Exports.atom_named c.args.names.now) (g.N.Exports.export_named c.args.names.now) (drafted c.args.self.now) in
    let below = had_room c.len.result MAX_TRANSFERS c.in_ok-check.field-0 c.in_ok-check.ensures in
    let room : length c.args.self.now.transfers.items < MAX_TRANSFERS = omega (arith, below, c.len.ensures, c.args.self.now.transfers.ok.0) in
    let kept = transfer_is_kept (λ _. true) named (passes_always named) (drafted c.args.self.now).transfers c.args.words.now (transfer_of c.in_ok-transfer.transfer) c.in_ok-transfer.ensures.transfer in
    small_after transfer_of (λ t. is_small t.value) MAX_TRANSFERS (is_ok c.push.result) c.args.self.now.transfers.items c.in_ok-transfer.transfer c.push.new.self.items
    c.push.ensures.items room c.args.self.now.small_transfers (le-leb _ _ kept.value.within)

pub invariant_of-self-clause-targets_once : goal.invariant_of-self-clause-targets_once
invariant_of-self-clause-targets_once g c =
    targets_once_after (is_ok c.push.result) c.args.self.now.transfers.items c.in_ok-transfer.transfer c.push.new.self.items
    c.push.ensures.items c.args.self.now.targets_once c.in_ok-transfer.ensures.new_target

pub returns-clause-known : goal.returns-clause-known
returns-clause-known g c = λ test passing all.
    let named = named_on (g.N.Exports.atom_named c.args.names.now) (g.N.Exports.export_named c.args.names.now) (drafted c.args.self.now) in
    let kept = transfer_is_kept test named passing (drafted c.args.self.now).transfers c.args.words.now (transfer_of c.in_ok-transfer.transfer) c.in_ok-transfer.ensures.transfer in
    and_from _ _ (and_parts _ _ all).0
    (all_after transfer_of (λ t. test t.target && all_variables test t.value) (is_ok c.push.result) c.args.self.now.transfers.items c.in_ok-transfer.transfer c.push.new.self.items c.push.ensures.items
    (and_parts _ _ all).1 (and_from _ _ kept.target kept.value.passing))

pub returns-in_err-check-clause-memory : goal.returns-in_err-check-clause-memory
returns-in_err-check-clause-memory g c =
    found_before (transfer_row (g.N.Exports.atom_named c.args.names.now) (g.N.Exports.export_named c.args.names.now) c.args.words.now (drafted c.args.self.now)) (check (nat_lt c.len.result MAX_TRANSFERS) Limit) c.from_residual.result c.in_err-check.field-0.0 c.from_residual.ensures.1
    (sym c.in_err-check.ensures) (check_takes_none (nat_lt c.len.result MAX_TRANSFERS) Limit (λ is. absurd (cc)))

pub returns-in_err-transfer-clause-memory : goal.returns-in_err-transfer-clause-memory
returns-in_err-transfer-clause-memory g c =
    let w = drafted c.args.self.now in
    let named = named_on (g.N.Exports.atom_named c.args.names.now) (g.N.Exports.export_named c.args.names.now) w in
    found_after (transfer_row (g.N.Exports.atom_named c.args.names.now) (g.N.Exports.export_named c.args.names.now) c.args.words.now w) c.from_residual-in_err-transfer.result c.in_err-transfer.field-0.0 c.from_residual-in_err-transfer.ensures.1
    (λ memory. transfer_row_is_well named c.args.words.now w c.in_ok-check.field-0
    (room_for c.args.self.now.transfers.items transfer_of MAX_TRANSFERS c.len.result Limit (Ok c.in_ok-check.field-0) (c.len.ensures ∙ c.args.self.now.transfers.ok.0) c.in_ok-check.ensures)
    (c.in_err-transfer.ensures.memory memory))

pub returns-in_err-push-clause-memory : goal.returns-in_err-push-clause-memory
returns-in_err-push-clause-memory g c =
    let w = drafted c.args.self.now in
    let named = named_on (g.N.Exports.atom_named c.args.names.now) (g.N.Exports.export_named c.args.names.now) w in
    found_last (transfer_row (g.N.Exports.atom_named c.args.names.now) (g.N.Exports.export_named c.args.names.now) c.args.words.now w) _ c.from_residual-in_err-push.result
    (transfer_is_added named c.args.words.now w (transfer_of c.in_ok-transfer.transfer) c.in_ok-check.field-0
    (room_for c.args.self.now.transfers.items transfer_of MAX_TRANSFERS c.len.result Limit (Ok c.in_ok-check.field-0) (c.len.ensures ∙ c.args.self.now.transfers.ok.0) c.in_ok-check.ensures)
    c.in_ok-transfer.ensures.transfer)
