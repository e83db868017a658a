use Rattle.std.proofs.Common.{◌<◌, ◌∙◌, ap, sym, true, length, map, [], ◌∷◌, Ok, Err, arith}
use Rattle.std.specs.Prelude.{nat_lt}
use Rattle.std.specs.Result.{is_ok}
use Rattle.std.proofs.lemmas.Bool.{and_from, and_parts, le-leb}
use Rattle.std.proofs.lemmas.List.{map-append}
use Rattle.petri_atom.specs.Expression.{tree_of, all_variables}
use Rattle.plant_model.specs.declared.limits.TheConstants.{MAX_GUARDS}
use Rattle.plant_words.specs.Reading.{check}
use Rattle.plant_words.specs.declared.line_fault.LineFault.TheVariants.{Limit, Memory}
use Rattle.plant_words.proofs.Early.{check_takes_none, found_before, found_after, found_last}
use Rattle.plant_words.proofs.Exits.{found_fault, found_memory, room_for}
use Rattle.connector_lines.specs.Draft.{drafted}
use Rattle.connector_lines.specs.Rows.{named_on, guard_row}
use Rattle.connector_lines.specs.Parts.{is_small}
use Rattle.connector_lines.proofs.Adding.{had_room, no_guard_more, guard_at_fault, guard_is_added}
use Rattle.connector_lines.proofs.Expressions.{expression_is_kept}
use Rattle.connector_lines.proofs.WantingLines.{guard_row_is_well}
use Rattle.connector_lines.proofs.OnePartMore.{all_after, small_after, passes_always}
use Rattle.connector_lines.proofs.draft.WireDraft.add_guard.Goals as goal

pub returns-in_err-check-clause-fault : goal.returns-in_err-check-clause-fault
returns-in_err-check-clause-fault g c =
    let w = drafted c.args.self.now in
    let named = named_on (g.N.Exports.atom_named c.args.names.now) (g.N.Exports.export_named c.args.names.now) w in
    found_fault Memory (guard_row (g.N.Exports.atom_named c.args.names.now) (g.N.Exports.export_named c.args.names.now) c.args.words.now w) c.from_residual.result c.in_err-check.field-0.0 c.from_residual.ensures.1
    (λ _. no_guard_more named c.args.words.now w c.in_err-check.field-0.0
    (room_for c.args.self.now.guards.items tree_of MAX_GUARDS c.len.result Limit (Err c.in_err-check.field-0.0) (c.len.ensures ∙ c.args.self.now.guards.ok.0) c.in_err-check.ensures))

pub returns-in_err-guard-clause-fault : goal.returns-in_err-guard-clause-fault
returns-in_err-guard-clause-fault g c =
    let w = drafted c.args.self.now in
    let named = named_on (g.N.Exports.atom_named c.args.names.now) (g.N.Exports.export_named c.args.names.now) w in
    found_fault Memory (guard_row (g.N.Exports.atom_named c.args.names.now) (g.N.Exports.export_named c.args.names.now) c.args.words.now w) c.from_residual-in_err-guard.result c.in_err-guard.field-0.0 c.from_residual-in_err-guard.ensures.1
    (λ other. guard_at_fault named c.args.words.now w c.in_err-guard.field-0.0 c.in_ok-check.field-0
    (room_for c.args.self.now.guards.items tree_of MAX_GUARDS c.len.result Limit (Ok c.in_ok-check.field-0) (c.len.ensures ∙ c.args.self.now.guards.ok.0) c.in_ok-check.ensures)
    (c.in_err-guard.ensures.fault other))

pub returns-in_err-push-clause-fault : goal.returns-in_err-push-clause-fault
returns-in_err-push-clause-fault g c =
    found_memory Memory (guard_row (g.N.Exports.atom_named c.args.names.now) (g.N.Exports.export_named c.args.names.now) c.args.words.now (drafted c.args.self.now)) c.from_residual-in_err-push.result c.from_residual-in_err-push.ensures.1

pub returns-clause-added : goal.returns-clause-added
returns-clause-added g c =
    let w = drafted c.args.self.now in
    let named = named_on (g.N.Exports.atom_named c.args.names.now) (g.N.Exports.export_named c.args.names.now) w in
    guard_is_added named c.args.words.now w (tree_of c.in_ok-guard.guard) c.in_ok-check.field-0
    (room_for c.args.self.now.guards.items tree_of MAX_GUARDS c.len.result Limit (Ok c.in_ok-check.field-0) (c.len.ensures ∙ c.args.self.now.guards.ok.0) c.in_ok-check.ensures)
    c.in_ok-guard.ensures.guard
    ∙ ap (λ guards. Ok (record w { guards = guards })) (sym (ap (map tree_of) c.in_ok-push.ensures.items ∙ map-append tree_of c.args.self.now.guards.items (c.in_ok-guard.guard ∷ [])))

pub invariant_of-self-clause-small_guards : goal.invariant_of-self-clause-small_guards
invariant_of-self-clause-small_guards g c =
    let named = named_on (g.N.Exports.atom_named c.args.names.now) (g.N.Exports.export_named c.args.names.now) (drafted c.args.self.now) in
    let below = had_room c.len.result MAX_GUARDS c.in_ok-check.field-0 c.in_ok-check.ensures in
    let room : length c.args.self.now.guards.items < MAX_GUARDS = omega (arith, below, c.len.ensures, c.args.self.now.guards.ok.0) in
    let kept = expression_is_kept (λ _. true) named (passes_always named) c.args.words.now (tree_of c.in_ok-guard.guard) c.in_ok-guard.ensures.guard in
    small_after tree_of is_small MAX_GUARDS (is_ok c.push.result) c.args.self.now.guards.items c.in_ok-guard.guard c.push.new.self.items
    c.push.ensures.items room c.args.self.now.small_guards (le-leb _ _ kept.within)

pub returns-clause-known : goal.returns-clause-known
returns-clause-known g c = λ test passing all.
    let named = named_on (g.N.Exports.atom_named c.args.names.now) (g.N.Exports.export_named c.args.names.now) (drafted c.args.self.now) in
    let kept = expression_is_kept test named passing c.args.words.now (tree_of c.in_ok-guard.guard) c.in_ok-guard.ensures.guard in
    and_from _ _
    (all_after tree_of (all_variables test) (is_ok c.push.result) c.args.self.now.guards.items c.in_ok-guard.guard c.push.new.self.items c.push.ensures.items
    (and_parts _ _ all).0 kept.passing)
    (and_parts _ _ all).1

pub returns-in_err-check-clause-memory : goal.returns-in_err-check-clause-memory
returns-in_err-check-clause-memory g c =
    found_before (guard_row (g.N.Exports.atom_named c.args.names.now) (g.N.Exports.export_named c.args.names.now) c.args.words.now (drafted c.args.self.now)) (check (nat_lt c.len.result MAX_GUARDS) Limit) c.from_residual.result c.in_err-check.field-0.0 c.from_residual.ensures.1
    (sym c.in_err-check.ensures) (check_takes_none (nat_lt c.len.result MAX_GUARDS) Limit (λ is. absurd (cc)))

pub returns-in_err-guard-clause-memory : goal.returns-in_err-guard-clause-memory
returns-in_err-guard-clause-memory g c =
    let w = drafted c.args.self.now in
    let named = named_on (g.N.Exports.atom_named c.args.names.now) (g.N.Exports.export_named c.args.names.now) w in
    found_after (guard_row (g.N.Exports.atom_named c.args.names.now) (g.N.Exports.export_named c.args.names.now) c.args.words.now w) c.from_residual-in_err-guard.result c.in_err-guard.field-0.0 c.from_residual-in_err-guard.ensures.1
    (λ memory. guard_row_is_well named c.args.words.now w c.in_ok-check.field-0
    (room_for c.args.self.now.guards.items tree_of MAX_GUARDS c.len.result Limit (Ok c.in_ok-check.field-0) (c.len.ensures ∙ c.args.self.now.guards.ok.0) c.in_ok-check.ensures)
    (c.in_err-guard.ensures.memory memory))

pub returns-in_err-push-clause-memory : goal.returns-in_err-push-clause-memory
returns-in_err-push-clause-memory g c =
    let w = drafted c.args.self.now in
    let named = named_on (g.N.Exports.atom_named c.args.names.now) (g.N.Exports.export_named c.args.names.now) w in
    found_last (guard_row (g.N.Exports.atom_named c.args.names.now) (g.N.Exports.export_named c.args.names.now) c.args.words.now w) _ c.from_residual-in_err-push.result
    (guard_is_added named c.args.words.now w (tree_of c.in_ok-guard.guard) c.in_ok-check.field-0
    (room_for c.args.self.now.guards.items tree_of MAX_GUARDS c.len.result Limit (Ok c.in_ok-check.field-0) (c.len.ensures ∙ c.args.self.now.guards.ok.0) c.in_ok-check.ensures)
    c.in_ok-guard.ensures.guard)
