use Rattle.std.proofs.Common.{◌<◌, ◌∙◌, ap, sym, length, get_or, arith}
use Rattle.std.proofs.lemmas.Bool.{and_parts, eqb-true}
use Rattle.std.proofs.lemmas.List.{get_or_default}
use Rattle.std.proofs.lemmas.Option.{same_Some}
use Rattle.petri_atom.specs.Local.{Local}
use Rattle.step_core.proofs.OfSystem.{few-atoms, state-read, usual-long, usual-read}
use Rattle.step_core.proofs.changes.usual_there.Goals as goal

pub index-requires-2 : goal.index-requires-2
index-requires-2 c =
    let long = usual-long c.args.system.now c.from-index.result c.args.step.atom c.from.result c.index.result.now c.from-index.ensures c.requires.atom c.index.ensures (λ a known. omega (arith, c.requires.transition a known, c.from.ensures)) in
    omega (arith, long, c.index.result.now.ok.0)

pub returns-then-eq-usual-clause-usual : goal.returns-then-eq-usual-clause-usual
returns-then-eq-usual-clause-usual c =
    let row = c.index.result.now in
    let long = usual-long c.args.system.now c.from-index.result c.args.step.atom c.from.result row c.from-index.ensures c.requires.atom c.index.ensures (λ a known. omega (arith, c.requires.transition a known, c.from.ensures)) in
    usual-read c.args.system.now c.from-index.result c.args.step.atom c.from.result c.from.result row c.index-2.result.now c.in-Some.usual c.from-index.ensures c.requires.atom c.index.ensures (omega arith) long c.index-2.ensures c.in-Some.is

pub returns-then-eq-usual-clause-before : goal.returns-then-eq-usual-clause-before
returns-then-eq-usual-clause-before c =
    let sets = c.args.offers.now.sets in
    let i = c.from-index.result in
    let usual = c.in-Some.usual in
    let here = c.index-offers-index.result in
    let within : i < length sets = omega (arith, c.requires.atom, few-atoms c.args.system.now, c.from-index.ensures) in
    eqb-true usual.before (get_or sets i here) (sym c.eq.ensures ∙ (and_parts c.eq.result _ c.if-eq-usual.true).0) ∙ get_or_default sets i here 0 within ∙ ap (λ j. get_or sets j 0) c.from-index.ensures

pub returns-then-eq-usual-clause-places : goal.returns-then-eq-usual-clause-places
returns-then-eq-usual-clause-places c state there =
    let i = c.from-index.result in
    let read = c.index-state.result.now in
    let usual = c.in-Some.usual in
    let same = state-read c.args.system.now c.args.states.now i c.args.step.atom read c.requires.of_plant c.from-index.ensures c.requires.atom (c.index-state.ensures ∙ ap (λ xs. get_or xs i read) c.states.view_is) in
    ap (λ (s : Local). s.marking) (same_Some state read (sym there ∙ same)) ∙ sym c.places.ensures ∙ sym (eqb-true usual.places c.places.result (and_parts c.eq.result _ c.if-eq-usual.true).1)
