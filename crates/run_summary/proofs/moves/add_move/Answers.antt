use Rattle.std.proofs.Common.{◌≡◌, ◌<◌, ◌∙◌, [], ◌∷◌, ap, arith, get_or, length, set, subst, sym}
use Rattle.std.specs.Option.{option_map_or}
use Rattle.std.proofs.lemmas.List.{get_or_default}
use Rattle.run_summary.specs.Moves.{moved_to}
use Rattle.run_summary.specs.Totals.{atom_totals}
use Rattle.run_summary.proofs.Moving.{moved-added, moved-past}
use Rattle.run_summary.proofs.moves.add_move.Goals as goal

pub returns-then-number-len-clause-added : goal.returns-then-number-len-clause-added
returns-then-number-len-clause-added c = λ atoms past known.
    let m = moved_to c.args.states.now c.args.step in
    let totals = c.args.summaries.now.items in
    let within : c.args.step.atom < length totals = omega (arith, c.if-number-len.true, c.from-number.ensures) in
    let values : c.values.result.now ≡ m.values = c.values.ensures ∙ sym (ap (λ found. option_map_or (λ s. s.values) found []) c.state-state.ensures) in
    let here : c.index_mut.result.now ≡ get_or totals c.args.step.atom c.add.new.self =
    c.index_mut.ensures.value ∙ ap (λ i. get_or totals i c.index_mut.result.now) c.from-number.ensures
    ∙ get_or_default totals c.args.step.atom c.index_mut.result.now c.add.new.self within in
    ap (λ i. set totals i c.add.new.self) c.from-number.ensures
    ∙ moved-added m past atoms totals c.add.new.self known within (λ a moves is.
    subst (λ values. c.add.new.self ≡ atom_totals a (record { atom = m.atom; transition = m.transition; values = values } ∷ moves)) values
    (c.add.ensures a m.atom moves (here ∙ is)))

pub returns-else-number-len-clause-added : goal.returns-else-number-len-clause-added
returns-else-number-len-clause-added c = λ atoms past known.
    moved-past (moved_to c.args.states.now c.args.step) past atoms c.args.summaries.now.items known (omega (arith, c.if-number-len.false, c.from-number.ensures))
