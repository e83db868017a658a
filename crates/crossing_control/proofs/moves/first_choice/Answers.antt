use Rattle.std.proofs.Common.{◌∙◌, ⊎_elim, ap, sym, arith}
use Rattle.std.proofs.Math.Nat.{eq-or-lt_of_le}
use Rattle.std.specs.Prelude.{slice_get}
use Rattle.std.proofs.lemmas.Option.{same_Some, slice_get_within}
use Rattle.plant_model.proofs.Membership.{in-entry}
use Rattle.plant_core.specs.Plants.{definition_of, view_of}
use Rattle.plant_core.specs.View.{sure_in}
use Rattle.crossing_control.proofs.moves.first_choice.Goals as goal

pub loop-place-preserved : goal.loop-place-preserved
loop-place-preserved g c = λ place d low is own.
    let cs = sure_in (definition_of c.args.plant.now) (view_of c.args.plant.now) in
    ⊎_elim
    (λ same. c.if-nth-connector.false (ap (λ e. e.connector) (same_Some _ _ (sym c.nth.ensures ∙ ap (slice_get cs) (sym same) ∙ is)) ∙ own))
    (λ before. c.loop-place.invariant place d before is own)
    (eq-or-lt_of_le (omega (arith, low)))

pub returns-clause-none : goal.returns-clause-none
returns-clause-none g c = λ none d in_it own.
    let cs = sure_in (definition_of c.args.plant.now) (view_of c.args.plant.now) in
    let at = in-entry cs d in_it in
    let within = slice_get_within cs at.0 d at.1 in
    c.loop-place.invariant at.0 d (omega (arith, within, c.count-place-end.ensures, c.loop-place-test.false)) at.1 own
