use Rattle.std.proofs.Common.{◌∙◌, ⊎_elim, ap, sym, arith}
use Rattle.std.proofs.Math.Nat.{eq-or-lt_of_le}
use Rattle.std.specs.Prelude.{slice_get}
use Rattle.std.proofs.lemmas.Option.{same_Some, slice_get_within}
use Rattle.plant_core.specs.Plants.{definition_of, view_of}
use Rattle.plant_core.specs.View.{sure_in}
use Rattle.plant_for_c.proofs.firing.next_choice.Goals as goal

pub loop-place-preserved : goal.loop-place-preserved
loop-place-preserved g c = (
  omega (arith, c.loop-place.invariant.0),
  λ place from low d is own.
      let cs = sure_in (definition_of c.args.plant.now) (view_of c.args.plant.now) in
      ⊎_elim
      (λ same. c.if-nth-connector.false (ap (λ e. e.connector) (same_Some _ _ (sym c.nth.ensures ∙ ap (slice_get cs) (sym same) ∙ is)) ∙ own))
      (λ before. c.loop-place.invariant.1 place from before d is own)
      (eq-or-lt_of_le (omega (arith, low))),
)

pub returns-clause-before : goal.returns-clause-before
returns-clause-before g c = λ place from d is own.
    let cs = sure_in (definition_of c.args.plant.now) (view_of c.args.plant.now) in
    let within = slice_get_within cs place d is in
    c.loop-place.invariant.1 place from (omega (arith, within, c.count-place-end.ensures, c.loop-place-test.false)) d is own
