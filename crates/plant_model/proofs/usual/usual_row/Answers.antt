use Rattle.std.proofs.Common.{◌≡◌, ◌+◌, ◌∙◌, ℕ, [], ◌∷◌, ap, sym, refl, map, length, arith}
use Rattle.std.specs.Prelude.{Option, Some, slice_get}
use Rattle.std.proofs.lemmas.List.{length-append, length-map}
use Rattle.petri_atom.specs.Atom.{definition_of}
use Rattle.petri_atom.specs.Transition.{transition_of}
use Rattle.plant_model.specs.Usual.{IsUsual}
use Rattle.plant_model.specs.declared.usual.Usual.{Usual}
use Rattle.plant_model.proofs.Pushed.{each-pushed}
use Rattle.plant_model.proofs.usual.usual_row.Goals as goal

pub loop-transition-preserved : goal.loop-transition-preserved
loop-transition-preserved c =
    let row = c.loop-transition.row.items in
    let made = c.in_ok-usual_at.field-0 in
    let pushed = c.in_ok-push.ensures.items in
    let all = map (λ list. list.items) c.args.ports.now in
    let Right : ℕ → Option Usual → Type 0 = λ t found. (u : Usual) → found ≡ Some u → IsUsual (definition_of c.args.atom.now) all c.args.number u in (
      ap length pushed ∙ length-append row (made ∷ []) ∙ ap (λ n. n + 1) c.loop-transition.invariant.0,
      λ t found there. each-pushed Right row made c.loop-transition.transition c.loop-transition.invariant.0 c.loop-transition.invariant.1 c.in_ok-usual_at.ensures t found (sym (ap (λ xs. slice_get xs t) pushed) ∙ there),
    )

pub returns-clause-as_many : goal.returns-clause-as_many
returns-clause-as_many c =
    omega (arith, c.loop-transition.invariant.0, c.loop-transition-test.false, c.loop-transition.auto.transition-end, length-map c.transitions-count.result.now transition_of, ap length c.transitions-count.ensures)

pub returns-clause-right : goal.returns-clause-right
returns-clause-right c t u there = c.loop-transition.invariant.1 t (Some u) there u refl
