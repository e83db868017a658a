use Rattle.std.proofs.Common.{◌∙◌, ap, sym, refl, List, ℤ}
use Rattle.std.proofs.Math.Nat.{mod-eq_of_lt}
use Rattle.std.specs.Prelude.{Some, slice_get}
use Rattle.std.proofs.lemmas.Option.{same_Some, slice_get_within}
use Rattle.plant_model.specs.Chosen.{choice_of}
use Rattle.plant_model.specs.Firing.{firing_by}
use Rattle.plant_model.proofs.Membership.{entry-in}
use Rattle.plant_core.specs.Plants.{definition_of, view_of}
use Rattle.plant_core.specs.View.{sure_in, with_all_acked, with_fired}
use Rattle.crossing_control.proofs.moves.make_move.Goals as goal

pub returns-in_default-clause-moved : goal.returns-in_default-clause-moved
returns-in_default-clause-moved g c = (c.in_default.ensures.none refl, refl)

pub returns-clause-moved : goal.returns-clause-moved
returns-clause-moved g c =
    let plant = definition_of c.args.plant.now in
    let cs = sure_in plant (view_of c.args.plant.now) in
    let there = c.in-Some.ensures.there in
    let within = slice_get_within cs c.in-Some.place there.0 there.1 in
    let fired = c.in_ok-fire.ensures.event in
    let same = same_Some _ _ (sym there.1 ∙ ap (slice_get cs) (sym (mod-eq_of_lt within)) ∙ fired.2) in
    let made = choice_of c.in_ok-fire.field-0.choice in
    let after = fired.3 ∙ ap (λ (values : List ℤ). with_fired plant (firing_by made values) (view_of c.args.plant.now)) c.none.ensures in
    (made, ap (λ e. e.connector) (sym same) ∙ there.2, entry-in cs c.in-Some.place made (there.1 ∙ ap Some same), c.in_ok-number.ensures.event.2 ∙ ap with_all_acked after)
