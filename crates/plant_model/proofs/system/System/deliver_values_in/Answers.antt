use Rattle.std.proofs.Common.{◌==◌, ◌∙◌, ◌++◌, ap, arith, sym, take, []}
use Rattle.std.specs.Prelude.{Some, slice_get, find}
use Rattle.plant_model.specs.BoundExpressions.{deliveries_in, deliveries_with, given_for, inputs_of}
use Rattle.plant_model.specs.Chosen.{firing_of}
use Rattle.plant_model.proofs.ComingIn.{none-comes}
use Rattle.plant_model.proofs.Delivering.{given-there, given-past}
use Rattle.plant_model.proofs.system.System.deliver_values_in.Goals as goal

pub returns-in-Some : goal.returns-in-Some
returns-in-Some c states before place m there first =
    let lookup = c.in-Some.ensures.lookup in
    let bound = c.in-Some.bound.now in
    c.deliver_inputs.ensures states (deliveries_in bound.deliveries)
    (λ k j here earliest.
    before k j (ap (λ ms. slice_get ms k) (sym c.as_slice-moves.ensures.moves) ∙ here) (ap (λ ms. find (λ i. i.atom == j.atom) (take k ms)) (sym c.as_slice-moves.ensures.moves) ∙ earliest) ∙
    ap Some (sym (given-there c.args.self.now states (firing_of c.args.choice.now []) (omega arith) c.from.result c.from.ensures j.atom _ c.deref.ensures.value bound lookup.3.0 lookup.1)) ∙
    ap (λ ds. Some (given_for states ds c.args.choice.now.mask j.atom)) (sym (none-comes (deliveries_in bound.deliveries) (inputs_of bound.inputs.items))))
    place m (ap (λ ms. slice_get ms place) c.as_slice-moves.ensures.moves ∙ there) (ap (λ ms. find (λ k. k.atom == m.atom) (take place ms)) c.as_slice-moves.ensures.moves ∙ first) ∙
    ap (λ is. Some (given_for states (deliveries_in bound.deliveries ++ deliveries_with (inputs_of is) c.args.inputs.now) c.args.choice.now.mask m.atom)) c.deref-in-Some.ensures.value ∙
    ap Some
    (given-there c.args.self.now states (firing_of c.args.choice.now c.args.inputs.now) (omega arith) c.from.result c.from.ensures m.atom _ c.deref.ensures.value bound lookup.3.0 lookup.1)

pub returns-in_default : goal.returns-in_default
returns-in_default c states before place m there first =
    before place m there first ∙
    ap Some (sym (given-past c.args.self.now states (firing_of c.args.choice.now []) (omega arith) c.from.result c.from.ensures m.atom _ c.deref.ensures.value c.in_default.ensures.lookup.3) ∙
    given-past c.args.self.now states (firing_of c.args.choice.now c.args.inputs.now) (omega arith) c.from.result c.from.ensures m.atom _ c.deref.ensures.value c.in_default.ensures.lookup.3)
