use Rattle.std.proofs.Common.{◌≡◌, ◌==◌, ◌++◌, ◌∷◌, [], ℕ, refl, sym, ◌∙◌, subst, w64}
use Rattle.std.specs.Prelude.{Option, option_map}
use Rattle.std.proofs.lemmas.Int.{to_z-of_z}
use Rattle.plant_model.specs.BoundExpressions.{deliveries_with, given_for, input_of}
use Rattle.plant_model.specs.Delivery.{AreDelivered, IsGiven}
use Rattle.plant_model.specs.declared.bound_input.BoundInput.{BoundInput}
use Rattle.plant_model.proofs.ComingIn.{comes-in, stays-out}
use Rattle.plant_model.proofs.transfers.deliver_input.Goals as goal

pub returns-then-has_all : goal.returns-then-has_all
returns-then-has_all c = λ states ds so_far.
    let found = c.in-Some.found in
    let moves = c.args.moves.now in
    let new = c.give_input.new.delivered in
    subst (λ (o : Option BoundInput). AreDelivered moves (given_for states (ds ++ deliveries_with (option_map input_of o ∷ []) (c.args.value ∷ [])) c.args.mask) new) (sym c.in-Some.is)
    (comes-in states ds c.args.mask (input_of found) c.args.value moves c.args.delivered.now new so_far (sym c.has_all.ensures ∙ c.if-has_all.true)
    (subst (λ v. IsGiven moves (λ (other : ℕ). found.atom == other) found.export v c.args.delivered.now new) (to_z-of_z w64 c.args.value c.ranges.value) c.give_input.ensures))

pub returns-else-has_all : goal.returns-else-has_all
returns-else-has_all c = λ states ds so_far.
    let moves = c.args.moves.now in
    subst (λ (o : Option BoundInput). AreDelivered moves (given_for states (ds ++ deliveries_with (option_map input_of o ∷ []) (c.args.value ∷ [])) c.args.mask) c.args.delivered.now) (sym c.in-Some.is)
    (stays-out states ds c.args.mask (input_of c.in-Some.found) c.args.value moves c.args.delivered.now c.args.delivered.now so_far (sym c.has_all.ensures ∙ c.if-has_all.false) refl)
