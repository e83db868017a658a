use Rattle.std.proofs.Common.{◌∙◌, ◌++◌, ◌∷◌, [], ap, refl, sym, w64}
use Rattle.std.specs.Prelude.{option_map}
use Rattle.std.proofs.lemmas.Int.{to_z-of_z}
use Rattle.petri_atom.specs.Local.{given}
use Rattle.plant_model.specs.BoundExpressions.{deliveries_with, given_for, input_of}
use Rattle.plant_model.proofs.ComingIn.{added, not-added}
use Rattle.plant_model.proofs.transfers.add_input.Goals as goal

pub returns-then-is_input_of : goal.returns-then-is_input_of
returns-then-is_input_of c = λ states ds so_far.
    let found = c.in-Some.found in
    added states ds c.args.mask (input_of found) c.args.value c.args.atom c.args.delivered.now c.give_at.new.self (sym c.is_input_of.ensures ∙ c.if-is_input_of.true)
    (c.give_at.ensures ∙ ap (λ v. given found.export v c.args.delivered.now) (to_z-of_z w64 c.args.value c.ranges.value)) so_far ∙
    ap (λ o. given_for states (ds ++ deliveries_with (option_map input_of o ∷ []) (c.args.value ∷ [])) c.args.mask c.args.atom) (sym c.in-Some.is)

pub returns-else-is_input_of : goal.returns-else-is_input_of
returns-else-is_input_of c = λ states ds so_far.
    not-added states ds c.args.mask (input_of c.in-Some.found) c.args.value c.args.atom c.args.delivered.now c.args.delivered.now (sym c.is_input_of.ensures ∙ c.if-is_input_of.false) refl so_far ∙
    ap (λ o. given_for states (ds ++ deliveries_with (option_map input_of o ∷ []) (c.args.value ∷ [])) c.args.mask c.args.atom) (sym c.in-Some.is)
