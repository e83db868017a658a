use Rattle.std.proofs.Common.{◌≡◌, FitsSigned, subst, pos, get_or, of_z, rules, to_z, w64}
use Rattle.std.proofs.lemmas.Int.{to_z-of_z}
use Rattle.plant_model.specs.BoundExpressions.{given_for}
use Rattle.plant_model.specs.Delivery.{AreDelivered}
use Rattle.plant_model.proofs.ComingIn.{first-and-later}
use Rattle.plant_model.proofs.transfers.+deliver_inputs.Goals as goal

pub returns-in-len1-up-values : goal.returns-in-len1-up-values
returns-in-len1-up-values t c =
    let first = get_or c.args.values.now 0 (pos 0) in
    let fits : FitsSigned w64 first = search rules in
    λ states ds so_far.
    subst (λ all. AreDelivered c.args.moves.now (given_for states all c.args.mask) c.deliver_inputs.new.delivered)
    (first-and-later ds c.args.inputs.now c.args.values.now c.input-item.result (to_z w64 (of_z w64 first)) (pos 0) c.in-len1-up.len_at_least c.input-item.is c.in-len1-up-values.len_at_least (to_z-of_z w64 first fits))
    (c.deliver_inputs.ensures states _ (c.deliver_input.ensures states ds so_far))
