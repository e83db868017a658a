use Rattle.std.proofs.Common.{◌∙◌, ap, arith}
use Rattle.std.specs.Prelude.{None}
use Rattle.std.specs.Option.{option_map_or}
use Rattle.std.proofs.lemmas.Option.{slice_get_past}
use Rattle.plant_model.specs.Choice.{plant_interactions}
use Rattle.plant_model.proofs.OfInteractions.{within-limits}
use Rattle.blocked_text.specs.Asked.{plant_asked}
use Rattle.blocked_text.specs.Reason.{reason_by, reason_of}
use Rattle.blocked_text.proofs.Filling.{filled-all, filled-more, filled-none}
use Rattle.blocked_text.proofs.reasons.Reasons.reasons_in.Goals as goal

pub loop-number-init : goal.loop-number-init
loop-number-init c = filled-none (reason_of (plant_asked c.args.self.now) c.args.states.now) None

pub loop-number-preserved : goal.loop-number-preserved
loop-number-preserved c =
    let plant = plant_asked c.args.self.now in
    let limits = within-limits plant c.keeps_its_rules.ensures.plant in
    filled-more (reason_of plant c.args.states.now) None c.loop-number.number c.from.result c.loop-number.reasons c.reason_among.result
    c.from.ensures (omega (arith, c.loop-number-test.true, c.count-number-end.ensures, limits.interactions)) c.loop-number.invariant
    (c.reason_among.ensures ∙ ap (λ states. reason_of plant states c.loop-number.number) c.rivals-rivals.ensures.states)

pub returns : goal.returns
returns c =
    let plant = plant_asked c.args.self.now in
    let all = plant_interactions plant in
    filled-all (reason_of plant c.args.states.now) None c.loop-number.number c.loop-number.reasons c.loop-number.invariant
    (λ n past. ap (λ o. option_map_or (reason_by plant c.args.states.now all n) o None) (slice_get_past all n (omega (arith, past, c.loop-number-test.false, c.count-number-end.ensures))))
