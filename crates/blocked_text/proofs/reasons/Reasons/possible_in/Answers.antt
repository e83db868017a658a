use Rattle.std.proofs.Common.{ℕ, Bool, ap, arith, false}
use Rattle.std.specs.Option.{option_map_or}
use Rattle.std.proofs.lemmas.Option.{slice_get_past}
use Rattle.plant_model.specs.Choice.{is_possible, is_possible_at, plant_interactions}
use Rattle.plant_model.proofs.OfInteractions.{within-limits}
use Rattle.blocked_text.specs.Asked.{plant_asked}
use Rattle.blocked_text.proofs.Filling.{filled-all, filled-more, filled-none}
use Rattle.blocked_text.proofs.reasons.Reasons.possible_in.Goals as goal

pub loop-number-init : goal.loop-number-init
loop-number-init c =
    let plant = plant_asked c.args.self.now in
    filled-none (is_possible_at plant.atoms plant.wires c.args.states.now (plant_interactions plant)) false

pub loop-number-preserved : goal.loop-number-preserved
loop-number-preserved c =
    let plant = plant_asked c.args.self.now in
    let limits = within-limits plant c.keeps_its_rules.ensures.plant in
    filled-more (is_possible_at plant.atoms plant.wires c.args.states.now (plant_interactions plant)) false c.loop-number.number c.from.result c.loop-number.possible c.is_possible_at.result
    c.from.ensures (omega (arith, c.loop-number-test.true, c.count-number-end.ensures, limits.interactions)) c.loop-number.invariant c.is_possible_at.ensures

pub returns : goal.returns
returns c =
    let plant = plant_asked c.args.self.now in
    let all = plant_interactions plant in
    let f : ℕ → Bool = is_possible_at plant.atoms plant.wires c.args.states.now all in
    filled-all f false c.loop-number.number c.loop-number.possible c.loop-number.invariant
    (λ n past. ap (λ o. option_map_or (is_possible plant.atoms plant.wires c.args.states.now) o false) (slice_get_past all n (omega (arith, past, c.loop-number-test.false, c.count-number-end.ensures))))
