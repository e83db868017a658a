use Rattle.std.proofs.Common.{◌≡◌, ◌≤◌, ◌∙◌, ap, arith, length, sym, take}
use Rattle.std.specs.List.{sum}
use Rattle.plant_model.specs.declared.limits.TheConstants.{MAX_WIRES}
use Rattle.step_core.specs.Running.{plant_in, states_in}
use Rattle.run_text.specs.Weights.{weights_in}
use Rattle.run_text.proofs.Shares.{by-numbers, by-weight-none, own-weights}
use Rattle.run_text.proofs.weighted.by_weight.Goals as goal

pub returns-then-sum-eq0-clause-choice : goal.returns-then-sum-eq0-clause-choice
returns-then-sum-eq0-clause-choice c =
    let plant = plant_in c.args.run.now in
    let states = states_in c.args.run.now in
    let weights = c.args.weights.now in
    let count = c.wire_count.ensures.count in
    let few : length plant.wires ≤ MAX_WIRES = omega (arith, count, c.wire_count.ensures.few) in
    let shares_is : take c.wire_count.result c.shares_of-shares.result ≡ weights_in plant states weights =
    ap (λ n. take n c.shares_of-shares.result) count ∙ own-weights plant states weights c.shares_of-shares.result few c.shares_of-shares.ensures.all c.shares_of-shares.ensures.weights in
    sym (by-weight-none plant states weights c.args.number (ap sum (sym shares_is) ∙ sym c.sum_of-sum.ensures ∙ c.if-sum-eq0.true))

pub offset_bounds-numbers-connector : goal.offset_bounds-numbers-connector
offset_bounds-numbers-connector c =
    let plant = plant_in c.args.run.now in
    let states = states_in c.args.run.now in
    let weights = c.args.weights.now in
    let count = c.wire_count.ensures.count in
    let few : length plant.wires ≤ MAX_WIRES = omega (arith, count, c.wire_count.ensures.few) in
    let shares_is : take c.wire_count.result c.shares_of-shares.result ≡ weights_in plant states weights =
    ap (λ n. take n c.shares_of-shares.result) count ∙ own-weights plant states weights c.shares_of-shares.result few c.shares_of-shares.ensures.all c.shares_of-shares.ensures.weights in
    let falls = by-numbers plant states weights (take c.wire_count.result c.shares_of-shares.result) c.numbers_by_connector-numbers.result c.args.number c.sum_of-sum.result c.falls_to-connector.result (record { first = 0; end = 0 })
    shares_is c.sum_of-sum.ensures c.if-sum-eq0.false c.falls_to-connector.ensures few c.numbers_by_connector-numbers.ensures in
    omega (arith, falls.0)

pub bounds-numbers-connector : goal.bounds-numbers-connector
bounds-numbers-connector c =
    let plant = plant_in c.args.run.now in
    let states = states_in c.args.run.now in
    let weights = c.args.weights.now in
    let count = c.wire_count.ensures.count in
    let few : length plant.wires ≤ MAX_WIRES = omega (arith, count, c.wire_count.ensures.few) in
    let shares_is : take c.wire_count.result c.shares_of-shares.result ≡ weights_in plant states weights =
    ap (λ n. take n c.shares_of-shares.result) count ∙ own-weights plant states weights c.shares_of-shares.result few c.shares_of-shares.ensures.all c.shares_of-shares.ensures.weights in
    let falls = by-numbers plant states weights (take c.wire_count.result c.shares_of-shares.result) c.numbers_by_connector-numbers.result c.args.number c.sum_of-sum.result c.falls_to-connector.result (record { first = 0; end = 0 })
    shares_is c.sum_of-sum.ensures c.if-sum-eq0.false c.falls_to-connector.ensures few c.numbers_by_connector-numbers.ensures in
    omega (arith, falls.0)

pub own_choice-requires-clause-some : goal.own_choice-requires-clause-some
own_choice-requires-clause-some c =
    let plant = plant_in c.args.run.now in
    let states = states_in c.args.run.now in
    let weights = c.args.weights.now in
    let count = c.wire_count.ensures.count in
    let few : length plant.wires ≤ MAX_WIRES = omega (arith, count, c.wire_count.ensures.few) in
    let shares_is : take c.wire_count.result c.shares_of-shares.result ≡ weights_in plant states weights =
    ap (λ n. take n c.shares_of-shares.result) count ∙ own-weights plant states weights c.shares_of-shares.result few c.shares_of-shares.ensures.all c.shares_of-shares.ensures.weights in
    let falls = by-numbers plant states weights (take c.wire_count.result c.shares_of-shares.result) c.numbers_by_connector-numbers.result c.args.number c.sum_of-sum.result c.falls_to-connector.result (record { first = 0; end = 0 })
    shares_is c.sum_of-sum.ensures c.if-sum-eq0.false c.falls_to-connector.ensures few c.numbers_by_connector-numbers.ensures in
    falls.1

pub returns-clause-choice : goal.returns-clause-choice
returns-clause-choice c =
    let plant = plant_in c.args.run.now in
    let states = states_in c.args.run.now in
    let weights = c.args.weights.now in
    let count = c.wire_count.ensures.count in
    let few : length plant.wires ≤ MAX_WIRES = omega (arith, count, c.wire_count.ensures.few) in
    let shares_is : take c.wire_count.result c.shares_of-shares.result ≡ weights_in plant states weights =
    ap (λ n. take n c.shares_of-shares.result) count ∙ own-weights plant states weights c.shares_of-shares.result few c.shares_of-shares.ensures.all c.shares_of-shares.ensures.weights in
    let falls = by-numbers plant states weights (take c.wire_count.result c.shares_of-shares.result) c.numbers_by_connector-numbers.result c.args.number c.sum_of-sum.result c.falls_to-connector.result (record { first = 0; end = 0 })
    shares_is c.sum_of-sum.ensures c.if-sum-eq0.false c.falls_to-connector.ensures few c.numbers_by_connector-numbers.ensures in
    sym c.own_choice.ensures.choice ∙ sym falls.2
