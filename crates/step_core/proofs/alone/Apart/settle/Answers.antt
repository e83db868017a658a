use Rattle.std.proofs.Common.{◌<◌, ◌≤◌, ◌*◌, ◌^◌, sym, subst, length, arith}
use Rattle.std.specs.FinSet.{contains}
use Rattle.plant_model.specs.System.{interactions_in}
use Rattle.step_core.specs.Settling.{AreBounded, own_count}
use Rattle.step_core.proofs.BoundedWeights.{bounded-set, few-together, weight-bounded}
use Rattle.step_core.proofs.OwnRange.{row-at}
use Rattle.step_core.proofs.SystemConnectors.{few-connectors}
use Rattle.step_core.proofs.alone.Apart.settle.Goals as goal

pub judge-requires-clause-rows : goal.judge-requires-clause-rows
judge-requires-clause-rows c = row-at c.args.self.now.system.now c.args.connector c.index-rows.result.now c.requires.connector c.index-rows.ensures

pub set-requires-clause-few : goal.set-requires-clause-few
set-requires-clause-few c = omega (arith, few-together c.args.self.now.system.now c.args.weights.now c.requires.sums c.requires.bounded, c.from.type_inv, c.from.ensures)

pub returns-then-self-connector-eq0-clause-bounded : goal.returns-then-self-connector-eq0-clause-bounded
returns-then-self-connector-eq0-clause-bounded c =
    let a = c.args.self.now in
    let all = interactions_in a.system.now in
    let old = c.args.weights.now.of_connectors in
    let long : c.args.connector < length old = omega (arith, c.requires.connector, few-connectors a.system.now, c.requires.sums.many) in
    let few : c.from.result ≤ own_count all c.args.connector * 2 ^ 112 =
    omega (arith, c.from.ensures, c.in-Some.ensures.count c.if-self-connector-eq0.true, weight-bounded a.system.now a.states.now a.of_plant (contains c.judge.new.kept) c.args.connector) in
    subst (AreBounded all) (sym c.set.ensures.weights) (bounded-set all old c.args.connector c.from.result long few c.requires.bounded)
