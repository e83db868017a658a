use Rattle.std.proofs.Common.{◌≡◌, ◌+◌, ◌-◌, ◌*◌, arith}
use Rattle.std.specs.Prelude.{slice_index_or}
use Rattle.step_core.specs.Weights.{sum_from}
use Rattle.step_core.proofs.Sums.{group-in-total, small-connector, small-group, sum-before-group, sum-before-next, weight-in-total}
use Rattle.step_core.proofs.weights.Weights.find_by_word.Goals as goal

-- no weight is more than the total
pub overflow_cast-self : goal.overflow_cast-self
overflow_cast-self c = omega (arith, group-in-total c.args.self.now c.requires.sums c.loop-group.group, c.requires.few)

pub overflow_cast-self-in-loop-connector : goal.overflow_cast-self-in-loop-connector
overflow_cast-self-in-loop-connector c = omega (arith, weight-in-total c.args.self.now c.requires.sums c.loop-connector.connector, c.requires.few)

pub loop-group-preserved : goal.loop-group-preserved
loop-group-preserved c =
    let w = c.args.self.now in
    let group = c.loop-group.group in
    let left = c.loop-group.left in
    let behind : c.args.place ≡ sum_from w.of_connectors 0 (8 * (group + 1)) + (left - slice_index_or w.groups group 0) =
    omega (arith, c.loop-group.invariant.1, c.loop-group-test.true, sum-before-group w.of_connectors group, c.requires.sums.groups group) in
    (small-group w c.requires.sums (group + 1) (left - slice_index_or w.groups group 0) c.args.place c.requires.place behind, behind)

pub loop-connector-preserved : goal.loop-connector-preserved
loop-connector-preserved c =
    let w = c.args.self.now in
    let connector = c.loop-connector.connector in
    let left = c.loop-connector.left in
    let behind : c.args.place ≡ sum_from w.of_connectors 0 (connector + 1) + (left - slice_index_or w.of_connectors connector 0) =
    omega (arith, c.loop-connector.invariant.1, c.loop-connector-test.true, sum-before-next w.of_connectors connector) in
    (small-connector w c.requires.sums (connector + 1) (left - slice_index_or w.of_connectors connector 0) c.args.place c.requires.place behind, behind)
