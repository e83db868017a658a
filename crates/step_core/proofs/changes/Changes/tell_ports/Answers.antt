use Rattle.std.proofs.Common.{◌≡◌, ◌<◌, ◌^◌, refl, get_or, arith, w32, slice_index_or}
use Rattle.std.specs.Int.{trailing_zeros}
use Rattle.connector_tree.specs.Masks.{is_set}
use Rattle.connector_tree.specs.declared.tree.TheConstants.{MAX_LEAVES}
use Rattle.plant_model.specs.Reach.{row_of_port}
use Rattle.plant_model.specs.System.{plant_of}
use Rattle.plant_model.proofs.WithoutLowest.{fewer-less}
use Rattle.step_core.specs.Leaves.{count_of, is_many, is_none}
use Rattle.step_core.proofs.OfSystem.{few-connectors, few-its-leaves, row-reach, row-there}
use Rattle.step_core.proofs.Telling.{all-left, leaves-alike, leaves-by, leaves-of, left-before, mixed, none-left, none-told, others-alike, port-low, port-told, rest, rest-after, small-leaf, there-listed, told-alike, told-then, word-told}
use Rattle.step_core.proofs.changes.Changes.tell_ports.Goals as goal

pub loop-left-init : goal.loop-left-init
loop-left-init c =
    let wires = (plant_of c.args.system.now).wires in
    let atom = c.args.atom in
    let before = c.args.before.now in
    let after = c.args.after.now in
    record {
      leaves = λ old new row right. leaves-alike wires (count_of old) (mixed atom before after old c.args.ports) c.args.leaves.now
          (all-left atom before after old new row c.args.ports c.requires.ports) (leaves-by wires old c.args.leaves.now right);
      told = λ old new row. told-alike wires (count_of old) (count_of old) (count_of old) (mixed atom before after old c.args.ports) c.args.self.now c.args.self.now
          (λ p. refl) (all-left atom before after old new row c.args.ports c.requires.ports) (none-told wires (count_of old) c.args.self.now);
    }

pub tell-requires : goal.tell-requires
tell-requires c =
    let s = c.args.system.now in
    let wires = (plant_of s).wires in
    let place = c.port_row.result in
    let reach = row-reach s place c.index-reach.result.now (row-there s c.args.atom _ place c.requires.atom c.port_row.ensures) c.index-reach.ensures in
    record {
      there = λ n l there.
          let small = small-leaf wires place MAX_LEAVES (few-its-leaves s) l (there-listed wires place c.index-reach.result.now reach n l there) in
          (omega (arith, small.0, few-connectors s), small.1);
    }

pub loop-left-smaller : goal.loop-left-smaller
loop-left-smaller c = fewer-less w32 c.loop-left.left (omega (arith, c.loop-left-test.true)) (omega arith)

pub loop-left-preserved : goal.loop-left-preserved
loop-left-preserved c =
    let s = c.args.system.now in
    let wires = (plant_of s).wires in
    let atom = c.args.atom in
    let before = c.args.before.now in
    let after = c.args.after.now in
    let place = c.port_row.result in
    let left = c.loop-left.left in
    let some : 0 < left = omega (arith, c.loop-left-test.true) in
    let small : left < 2 ^ 32 = omega arith in
    let port = trailing_zeros w32 left in
    let low = port-low left some small in
    let reach = row-reach s place c.index-reach.result.now (row-there s c.args.atom _ place c.requires.atom c.port_row.ensures) c.index-reach.ensures in
    let its : place ≡ row_of_port atom port = c.port_row.ensures in
    let fewer = rest left some small in
    let told = c.tell.ensures in
    record {
      leaves = λ old new row right.
          let so_far = c.loop-left.invariant.leaves old new row right in
          let was = left-before left some small atom before after old new row in
          let now = rest-after left some small atom before after old new row in
          let others = others-alike left some small atom before after old new row in
          let c_before = mixed atom before after old left in
          let c_after = mixed atom before after old fewer in
          record {
            off = word-told wires atom port place low its c_before c_after (get_or before port 0) (get_or after port 0) was now others is_none
                (λ k j. is_set (slice_index_or c.loop-left.leaves.off k 0) j) (λ k j. is_set (slice_index_or c.tell.new.leaves.off k 0) j) c.index-reach.result.now reach told.off told.others_off so_far.off;
            many = word-told wires atom port place low its c_before c_after (get_or before port 0) (get_or after port 0) was now others is_many
                (λ k j. is_set (slice_index_or c.loop-left.leaves.many k 0) j) (λ k j. is_set (slice_index_or c.tell.new.leaves.many k 0) j) c.index-reach.result.now reach told.many told.others_many so_far.many;
          };
      told = λ old new row.
          let c_before = mixed atom before after old left in
          let c_after = mixed atom before after old fewer in
          told-then wires (count_of old) c_before c_after c.args.self.now c.loop-left.self c.tell.new.self (c.loop-left.invariant.told old new row)
          (port-told wires atom port place low its c_before c_after (get_or before port 0) (get_or after port 0)
          (left-before left some small atom before after old new row) (rest-after left some small atom before after old new row) (others-alike left some small atom before after old new row)
          c.loop-left.self c.tell.new.self c.index-reach.result.now reach told.heavy told.dirty told.not_dirty);
    }

pub returns-clause-leaves : goal.returns-clause-leaves
returns-clause-leaves c old new row right =
    let wires = (plant_of c.args.system.now).wires in
    let none = none-left c.args.atom c.args.before.now c.args.after.now old new row c.loop-left.left c.loop-left-test.false in
    leaves-of wires new c.loop-left.leaves (leaves-alike wires _ (count_of new) c.loop-left.leaves none (c.loop-left.invariant.leaves old new row right))

pub returns-clause-told : goal.returns-clause-told
returns-clause-told c old new row =
    let wires = (plant_of c.args.system.now).wires in
    let none = none-left c.args.atom c.args.before.now c.args.after.now old new row c.loop-left.left c.loop-left-test.false in
    told-alike wires (count_of old) _ (count_of old) (count_of new) c.args.self.now c.loop-left.self (λ p. refl) none (c.loop-left.invariant.told old new row)
