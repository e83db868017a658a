use Rattle.std.proofs.Common.{◌≤◌, ◌*◌, ◌^◌, map, length, take, drop, ◌-◌, arith, le_trans, pow_mono}
use Rattle.petri_atom.specs.Atom.{definition_of}
use Rattle.plant_model.specs.Choice.{moves_of}
use Rattle.plant_model.proofs.Combinations.{product-bound, length-later, count-by-first}
use Rattle.step_core.proofs.possible.InteractionJudge.+row_count.Goals as goal

-- at most 7 bits for each of 9 ports
pub overflow_mul-result : goal.overflow_mul-result
overflow_mul-result t c =
    let ports = c.args.ports.now in
    let few = product-bound c.move_count-count.result c.row_count.result (length (take (length ports - 1) (drop 1 ports))) (length ports) c.move_count-count.ensures.few c.row_count.ensures.few (length-later ports c.in-len1-up.len_at_least) in
    let bits : 7 * length ports ≤ 63 = omega (arith, c.requires) in
    let bound : c.move_count-count.result * c.row_count.result ≤ 2 ^ 63 = le_trans few (pow_mono bits) in
    omega arith

pub returns-in-len1-up-clause-few : goal.returns-in-len1-up-clause-few
returns-in-len1-up-clause-few t c =
    let ports = c.args.ports.now in
    product-bound c.move_count-count.result c.row_count.result (length (take (length ports - 1) (drop 1 ports))) (length ports) c.move_count-count.ensures.few c.row_count.ensures.few (length-later ports c.in-len1-up.len_at_least)

pub returns-in-len1-up-clause-count : goal.returns-in-len1-up-clause-count
returns-in-len1-up-clause-count t c =
    let judged = c.args.self.now in
    count-by-first (moves_of (map definition_of judged.atoms.now) judged.states.now) c.args.ports.now (record { atom = 0; port = 0 }) c.in-len1-up.len_at_least c.move_count-count.result c.row_count.result c.move_count-count.ensures.count c.row_count.ensures.count
