use Rattle.std.proofs.Common.{◌≡◌, ◌∙◌, ◌+◌, ◌-◌, ◌*◌, ◌/◌, ℕ, length, arith}
use Rattle.std.specs.Prelude.{slice_index_or}
use Rattle.std.proofs.lemmas.List.{length-set}
use Rattle.step_core.proofs.Sums.{groups-set, one-of-some, one-of-sum, some-of-sum, sum-set}
use Rattle.step_core.proofs.weights.Weights.set.Goals as goal

pub overflow_add-self : goal.overflow_add-self
overflow_add-self c =
    let w = c.args.self.now in
    omega (arith, some-of-sum w.of_connectors (8 * (c.args.connector / 8)) 8, c.requires.sums.groups (c.args.connector / 8), c.requires.sums.total, c.requires.few)

pub overflow_sub-self-2 : goal.overflow_sub-self-2
overflow_sub-self-2 c = omega (arith, one-of-sum c.args.self.now.of_connectors c.args.connector, c.requires.sums.total)

pub returns-clause-sums : goal.returns-clause-sums
returns-clause-sums c =
    let w = c.args.self.now in
    let k = c.args.connector in
    let weight = c.args.weight in
    let old : ℕ = slice_index_or w.of_connectors k 0 in
    let sums = c.requires.sums in
    let many : length w.groups ≡ 8 = omega arith in
    let in_group = one-of-some w.of_connectors (8 * (k / 8)) 8 k (omega arith) (omega arith) in
    let set = sum-set w.of_connectors k weight (omega (arith, c.requires.connector, sums.many)) in
    record {
      many = length-set w.of_connectors k weight ∙ sums.many;
      groups = groups-set w.of_connectors w.groups k weight (slice_index_or w.groups (k / 8) 0 - old + weight) sums.many many c.requires.connector sums.groups (omega (arith, in_group, sums.groups (k / 8)));
      total = omega (arith, one-of-sum w.of_connectors k, set, sums.total);
    }
