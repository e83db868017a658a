use Rattle.std.proofs.Common.{◌∙◌, ◌*◌, sym, refl}
use Rattle.step_core.proofs.Sums.{zero-at, zero-some}
use Rattle.step_core.proofs.weights.Weights.none.Goals as goal

pub returns-clause-weights : goal.returns-clause-weights
returns-clause-weights c k = zero-at 64 k

pub returns-clause-sums : goal.returns-clause-sums
returns-clause-sums c = record {
  many = refl;
  groups = λ g. zero-at 8 g ∙ sym (zero-some 64 (8 * g) 8);
  total = refl;
}
