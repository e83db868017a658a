use Rattle.std.proofs.Common.{◌≡◌, ◌+◌, ◌<◌, suc, ap, arith, subst, take}
use Rattle.std.specs.List.{sum}
use Rattle.run_text.specs.Weights.{falls_to}
use Rattle.run_text.proofs.Shares.{falls-within}
use Rattle.run_text.proofs.laws.a_number_falls_by_running_sums.Goals as goal

pub returns : goal.returns
returns c = λ number weights less.
    let falls = falls-within number weights less in
    let one_more : suc (falls_to number weights) ≡ falls_to number weights + 1 = omega arith in
    (falls.0, falls.2, subst (λ k. number < sum (take k weights)) one_more falls.3)
