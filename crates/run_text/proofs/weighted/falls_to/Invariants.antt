-- What is left of the number falls among the weights from this place on, as the number among all.
use Rattle.std.proofs.Common.{◌≡◌, ◌+◌, drop}
use Rattle.run_text.specs.Weights.{falls_to}
use Rattle.run_text.proofs.weighted.falls_to.Given as goal

abbrev pub invariant-loop-place : goal.invariant-loop-place
invariant-loop-place l = falls_to l.number l.shares ≡ l.place + falls_to l.left (drop l.place l.shares)
