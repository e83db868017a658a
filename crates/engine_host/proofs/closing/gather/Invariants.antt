use Rattle.std.proofs.Common.{◌≡◌, ◌+◌, ◌≤◌, All, length, sum_by}
use mathlib.Core.List.{IsPrefix}
use Rattle.engine_host.proofs.closing.gather.Given as goal

abbrev pub invariant-loop-share : goal.invariant-loop-share
invariant-loop-share g l =
    (l.all.parts ≡ l.initial.all.parts + length l.yielded)
    × (l.all.amount ≡ l.initial.all.amount + sum_by (λ s. s.share.amount) l.yielded)
    × (l.all.parts ≤ g.N.Ledger.parts)
    × (l.publisher ≡ l.initial.publisher)
    × All (λ s. IsPrefix s.watch l.initial.publisher) l.yielded
