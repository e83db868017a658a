use Rattle.std.proofs.Common.{◌≡◌, ◌+◌, [], length, All, vec_capacity}
use Rattle.engine_host.proofs.opening.take_seats.Given as goal

abbrev pub invariant-loop-i : goal.invariant-loop-i
invariant-loop-i g l =
    (l.share.parts + l._i ≡ l.fn.share.parts) × (l.share.amount ≡ 0) × (l.publisher ≡ l.fn.publisher) × (length l.seats.items ≡ l._i) × (vec_capacity l.seats ≡ vec_capacity l.fn.seats)
    × All (λ s. (s.share.amount ≡ 0) × (s.watch ≡ [])) l.seats.items
