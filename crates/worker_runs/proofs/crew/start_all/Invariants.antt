-- Of the seats that are left none knows anything, and each thread so far has its own share.
use Rattle.std.proofs.Common.{◌≡◌, ℕ, ◌+◌, ◌<◌, [], All, get_or, length, vec_capacity}
use Rattle.worker_runs.specs.Shares.{IsShare}
use Rattle.worker_runs.proofs.crew.start_all.Given as goal

abbrev pub invariant-loop-worker : goal.invariant-loop-worker
invariant-loop-worker g l =
    (length l.seats.items + l.worker ≡ l.workers)
    × All (λ s. (s.share.amount ≡ 0) × (s.watch ≡ [])) l.seats.items
    × (length l.crew.items ≡ l.worker)
    × (vec_capacity l.crew ≡ vec_capacity l.initial.crew)
    × ((k : ℕ) (d : _) → k < l.worker → IsShare l.events l.workers k (get_or l.crew.items k d).promise.0)
