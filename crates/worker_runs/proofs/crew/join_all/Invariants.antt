-- The threads that are left are the last of the crew, and each that was joined has kept its promise.
use Rattle.std.proofs.Common.{◌≡◌, ℕ, ◌+◌, ◌<◌, get_or, length, vec_capacity}
use Rattle.std.specs.Vec.Iter.{into_iter_items, into_iter_len}
use Rattle.worker_runs.specs.Shares.{HasAsked}
use Rattle.worker_runs.proofs.crew.join_all.Given as goal

abbrev pub invariant-loop-worker : goal.invariant-loop-worker
invariant-loop-worker g l =
    let done = length l.seats.items in let rest = l.worker-iterator in
    (done + into_iter_len rest ≡ length l.fn.crew.items)
    × (vec_capacity l.seats ≡ vec_capacity l.fn.seats)
    × ((k : ℕ) (d : _) → k < into_iter_len rest → (get_or (into_iter_items rest) k d).promise ≡ (get_or l.fn.crew.items (done + k) d).promise)
    × ((k : ℕ) (d : _) (e : _) → k < done → HasAsked g.N.Naming.plant g.N.Naming.view (get_or l.fn.crew.items k d).promise.0 (get_or l.seats.items k e).watch)
