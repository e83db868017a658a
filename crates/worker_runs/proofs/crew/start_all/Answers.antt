-- The thread of a worker may have what its closure has: the host, by the lemma on hosts, the seat, by that on seats, and all else by its type.
use denote.Exit.{no}
use denote.Param.Send.{IsSend, arg_send, arg_sync, param_send, param_sync, sendable, shr_send}
use denote.Plain.{Boolean}
use Rattle.std.proofs.Common.{◌≡◌, ◌∙◌, ap, sym, ◌+◌, ◌<◌, [], ◌∷◌, Some, length, length-append, arith}
use Rattle.std.proofs.lemmas.List.Elements.{All-pop}
use Rattle.plant_model.proofs.Crossing.{closure_send, lock_sync}
use Rattle.engine_host.proofs.Crossing.{Host-row-sync, Seat-row-send}
use Rattle.worker_runs.specs.Shares.{IsShare}
use Rattle.worker_runs.proofs.Growing.{pushed}
use Rattle.worker_runs.proofs.crew.Share.TheSendSync as shares
use Rattle.worker_runs.proofs.crew.start_all.Goals as goal

flag-send : IsSend Boolean
flag-send = search sendable

pub spawn_with-requires-send-F : goal.spawn_with-requires-send-F
spawn_with-requires-send-F g c κs within =
    closure_send 2 _ _ (_ ∷ _ ∷ _ ∷ _ ∷ _ ∷ _ ∷ []) (
      shr_send _ _ _ c.type_bounds.sync-R,
      (
        shr_send _ _ _ (Host-row-sync _ _ _ g.D.Disk g.N.Naming g.N.WordNaming g.N.Ledger c.type_bounds.send-D c.type_bounds.send-N c.type_bounds.sync-N),
        (
          Seat-row-send _ g.N.Naming g.N.WordNaming g.N.Ledger c.type_bounds.send-N,
          (shares.the_send _, (shr_send _ _ _ c.type_bounds.sync-P, (shr_send _ _ _ (lock_sync _ flag-send), tt))),
        ),
      ),
    )

pub spawn_with-requires-clause-runs : goal.spawn_with-requires-clause-runs
spawn_with-requires-clause-runs g c κs within =
    let left = All-pop (λ s. (s.share.amount ≡ 0) × (s.watch ≡ [])) c.loop-worker.seats.items c.pop.new.self.items (Some c.in-Some.seat) c.in-Some.ensures.items c.loop-worker.invariant.1 in
    let some : 0 < c.len-workers.result = omega (arith, c.loop-worker-test.true) in
    ((some, left.1.1), (param_send _ _ (arg_send _ no _ c.type_bounds.send-D), param_send _ _ (arg_send _ no _ c.type_bounds.send-N), param_sync _ _ (arg_sync _ no _ c.type_bounds.sync-N), param_sync _ _ (arg_sync _ no _ c.type_bounds.sync-R), param_sync _ _ (arg_sync _ no _ c.type_bounds.sync-P)))

pub loop-worker-preserved : goal.loop-worker-preserved
loop-worker-preserved g c =
    let was = c.loop-worker.invariant in
    let left = All-pop (λ s. (s.share.amount ≡ 0) × (s.watch ≡ [])) c.loop-worker.seats.items c.pop.new.self.items (Some c.in-Some.seat) c.in-Some.ensures.items was.1 in
    let fewer : length c.loop-worker.seats.items ≡ length c.pop.new.self.items + 1 = ap length c.in-Some.ensures.items ∙ length-append c.pop.new.self.items (c.in-Some.seat ∷ []) in
    let more : length c.push_reserved.new.self.items ≡ length c.loop-worker.crew.items + 1 = ap length c.push_reserved.ensures.items ∙ length-append c.loop-worker.crew.items (c.in_ok-handle.handle ∷ []) in
    let own = c.in_ok-handle.ensures.ok in (
      omega (arith, was.0, fewer),
      left.0,
      omega (arith, was.2, more),
      c.push_reserved.ensures.capacity ∙ was.3,
      λ k d low. pushed (λ i h. IsShare c.args.events.now c.len-workers.result i h.promise.0) c.loop-worker.crew.items c.push_reserved.new.self.items c.in_ok-handle.handle c.push_reserved.ensures.items
          (λ i e small. was.4 i e (omega (arith, small, was.2)))
          (record { events_are = ap (λ p. p.0.events.now) own; workers_are = ap (λ p. p.0.workers) own; worker_is = ap (λ p. p.0.worker) own ∙ sym was.2 })
          k d (omega (arith, low, was.2)),
    )
