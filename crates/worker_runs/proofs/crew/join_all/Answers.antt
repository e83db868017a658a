use Rattle.std.proofs.Common.{rules, ◌≡◌, ◌∙◌, ap, sym, subst, ℕ, ◌+◌, ◌∷◌, [], get_or, length, length-append, arith}
use Rattle.std.specs.Vec.Iter.{into_iter_items, into_iter_len}
use Rattle.worker_runs.specs.Shares.{HasAsked}
use Rattle.worker_runs.proofs.Growing.{pushed}
use Rattle.worker_runs.proofs.crew.join_all.Goals as goal

pub loop-worker-preserved : goal.loop-worker-preserved
loop-worker-preserved g c =
    let was = c.loop-worker.invariant in
    let step = c.in-Some.ensures.steps in
    let done = length c.loop-worker.seats.items in
    let crew = c.args.crew.items in
    let more : length c.push_reserved.new.self.items ≡ done + 1 = ap length c.push_reserved.ensures.items ∙ length-append c.loop-worker.seats.items (c.in-Some-join.seat ∷ []) in (
      search rules,
      c.push_reserved.ensures.capacity ∙ was.1,
      (λ k d low. let h = was.2 (k + 1) d in grind rules),
      λ k d e low.
          let own : c.in-Some.worker.promise ≡ (get_or crew done d).promise = let h = was.2 0 d in grind rules in
          pushed (λ i s. HasAsked g.N.Naming.plant g.N.Naming.view (get_or crew i d).promise.0 s.watch) c.loop-worker.seats.items c.push_reserved.new.self.items c.in-Some-join.seat c.push_reserved.ensures.items
          (λ i s small. was.3 i d s small)
          (subst (λ p. HasAsked g.N.Naming.plant g.N.Naming.view p.0 c.in-Some-join.seat.watch) own c.in-Some-join.ensures)
          k e (omega (arith, low, more)),
    )
