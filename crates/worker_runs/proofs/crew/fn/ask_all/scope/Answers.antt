use Rattle.worker_runs.proofs.Seen.{all-asked}
use Rattle.worker_runs.proofs.crew.fn.ask_all.scope.Goals as goal

pub returns : goal.returns
returns g c =
    all-asked g.N.Naming.plant g.N.Naming.view c.captures.events.now c.join_all.result (λ v. v.items) (λ s. s.watch) c.in_ok-crew-2.crew.items (λ h. h.promise.0) _
    c.in_ok-crew-2.ensures.len c.in_ok-crew-2.ensures.each c.join_all.ensures.len c.join_all.ensures.each
