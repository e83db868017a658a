-- The watches of the seats as they come back hold what each worker asked, and one history begins with all of them.
use Rattle.worker_runs.proofs.Seen.{each-seen}
use Rattle.worker_runs.proofs.sharing.share_out.Goals as goal

pub returns-clause-shared : goal.returns-clause-shared
returns-clause-shared g c =
    let closed = c.in-Ok-close.ensures.history in
    record {
      history = closed.history;
      leads = closed.leads;
      each = each-seen g.N.Naming.plant g.N.Naming.view c.args.events.now closed.history c.in-Ok-ask_all.seats.items (λ s. s.watch) _ g.N.Naming.seats
          c.in-Ok-ask_all.ensures.len c.open-host.ensures.seats closed.known c.in-Ok-ask_all.ensures.each;
    }
