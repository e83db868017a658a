use Rattle.std.proofs.Common.{rules}
use Rattle.worker_runs.proofs.Asking.{leads-past}
use Rattle.worker_runs.proofs.worker.ask_own.Goals as goal

pub loop-place-preserved : goal.loop-place-preserved
loop-place-preserved g c =
    leads-past g.N.Naming.plant g.N.Naming.view c.args.workers c.args.worker c.args.events.now c.loop-place.place _ _ _ _ (search rules) (search rules) c.take_turn.ensures c.loop-place.invariant
