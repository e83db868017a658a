-- The events from this place on are left.
use Rattle.worker_runs.proofs.Asking.{LeadsOn}
use Rattle.worker_runs.proofs.worker.ask_own.Given as goal

abbrev pub invariant-loop-place : goal.invariant-loop-place
invariant-loop-place g l = LeadsOn g.N.Naming.plant g.N.Naming.view l.workers l.worker l.events l.place l.initial.seat.watch l.seat.watch
