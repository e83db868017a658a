-- It only reads, so where a device was stopped it still is.
use Rattle.std.proofs.Common.{refl, sym, ◌∙◌}
use Rattle.std.proofs.Math.Logic.{∥∥₁_map}
use Rattle.crash_explorer.proofs.FirstFailures.{stopped-still}
use Rattle.crash_explorer.proofs.watched.WatchedDisk.size.Goals as goal

pub invariant_of-self-clause-stopped : goal.invariant_of-self-clause-stopped
invariant_of-self-clause-stopped c = λ cut is few same.
    let self = c.args.self.now in
    let rest = c.size.ensures.asked.rest in
    ∥∥₁_map (self.stopped cut is few (sym rest.changes ∙ same)) (stopped-still self.asked cut self.disk c.size.new.self (c.size.ensures.same refl) rest)
