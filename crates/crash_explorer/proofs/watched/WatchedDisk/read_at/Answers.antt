-- It only reads, so where a device was stopped it still is.
use Rattle.std.proofs.Common.{refl, sym, ◌∙◌}
use Rattle.std.proofs.Math.Logic.{∥∥₁_map}
use Rattle.crash_explorer.proofs.FirstFailures.{stopped-still}
use Rattle.crash_explorer.proofs.watched.WatchedDisk.read_at.Goals as goal

pub invariant_of-self-clause-stopped : goal.invariant_of-self-clause-stopped
invariant_of-self-clause-stopped c = λ cut is few same.
    let self = c.args.self.now in
    let rest = c.read_at.ensures.asked.rest in
    ∥∥₁_map (self.stopped cut is few (sym rest.changes ∙ same)) (stopped-still self.asked cut self.disk c.read_at.new.self (c.read_at.ensures.same refl) rest)
