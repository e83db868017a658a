use Rattle.std.proofs.Common.{◌<◌, arith, length}
use Rattle.step_core.proofs.Queued.{last-item}
use Rattle.step_core.proofs.queue.Queue.put.Goals as goal

pub returns-clause-items : goal.returns-clause-items
returns-clause-items g c =
    let within : c.args.place < length c.args.self.now.places = omega arith in
    last-item c.args.self.now.places c.args.place c.args.item within c.requires.free
