use Rattle.std.proofs.Common.{◌≡◌, rules}
use Rattle.plant_core.specs.Snapshots.{held_at}
use Rattle.plant_core.proofs.Copies.{own-held}
use Rattle.plant_core.proofs.hands.Hands.take.Goals as goal

pub returns-clause-own : goal.returns-clause-own
returns-clause-own c =
    let self = c.args.self.now in
    let found : c.take.result ≡ held_at self.held.items c.args.atom = search rules in
    own-held self.held.items c.args.atom c.take.result self.own found
