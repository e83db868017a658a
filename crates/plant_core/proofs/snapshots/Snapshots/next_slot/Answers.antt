use Rattle.std.proofs.Common.{rules, ◌≡◌, Some}
use Rattle.plant_core.specs.Snapshots.{next_slot}
use Rattle.plant_core.proofs.snapshots.Snapshots.next_slot.Goals as goal

pub returns-in-Some-Some-clause-in_range : goal.returns-in-Some-Some-clause-in_range
returns-in-Some-Some-clause-in_range c =
    let known : next_slot c.self.inside.next_slots.items c.args.atom ≡ Some c.in-Some-Some.slot = search rules in
    c.self.invariant.slots c.args.atom c.in-Some-Some.slot known
