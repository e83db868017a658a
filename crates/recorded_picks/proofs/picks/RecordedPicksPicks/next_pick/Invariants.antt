use Rattle.std.proofs.Common.{◌-◌}
use Rattle.plant_model.specs.System.{plant_of}
use Rattle.recorded_picks.proofs.Lefts.{AreKept, picks_behind}
use Rattle.recorded_picks.proofs.picks.RecordedPicksPicks.next_pick.Given as goal

abbrev pub invariant-loop-self : goal.invariant-loop-self
invariant-loop-self g l = AreKept l.fn.self
    (picks_behind l.self-inside.numbers (plant_of l.self-inside.names.system.now) l.self-inside.lines (g.R.Read.remaining l.self-inside.reader))

abbrev pub decreases-loop-self : goal.decreases-loop-self
decreases-loop-self g l = 18446744073709551615 - l.self-inside.lines
