use Rattle.std.proofs.Common.{◌≡◌, map, take}
use Rattle.plant_core.specs.Marks.{participation_in}
use Rattle.plant_core.proofs.marks.add_participants.Given as goal

abbrev pub invariant-loop-place : goal.invariant-loop-place
invariant-loop-place g l = l.mark ≡ record l.fn.mark { participations = map participation_in (take l.place (g.E.EntrySource.entries l.entries)) }
