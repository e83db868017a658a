use Rattle.std.proofs.Common.{◌≡◌, take}
use Rattle.plant_tasks.specs.Tallied.{nevers_in}
use Rattle.plant_tasks.proofs.tallies.nevers_in.Given as goal

-- the words before this place are told of
abbrev pub invariant-loop-one : goal.invariant-loop-one
invariant-loop-one l = l.nevers.items ≡ nevers_in (take l.one-index l.words)
