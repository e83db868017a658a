use Rattle.std.proofs.Common.{◌≡◌, ◌++◌, map, take, drop}
use Rattle.kilnmace_c.specs.Looks.{participant_of}
use Rattle.kilnmace_c.proofs.looks.copy_moves.Given as goal

abbrev pub invariant-loop-place : goal.invariant-loop-place
invariant-loop-place l = l.moves ≡ map participant_of (take l.place l.fn.found) ++ drop l.place l.fn.moves
