use Rattle.std.proofs.Common.{◌≡◌, ◌==◌, take}
use Rattle.std.specs.Prelude.{None, find}
use Rattle.plant_model.proofs.transfers.find_move.Given as goal

-- no move so far is of the atom
abbrev pub invariant-loop-place : goal.invariant-loop-place
invariant-loop-place l = find (λ m. m.atom == l.atom) (take l.place l.moves) ≡ None
