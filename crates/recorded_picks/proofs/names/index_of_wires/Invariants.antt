use Rattle.std.proofs.Common.{◌≡◌, map, take}
use Rattle.recorded_picks.proofs.names.index_of_wires.Given as goal

abbrev pub invariant-loop-wire : goal.invariant-loop-wire
invariant-loop-wire l = l.names ≡ map (λ w. w.name) (take l.wire-index l.wires)
