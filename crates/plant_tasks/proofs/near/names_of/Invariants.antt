use Rattle.std.proofs.Common.{◌≡◌, map, take}
use Rattle.shown_fault.specs.Lent.{lists_of}
use Rattle.plant_tasks.proofs.near.names_of.Given as goal

-- the names of the connectors before this place
abbrev pub invariant-loop-wire : goal.invariant-loop-wire
invariant-loop-wire l = lists_of l.names.items ≡ map (λ w. w.name) (take l.wire-index l.wires)
