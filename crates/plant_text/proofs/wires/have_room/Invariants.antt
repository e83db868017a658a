use Rattle.std.proofs.Common.{◌≡◌, ◌+◌, ◌*◌, ◌≤◌, drop}
use Rattle.plant_text.proofs.Counts.{count_of}
use Rattle.plant_text.proofs.wires.have_room.Given as goal

-- what is counted, and what is still to be counted, are all; and each adds at most what a length may be
abbrev pub invariant-loop-wire : goal.invariant-loop-wire
invariant-loop-wire l = record {
  counted : l.total + count_of (drop l.wire-index l.wires) ≡ l.more + count_of l.wires;
  small : l.total ≤ (l.wire-index + 1) * 18446744073709551616;
}
