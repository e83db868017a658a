use Rattle.std.proofs.Common.{◌≡◌, map, take}
use Rattle.std.specs.List.{range_with_len}
use Rattle.gated_journal.specs.Live.{place}
use Rattle.gated_journal.proofs.ring.write_places.Given as goal

-- the first places are written
abbrev pub invariant-loop-i : goal.invariant-loop-i
invariant-loop-i l = take l.i l.places ≡ map (place l.ring) (range_with_len l.first l.i)
