use Rattle.std.proofs.Common.{◌≡◌, ◌==◌, drop, find}
use Rattle.record_replay.proofs.replay.part_of.Given as goal

-- the entry is still to come
abbrev pub invariant-loop-entry : goal.invariant-loop-entry
invariant-loop-entry l =
    find (λ e. e.atom == l.number) (drop l.entry-index l.entries) ≡ find (λ e. e.atom == l.number) l.entries
