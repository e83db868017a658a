-- The states below this number are kept.
use Rattle.std.proofs.Common.{◌≡◌, length, take}
use Rattle.run_states.proofs.changes.copy_states.Given as goal

abbrev pub invariant-loop-number : goal.invariant-loop-number
invariant-loop-number l = record {
  as_many : length l.kept ≡ length l.states;
  same : take l.number l.kept ≡ take l.number l.states;
}
