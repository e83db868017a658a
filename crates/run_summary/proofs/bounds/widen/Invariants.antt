-- The bounds below this number are widened.
use Rattle.std.proofs.Common.{◌≡◌, ◌++◌, drop, length, take}
use Rattle.run_summary.specs.Bounds.{widened_from}
use Rattle.run_summary.proofs.bounds.widen.Given as goal

abbrev pub invariant-loop-number : goal.invariant-loop-number
invariant-loop-number l = record {
  as_many : length l.bounds.items ≡ length l.initial.bounds.items;
  so_far : take l.number l.bounds.items ++ widened_from l.number (drop l.number l.bounds.items) l.values ≡ widened_from 0 l.initial.bounds.items l.values;
}
