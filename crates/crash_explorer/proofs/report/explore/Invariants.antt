use Rattle.std.proofs.Common.{◌≡◌, ◌+◌, ◌*◌}
use Rattle.crash_explorer.specs.Exploring.{stops_of, trials_left}
use Rattle.crash_explorer.proofs.report.explore.Given as goal

abbrev pub decreases-loop-explorer : goal.decreases-loop-explorer
decreases-loop-explorer l = trials_left l.explorer

abbrev pub invariant-loop-explorer : goal.invariant-loop-explorer
invariant-loop-explorer l = record {
  stops : stops_of l.explorer ≡ stops_of l.initial.explorer;
  boots : l.boots + trials_left l.explorer ≡ 4 * stops_of l.explorer;
  bad : l.bad ≡ 0;
}
