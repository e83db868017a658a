use Rattle.std.proofs.Common.{◌≡◌, ◌+◌, ◌*◌, ◌≤◌, List, length}
use Rattle.std.specs.Prelude.{flat_map, sum_by}
use Rattle.std.specs.Io.KnownBytes.{Appends}
use Rattle.plant_model.specs.System.{digest_of, plant_of}
use Rattle.crash_explorer.specs.Exploring.{IsExplorerOf, stops_of, trials_left}
use Rattle.crash_explorer.specs.declared.explorer.Trial.{Trial}
use Rattle.image_commands.specs.Trials.{AreTrialsFrom, listed_line, wrong_of}
use Rattle.image_commands.proofs.exploring.explore_plant.Given as goal

abbrev pub decreases-loop-explorer : goal.decreases-loop-explorer
decreases-loop-explorer g l = trials_left l.explorer

-- the trials that were made are the first ones, and their lines are printed
abbrev pub invariant-loop-explorer : goal.invariant-loop-explorer
invariant-loop-explorer g l = record {
  trials : List Trial;
  of_run : IsExplorerOf l.fn.system l.fn.ring l.fn.events l.explorer;
  stops : stops_of l.explorer ≡ stops_of l.initial.explorer;
  each : AreTrialsFrom (plant_of l.fn.system) (digest_of l.fn.system) l.fn.ring l.fn.events 0 trials;
  many : l.boots ≡ length trials;
  left : l.boots + trials_left l.explorer ≡ 4 * stops_of l.explorer;
  wrong : l.wrong ≡ sum_by wrong_of trials;
  few : l.wrong ≤ l.boots;
  printed : Appends (g.W.Write.contents l.fn.output) (g.W.Write.contents l.output) (flat_map (listed_line l.list) trials);
}
