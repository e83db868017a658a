-- The seeds from this place on are left.
use Rattle.std.proofs.Common.{◌≡◌, ◌+◌, ◌-◌}
use Rattle.std.specs.List.{range_with_len}
use Rattle.step_core.specs.Running.{plant_in}
use Rattle.run_tallies.specs.Seeds.{number_of, seeds_in}
use Rattle.run_tallies.specs.SeedRuns.{seed_picks}
use Rattle.run_tallies.proofs.Going.{StandsAt}
use Rattle.run_tallies.proofs.seed_runs.run_seeds.Given as goal

abbrev pub invariant-loop-place : goal.invariant-loop-place
invariant-loop-place g l = record {
  plant : plant_in l.run ≡ plant_in l.initial.run;
  stands : StandsAt l.runs.several l.is_bad (g.V.Watching.held l.runs.watching.now) (plant_in l.initial.run)
      (seed_picks l.runs.weights (g.V.Watching.held l.runs.watching.now) (plant_in l.initial.run) l.runs.count) (seeds_in l.seeds)
      (g.W.Write.contents l.initial.output) (g.W.Write.contents l.output) l.found l.summary (range_with_len (l.seeds.first + l.place) (number_of l.seeds - l.place));
}
