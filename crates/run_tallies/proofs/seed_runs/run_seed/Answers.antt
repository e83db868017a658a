use Rattle.std.proofs.Common.{sym}
use Rattle.std.specs.Prelude.{Some}
use Rattle.step_core.specs.Running.{plant_in, states_in}
use Rattle.run_tallies.specs.Seeds.{random_run}
use Rattle.run_tallies.proofs.Making.{made-by}
use Rattle.run_tallies.proofs.seed_runs.run_seed.Goals as goal

pub returns-clause-made : goal.returns-clause-made
returns-clause-made g c =
    let runs = c.args.runs.now in
    let held = g.V.Watching.held runs.watching.now in
    let here = plant_in c.restart.new.run in
    let states = states_in c.restart.new.run in
    let drawn = c.random_run-picks.result in
    let ran = c.run_picks-ended.ensures in
    made-by runs.several held c.args.seed c.args.summary c.run_picks-ended.new.telling.summary (plant_in c.args.run.now) here states (random_run runs.weights runs.count c.args.seed) drawn
    (g.V.Watching.taken runs.watching.now here states (Some drawn)) c.run_picks-ended.result (g.W.Write.contents c.args.output.now) (g.W.Write.contents c.run_picks-ended.new.output)
    c.restart.ensures.plant c.restart.ensures.first c.random_run-picks.ensures (sym (g.met.V.Watching.taken_is runs.watching.now here states (Some drawn)))
    ran.refusal ran.reached ran.printed ran.ready ran.no_memory
