use Rattle.std.proofs.Common.{◌≡◌, [], ap, subst}
use Rattle.std.specs.Prelude.{Some}
use Rattle.plant_model.specs.Plant.{PlantDefinition}
use Rattle.plant_model.specs.System.{plant_of}
use Rattle.run_summary.specs.Totals.{totals_of}
use Rattle.run_tallies.specs.Made.{AreMade}
use Rattle.run_tallies.specs.Seeds.{asked_of, seeds_in}
use Rattle.run_tallies.specs.SeedRuns.{first_bad, refusal_among, seed_lines, seed_picks, seeds_run, told_by_seeds}
use Rattle.run_tallies.proofs.Behind.{told-behind}
use Rattle.run_tallies.proofs.Following.{memory-unless, ok-unless, ran-unless}
use Rattle.run_tallies.proofs.seed_runs.tally_seeds.Goals as goal

pub returns : goal.returns
returns g c =
    let held = g.V.Watching.held c.args.watching.now in
    let plant = plant_of c.args.system.now in
    let weights = c.args.weights in
    let several = c.args.several in
    let seeds = c.args.seeds in
    let picks = seed_picks weights held plant seeds.count in
    let ran = c.run_seeds-summary.result.1 in
    let summary = c.run_seeds-summary.result.0 in
    let before = g.W.Write.contents c.args.output.now in
    let between = g.W.Write.contents c.run_seeds-summary.new.output in
    let made : AreMade several c.args.is_bad.now held plant picks (seeds_in seeds) summary ran before between =
    subst (λ (p : PlantDefinition). AreMade several c.args.is_bad.now held p (seed_picks weights held p seeds.count) (seeds_in seeds) summary ran before between) c.in_ok-run.ensures.plant c.run_seeds-summary.ensures in
    let behind = c.with_summary.ensures in
    record {
      printed = told-behind g.W.Write.contents plant (Some c.asked.result) (Some (asked_of seeds)) ran c.with_summary.result c.args.output.now c.run_seeds-summary.new.output c.with_summary.new.output
          (seed_lines plant picks several held (seeds_run plant picks (seeds_in seeds))) summary (totals_of plant (told_by_seeds plant picks (seeds_run plant picks (seeds_in seeds)) []))
          (ap (λ n. Some n) c.asked.ensures) made.printed made.counted behind;
      refusal = ran-unless ran c.with_summary.result (λ refusal. refusal ≡ refusal_among plant picks (seeds_in seeds)) behind.same made.refusal;
      bad = ok-unless ran c.with_summary.result (λ seed. seed ≡ first_bad c.args.is_bad.now held plant picks (seeds_in seeds)) behind.same made.found;
      nothing_printed = λ is. absurd (made.no_memory (memory-unless ran c.with_summary.result behind.same is));
    }
