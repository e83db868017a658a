use Rattle.std.proofs.Common.{◌≡◌, ◌<◌, ◌∙◌, ◌+◌, ◌-◌, ap, arith, refl, subst}
use Rattle.std.specs.Prelude.{Option, Result, Ok, Err}
use Rattle.std.specs.List.{range_with_len}
use Rattle.plant_model.specs.Plant.{PlantDefinition}
use Rattle.run_text.specs.declared.fault.TraceFault.{TraceFault}
use Rattle.run_text.specs.declared.watching.Reached.{Reached}
use Rattle.step_core.specs.Running.{plant_in}
use Rattle.run_tallies.specs.Made.{IsMade}
use Rattle.run_tallies.specs.Seeds.{number_of, seeds_in}
use Rattle.run_tallies.specs.SeedRuns.{seed_picks}
use Rattle.run_tallies.proofs.Going.{made-all, made-faulty, seeds-from, seeds-past, stands-first, stands-next}
use Rattle.run_tallies.proofs.seed_runs.run_seeds.Goals as goal

pub loop-place-init : goal.loop-place-init
loop-place-init g c =
    let runs = c.args.runs.now in
    let held = g.V.Watching.held runs.watching.now in
    let plant = plant_in c.args.run.now in
    let first : c.args.seeds.first + 0 ≡ c.args.seeds.first = omega arith in
    let number : number_of c.args.seeds - 0 ≡ number_of c.args.seeds = omega arith in
    let start : range_with_len (c.args.seeds.first + 0) (number_of c.args.seeds - 0) ≡ seeds_in c.args.seeds =
    ap (λ n. range_with_len n (number_of c.args.seeds - 0)) first ∙ ap (range_with_len c.args.seeds.first) number in
    record {
      plant = refl;
      stands = stands-first runs.several c.args.is_bad.now held plant (seed_picks runs.weights held plant runs.count) (seeds_in c.args.seeds) (g.W.Write.contents c.args.output.now) c.args.summary (range_with_len (c.args.seeds.first + 0) (number_of c.args.seeds - 0)) start c.requires;
    }

pub loop-place-preserved : goal.loop-place-preserved
loop-place-preserved g c =
    let l = c.loop-place in
    let runs = c.args.runs.now in
    let held = g.V.Watching.held runs.watching.now in
    let plant = plant_in c.args.run.now in
    let picks = seed_picks runs.weights held plant runs.count in
    let first = c.args.seeds.first in
    let number = number_of c.args.seeds in
    let seed = first + l.place in
    let now = g.W.Write.contents l.output in
    let after = g.W.Write.contents c.run_seed-more.new.output in
    let summary = c.run_seed-more.result.0 in
    let reached = c.in-Ok.reached in
    let within : l.place < number = omega (arith, c.loop-place-test.true, c.number-place-end.ensures) in
    let made : IsMade runs.several held plant (picks seed) seed l.summary summary (Ok reached) now after =
    subst (λ (ended : Result (Option Reached) TraceFault). IsMade runs.several held plant (picks seed) seed l.summary summary ended now after) c.in-Ok.is
    (subst (λ (p : PlantDefinition). IsMade runs.several held p (seed_picks runs.weights held p runs.count seed) seed l.summary summary c.run_seed-more.result.1 now after) l.invariant.plant c.run_seed-more.ensures.made) in
    record {
      plant = c.run_seed-more.ensures.plant ∙ l.invariant.plant;
      stands = stands-next runs.several c.args.is_bad.now held plant picks (seeds_in c.args.seeds) (g.W.Write.contents c.args.output.now) now after l.found c.found_after-found.result l.summary summary
          (range_with_len (first + l.place) (number - l.place)) (range_with_len (first + (l.place + 1)) (number - (l.place + 1))) seed reached c.is_bad_end.result
          (seeds-from first number l.place within) l.invariant.stands made
          c.found_after-found.ensures c.is_bad_end.ensures;
    }

pub returns-in-Err : goal.returns-in-Err
returns-in-Err g c =
    let l = c.loop-place in
    let runs = c.args.runs.now in
    let held = g.V.Watching.held runs.watching.now in
    let plant = plant_in c.args.run.now in
    let picks = seed_picks runs.weights held plant runs.count in
    let first = c.args.seeds.first in
    let number = number_of c.args.seeds in
    let seed = first + l.place in
    let now = g.W.Write.contents l.output in
    let after = g.W.Write.contents c.run_seed-more.new.output in
    let summary = c.run_seed-more.result.0 in
    let fault = c.in-Err.fault in
    let within : l.place < number = omega (arith, c.loop-place-test.true, c.number-place-end.ensures) in
    let made : IsMade runs.several held plant (picks seed) seed l.summary summary (Err fault) now after =
    subst (λ (ended : Result (Option Reached) TraceFault). IsMade runs.several held plant (picks seed) seed l.summary summary ended now after) c.in-Err.is
    (subst (λ (p : PlantDefinition). IsMade runs.several held p (seed_picks runs.weights held p runs.count seed) seed l.summary summary c.run_seed-more.result.1 now after) l.invariant.plant c.run_seed-more.ensures.made) in
    made-faulty runs.several c.args.is_bad.now held plant picks (seeds_in c.args.seeds) (g.W.Write.contents c.args.output.now) now after l.found l.summary summary
    (range_with_len (first + l.place) (number - l.place)) (range_with_len (first + (l.place + 1)) (number - (l.place + 1))) seed fault
    (seeds-from first number l.place within) l.invariant.stands made

pub returns : goal.returns
returns g c =
    let l = c.loop-place in
    let runs = c.args.runs.now in
    let held = g.V.Watching.held runs.watching.now in
    let plant = plant_in c.args.run.now in
    let picks = seed_picks runs.weights held plant runs.count in
    let first = c.args.seeds.first in
    let number = number_of c.args.seeds in
    let none : number - l.place ≡ 0 = omega (arith, c.loop-place-test.false, c.number-place-end.ensures, c.loop-place.auto.place-end) in
    made-all runs.several c.args.is_bad.now held plant picks (seeds_in c.args.seeds) (g.W.Write.contents c.args.output.now) (g.W.Write.contents l.output) l.found l.summary
    (range_with_len (first + l.place) (number - l.place)) (seeds-past first number l.place none) l.invariant.stands
