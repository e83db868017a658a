use Rattle.std.proofs.Common.{◌∙◌, ap, sym}
use Rattle.std.specs.Prelude.{option_map}
use Rattle.plant_model.specs.System.{plant_of}
use Rattle.run_text.specs.Picks.{random_picks}
use Rattle.recorded_picks.specs.Files.{picks_in}
use Rattle.recorded_picks.specs.Followed.{followed}
use Rattle.plant_tasks.specs.Picked.{picks_weighted, random_said}
use Rattle.plant_tasks.proofs.picks.picks_of.Goals as goal

pub returns-in_ok-recorded-in-Recorded : goal.returns-in_ok-recorded-in-Recorded
returns-in_ok-recorded-in-Recorded g c =
    let plant = plant_of c.args.system.now in
    let input = g.F.Read.remaining c.args.input in
    let here = c.in-Recorded in
    c.new-in-Recorded.ensures
    ∙ ap (λ more. followed more c.in_ok-recorded-in-Recorded.recorded) c.random_said-random.ensures
    ∙ ap (followed (random_said c.args.weights (random_picks here.seed here.count))) (c.in_ok-recorded-in-Recorded.ensures ∙ ap (λ n. option_map (picks_in n plant) input) c.numbers_of-in-Recorded.ensures)
    ∙ ap (λ picking. picks_weighted c.args.weights picking plant input) (sym here.is)
