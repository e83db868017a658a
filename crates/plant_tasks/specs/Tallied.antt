-- The runs of a plant that are counted, as the words of the command line ask for them.
use Rattle.std.specs.Prelude.{◌≡◌, ℕ, Bool, List, [], length, map, is_some, option_map, IfOk, Option, None, Some, Result, Err}
use Rattle.std.specs.Io.KnownBytes.{Appends}
use Rattle.plant_model.specs.Plant.{PlantDefinition}
use Rattle.run_text.specs.Picks.{PickDefinition}
use Rattle.run_text.specs.Ran.{IfRan, OnRan}
use Rattle.run_text.specs.Runs.{refusal_of}
use Rattle.run_text.specs.Steps.{saved_in}
use Rattle.run_text.specs.declared.fault.Refusal.{Refusal}
use Rattle.run_text.specs.declared.fault.TraceFault.{TraceFault}
use Rattle.run_text.specs.declared.fault.TraceFault.TheVariants.{Memory}
use Rattle.run_tallies.specs.SeedRuns.{first_bad, refusal_among, seed_picks, seeds_text}
use Rattle.run_tallies.specs.Seeds.{seeds_in}
use Rattle.run_tallies.specs.Tally.{tally_text}
use Rattle.run_tallies.specs.declared.seeds.Seeds.{Seeds as RunSeeds}
use Rattle.command_line.specs.declared.request.Picking.{Picking}
use Rattle.command_line.specs.declared.request.Picking.TheVariants.{Given, Recorded, Random}
use Rattle.command_line.specs.declared.request.Runs.{Runs}
use Rattle.command_line.specs.declared.request.Runs.TheVariants as runs
use Rattle.command_line.specs.declared.request.Seeds.{Seeds}
use Rattle.command_line.specs.declared.request.Tally.{Tally}
use Rattle.command_line.specs.declared.request.WatchWords.{WatchWords}
use Rattle.plant_tasks.specs.Reached.{are_several}
use Rattle.plant_tasks.specs.Traced.{ends_held, picks_watched}
use Rattle.plant_tasks.specs.Watches.{held_in, is_never}
use Rattle.plant_tasks.specs.Weights.{weights_said}

-- how many picks a run is asked for, where that is known: of a text nobody knows how many it has
abbrev pub count_asked : Picking → Option ℕ
count_asked (Given picks numbers) = Some (length picks.items)
count_asked (Recorded path numbers count seed) = None
count_asked (Random count seed) = Some count

-- the seeds for which runs are asked
abbrev pub seeds_of : Seeds → RunSeeds
seeds_of seeds = record { count = seeds.count; first = seeds.first; last = seeds.last }

-- of each of the words, whether it must not hold
abbrev pub nevers_in : List WatchWords → List Bool
nevers_in words = map (λ one. is_never one.kind) words

-- the picks by which one run goes
abbrev pub picks_counted : Tally → Picking → PlantDefinition → Option (List ℕ) → Option (List PickDefinition)
picks_counted tally = picks_watched tally.watches.items tally.weights.items

-- the picks by which the run of a seed goes
abbrev pub picks_by_seed : Tally → RunSeeds → PlantDefinition → ℕ → List PickDefinition
picks_by_seed tally seeds plant = seed_picks (weights_said plant tally.weights.items) (held_in plant tally.watches.items) plant seeds.count

-- what is printed of one run
abbrev pub run_counted : Tally → Picking → PlantDefinition → List PickDefinition → List ℕ
run_counted tally picking plant = tally_text (count_asked picking) (are_several tally.watches.items) (held_in plant tally.watches.items) plant

-- what is printed of the runs of seeds
abbrev pub seeds_counted : Tally → RunSeeds → PlantDefinition → List ℕ
seeds_counted tally seeds plant = seeds_text seeds (weights_said plant tally.weights.items) (are_several tally.watches.items) (held_in plant tally.watches.items) plant

-- the first seed whose run comes to what must not hold, if one does
abbrev pub seed_held : Tally → RunSeeds → PlantDefinition → Option ℕ
seed_held tally seeds plant =
    first_bad (nevers_in tally.watches.items) (held_in plant tally.watches.items) plant (picks_by_seed tally seeds plant) (seeds_in seeds)

-- what is printed of runs
abbrev pub tally_printed : Runs → Tally → PlantDefinition → Option (List ℕ) → Option (List ℕ)
tally_printed (runs.One picking) tally plant input = option_map (run_counted tally picking plant) (picks_counted tally picking plant input)
tally_printed (runs.Seeds seeds) tally plant input = Some (seeds_counted tally (seeds_of seeds) plant)

-- what is saved of them: of the runs of seeds nothing
abbrev pub tally_saved : Runs → Tally → PlantDefinition → Option (List ℕ) → Option (List ℕ)
tally_saved (runs.One picking) tally plant input = option_map (saved_in plant) (picks_counted tally picking plant input)
tally_saved (runs.Seeds seeds) tally plant input = Some []

-- the first pick that is refused in them, if one is
abbrev pub tally_refusal : Runs → Tally → PlantDefinition → Option (List ℕ) → Option (Option Refusal)
tally_refusal (runs.One picking) tally plant input = option_map (refusal_of plant) (picks_counted tally picking plant input)
tally_refusal (runs.Seeds seeds) tally plant input = Some (refusal_among plant (picks_by_seed tally (seeds_of seeds) plant) (seeds_in (seeds_of seeds)))

-- whether one of them comes to what must not hold
abbrev pub tally_held : Runs → Tally → PlantDefinition → Option (List ℕ) → Option Bool
tally_held (runs.One picking) tally plant input = option_map (ends_held tally.watches.items plant) (picks_counted tally picking plant input)
tally_held (runs.Seeds seeds) tally plant input = Some (is_some (seed_held tally (seeds_of seeds) plant))

-- Runs of seeds were made and counted, of a plant that was read: what they print was printed, up to the first pick that is refused, and no other is named as
-- refused. The answer is the first seed whose run came to what must not hold. If memory was lacking, nothing was printed.
pub record AreCounted {W : Type 0} (taken : W → Option (List ℕ)) (tally : Tally) (seeds : RunSeeds) (plant : PlantDefinition) (result : Result (Option ℕ) TraceFault)
    (before after : W) : Type 0 where
  pub printed : OnRan result (Appends (taken before) (taken after) (seeds_counted tally seeds plant))
  pub refusal : IfRan result (λ refusal. refusal ≡ refusal_among plant (picks_by_seed tally seeds plant) (seeds_in seeds))
  pub held : IfOk result (λ seed. seed ≡ seed_held tally seeds plant)
  pub nothing_printed : result ≡ Err Memory → after ≡ before
