-- A run for each seed, all counted into one summary.
use Rattle.std.specs.Prelude.{ℕ, Bool, false, if◌then◌else◌, List, [], ◌∷◌, ◌++◌, flat_map, slice_get, Option, None, Some}
use Rattle.std.specs.Option.{option_map_or, option_or}
use Rattle.plant_model.specs.Plant.{PlantDefinition}
use Rattle.plant_model.specs.Step.{initial_states}
use Rattle.run_text.specs.History.{History}
use Rattle.run_text.specs.Picks.{PickDefinition}
use Rattle.run_text.specs.Runs.{refusal_of}
use Rattle.run_text.specs.Watched.{Held, picks_until, reached_by}
use Rattle.run_text.specs.declared.fault.Refusal.{Refusal}
use Rattle.run_text.specs.declared.watching.Reached.{Reached}
use Rattle.run_summary.specs.Lines.{summary_text}
use Rattle.run_summary.specs.Totals.{totals_of}
use Rattle.run_tallies.specs.Lines.{run_lines}
use Rattle.run_tallies.specs.Seeds.{asked_of, random_run, seeds_in}
use Rattle.run_tallies.specs.Tally.{told_by}
use Rattle.run_tallies.specs.declared.seeds.Seeds.{Seeds}

-- the picks by which the run of a seed goes that is watched: so many random ones, or those before the first state in which something holds
abbrev pub seed_picks : Option (List ℕ) → Held → PlantDefinition → ℕ → ℕ → List PickDefinition
seed_picks weights held plant count seed = picks_until held plant (initial_states plant) 1 (random_run weights count seed)

-- The runs of seeds, one after another. The picks of each are known.
module _ (plant : PlantDefinition) (picks : ℕ → List PickDefinition) where
  -- the first pick that is refused in them, if one is
  abbrev pub refusal_among : List ℕ → Option Refusal
  refusal_among [] = None
  refusal_among (seed ∷ seeds) = option_or (refusal_of plant (picks seed)) (refusal_among seeds)

  -- the seeds whose runs are made: all, or where a pick is refused those up to the one in whose run it is
  abbrev pub seeds_run : List ℕ → List ℕ
  seeds_run [] = []
  seeds_run (seed ∷ seeds) = seed ∷ option_map_or (λ refusal. []) (refusal_of plant (picks seed)) (seeds_run seeds)

  -- what was fired after these runs, where this was fired before them; the last first
  abbrev pub told_by_seeds : List ℕ → History → History
  told_by_seeds [] told = told
  told_by_seeds (seed ∷ seeds) told = told_by_seeds seeds (told_by plant (picks seed) told)

  -- the lines of these runs
  abbrev pub seed_lines : Bool → Held → List ℕ → List ℕ
  seed_lines several held seeds = flat_map (λ seed. run_lines (Some seed) several held plant (picks seed)) seeds

-- a place in a list of truth values is marked
abbrev pub is_marked_in : List Bool → ℕ → Bool
is_marked_in bad place = option_map_or (λ marked. marked) (slice_get bad place) false

-- a run ended by what is watched at a place that is marked
abbrev pub is_bad_end : List Bool → Option Reached → Bool
is_bad_end bad None = false
is_bad_end bad (Some reached) = is_marked_in bad reached.watch

-- the first of seeds whose run ended so
abbrev pub first_bad : List Bool → Held → PlantDefinition → (ℕ → List PickDefinition) → List ℕ → Option ℕ
first_bad bad held plant picks [] = None
first_bad bad held plant picks (seed ∷ seeds) =
    if is_bad_end bad (reached_by held plant (initial_states plant) (picks seed)) then Some seed else first_bad bad held plant picks seeds

-- the runs of seeds that are made: their lines, and then all that they fired in numbers
abbrev pub runs_text : Option ℕ → Bool → Held → PlantDefinition → (ℕ → List PickDefinition) → List ℕ → List ℕ
runs_text asked several held plant picks seeds =
    seed_lines plant picks several held seeds ++ summary_text plant asked (totals_of plant (told_by_seeds plant picks seeds []))

-- the same of random picks, by weights where they are given
abbrev pub seeds_text : Seeds → Option (List ℕ) → Bool → Held → PlantDefinition → List ℕ
seeds_text seeds weights several held plant =
    let picks = seed_picks weights held plant seeds.count in
    runs_text (Some (asked_of seeds)) several held plant picks (seeds_run plant picks (seeds_in seeds))
