-- What the runs of seeds come to.
use Rattle.std.specs.Prelude.{◌≡◌, ◌≢◌, ℕ, Bool, List, [], Option, Some, Result, Err, IfOk}
use Rattle.std.specs.Io.KnownBytes.{Appends}
use Rattle.plant_model.specs.Plant.{PlantDefinition}
use Rattle.plant_model.specs.Step.{initial_states}
use Rattle.run_text.specs.History.{History}
use Rattle.run_text.specs.Picks.{PickDefinition}
use Rattle.run_text.specs.Ran.{IfRan, OnRan}
use Rattle.run_text.specs.Runs.{refusal_of}
use Rattle.run_text.specs.Watched.{Held, reached_by}
use Rattle.run_text.specs.declared.fault.TraceFault.{TraceFault}
use Rattle.run_text.specs.declared.fault.TraceFault.TheVariants.{Memory}
use Rattle.run_text.specs.declared.watching.Reached.{Reached}
use Rattle.run_summary.specs.Totals.{Totals, totals_of}
use Rattle.run_tallies.specs.Lines.{run_lines}
use Rattle.run_tallies.specs.SeedRuns.{first_bad, refusal_among, seed_lines, seeds_run, told_by_seeds}
use Rattle.run_tallies.specs.Tally.{told_by}

-- The run of a seed by these picks was made, and ended so. What its writer has taken was `before` and is `after` now; what was fired in numbers was `was` and is `now`.
pub record IsMade (several : Bool) (held : Held) (plant : PlantDefinition) (picks : List PickDefinition) (seed : ℕ) (was now : Totals) (ended : Result (Option Reached) TraceFault)
    (before after : Option (List ℕ)) : Type 0 where
  pub refusal : IfRan ended (λ refusal. refusal ≡ refusal_of plant picks)
  pub reached : IfOk ended (λ reached. reached ≡ reached_by held plant (initial_states plant) picks)
  pub printed : OnRan ended (Appends before after (run_lines (Some seed) several held plant picks))
  pub counted : (told : History) → was ≡ totals_of plant told → OnRan ended (now ≡ totals_of plant (told_by plant picks told))
  pub no_memory : ended ≢ Err Memory

-- The runs of seeds by these picks were made, and ended so: all of them, or those up to the first pick that is refused. What was fired in all is `now`.
pub record AreMade (several : Bool) (bad : List Bool) (held : Held) (plant : PlantDefinition) (picks : ℕ → List PickDefinition) (seeds : List ℕ) (now : Totals)
    (ended : Result (Option ℕ) TraceFault) (before after : Option (List ℕ)) : Type 0 where
  pub refusal : IfRan ended (λ refusal. refusal ≡ refusal_among plant picks seeds)
  pub found : IfOk ended (λ found. found ≡ first_bad bad held plant picks seeds)
  pub printed : OnRan ended (Appends before after (seed_lines plant picks several held (seeds_run plant picks seeds)))
  pub counted : OnRan ended (now ≡ totals_of plant (told_by_seeds plant picks (seeds_run plant picks seeds) []))
  pub no_memory : ended ≢ Err Memory
