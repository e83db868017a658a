-- One run that is counted.
use Rattle.std.specs.Prelude.{ℕ, Bool, List, [], ◌++◌, Option, None}
use Rattle.plant_model.specs.Plant.{PlantDefinition}
use Rattle.plant_model.specs.Step.{initial_states}
use Rattle.run_text.specs.History.{History, told_after}
use Rattle.run_text.specs.Picks.{PickDefinition}
use Rattle.run_text.specs.Runs.{chosen}
use Rattle.run_text.specs.Watched.{Held}
use Rattle.run_summary.specs.Lines.{summary_text}
use Rattle.run_summary.specs.Totals.{totals_of}
use Rattle.run_tallies.specs.Lines.{run_lines}

-- what was fired after the run by these picks, where this was fired before it; the last first
abbrev pub told_by : PlantDefinition → List PickDefinition → History → History
told_by plant picks told = told_after plant (initial_states plant) (chosen plant (initial_states plant) 1 picks) told

-- the run by these picks, of which so many were asked for: its lines, and then all that it fired in numbers
abbrev pub tally_text : Option ℕ → Bool → Held → PlantDefinition → List PickDefinition → List ℕ
tally_text asked several held plant picks = run_lines None several held plant picks ++ summary_text plant asked (totals_of plant (told_by plant picks []))
