-- What is printed of a run that is counted, but for its summary.
use Rattle.std.specs.Prelude.{ℕ, ◌+◌, ◌-◌, Bool, if◌then◌else◌, List, [], ◌++◌, codes, decimal, Option, None, Some}
use Rattle.std.specs.Option.{option_map_or}
use Rattle.plant_model.specs.Plant.{PlantDefinition}
use Rattle.text_io.specs.declared.format.Format.TheVariants.{Lines}
use Rattle.run_text.specs.Format.{stuck_text}
use Rattle.run_text.specs.Picks.{PickDefinition}
use Rattle.run_text.specs.Steps.{Parts, run_printed}
use Rattle.run_text.specs.Stuck.{is_by_weights}
use Rattle.run_text.specs.Watched.{Held}

-- what stands before a line of a run: its seed, if it has one
abbrev pub seed_text : Option ℕ → List ℕ
seed_text None = []
seed_text (Some seed) = codes "seed " ++ decimal seed ++ codes " "

-- the place of a watch, from 1, if there are several
abbrev pub by_text : Bool → ℕ → List ℕ
by_text several watch = if several then codes " by " ++ decimal (watch + 1) else []

-- the line of a run that ended after so many fired interactions, since what is watched at a place holds there
abbrev pub reached_line : Option ℕ → Bool → ℕ → ℕ → List ℕ
reached_line seed several fired watch = seed_text seed ++ codes "reached " ++ decimal fired ++ by_text several watch ++ codes "\n"

-- The line of a run that gets stuck, and that of a run that ends where something holds for which it is watched. Nothing else is printed: neither of its start
-- nor of what is fired. The number that comes next at the end is one more than there were fired.
abbrev pub tally_parts : Option ℕ → Bool → Held → Parts
tally_parts seed several held = record {
  start = λ plant states. [];
  fired = λ plant states number c. [];
  stuck = λ plant states. seed_text seed ++ stuck_text Lines (is_by_weights plant states);
  end = λ plant states number. option_map_or (reached_line seed several (number - 1)) (held plant states) [];
}

-- the lines of a run by picks
abbrev pub run_lines : Option ℕ → Bool → Held → PlantDefinition → List PickDefinition → List ℕ
run_lines seed several held = run_printed (tally_parts seed several held)
