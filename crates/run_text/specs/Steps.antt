-- What is printed of a run, and what is saved of it, step by step.
use Rattle.std.specs.Prelude.{ℕ, ◌+◌, List, [], ◌∷◌, ◌++◌, codes, flat_map}
use Rattle.petri_atom.specs.Local.{Local}
use Rattle.plant_model.specs.Plant.{PlantDefinition}
use Rattle.plant_model.specs.Choice.{ChoiceDefinition}
use Rattle.plant_model.specs.Step.{initial_states, next}
use Rattle.run_text.specs.Alone.{alone}
use Rattle.run_text.specs.Line.{interaction_line}
use Rattle.run_text.specs.Picks.{PickDefinition}
use Rattle.run_text.specs.Runs.{chosen}
use Rattle.run_text.specs.Taken.{by_taken, taken_as}

-- The texts of the parts of a run: of its start, in its first state; of a choice that is fired from a state, with its number; of a state from which
-- nothing is fired any more; and of the end, in its state, with the number that comes next.
pub record Parts : Type 0 where
  pub start : PlantDefinition → List Local → List ℕ
  pub fired : PlantDefinition → List Local → ℕ → ChoiceDefinition → List ℕ
  pub stuck : PlantDefinition → List Local → List ℕ
  pub end : PlantDefinition → List Local → ℕ → List ℕ

-- The run by picks from a state on, whose next fired interaction has this number: each choice that is taken is printed, until the picks end or nothing
-- is fired any more, which is printed; and then the end. After a pick that is refused nothing more is printed.
abbrev pub printed_from : Parts → PlantDefinition → List Local → ℕ → List PickDefinition → List ℕ
printed_from parts plant states number [] = parts.end plant states number
printed_from parts plant states number (pick ∷ picks) =
    by_taken (taken_as plant states number pick.take)
    (λ c. parts.fired plant states number c ++ printed_from parts plant (next plant states (alone c)) (number + 1) picks)
    (parts.stuck plant states ++ parts.end plant states number) (λ why. [])

-- the run of a plant from its first states on
abbrev pub run_printed : Parts → PlantDefinition → List PickDefinition → List ℕ
run_printed parts plant picks = parts.start plant (initial_states plant) ++ printed_from parts plant (initial_states plant) 1 picks

-- what is printed of choices that are fired one after another, of which the first has this number
abbrev pub steps_printed : Parts → PlantDefinition → List Local → ℕ → List ChoiceDefinition → List ℕ
steps_printed parts plant states number [] = []
steps_printed parts plant states number (c ∷ cs) = parts.fired plant states number c ++ steps_printed parts plant (next plant states (alone c)) (number + 1) cs

-- the line of a choice that is fired, as it is saved: it can be read as a pick
abbrev pub saved_line : PlantDefinition → ChoiceDefinition → List ℕ
saved_line plant c = interaction_line plant c ++ codes "\n"

-- the lines of the choices that picks take from a state on
abbrev pub saved_from : PlantDefinition → List Local → ℕ → List PickDefinition → List ℕ
saved_from plant states number picks = flat_map (saved_line plant) (chosen plant states number picks)

-- the same in the run of a plant from its first states on
abbrev pub saved_in : PlantDefinition → List PickDefinition → List ℕ
saved_in plant picks = saved_from plant (initial_states plant) 1 picks

-- nothing is printed
abbrev pub no_parts : Parts
no_parts = record { start = λ plant states. []; fired = λ plant states number c. []; stuck = λ plant states. []; end = λ plant states number. [] }
