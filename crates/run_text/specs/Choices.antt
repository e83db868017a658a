-- The list of what can be fired next.
use Rattle.std.specs.Prelude.{ℕ, ◌-◌, ◌==◌, if◌then◌else◌, List, [], ◌∷◌, ◌++◌, length, take, codes, decimal}
use Rattle.plant_model.specs.Plant.{PlantDefinition}
use Rattle.plant_model.specs.Choice.{ChoiceDefinition, choices}
use Rattle.plant_model.specs.Step.{initial_states}
use Rattle.run_text.specs.declared.choices.TheConstants.{MOST_LISTED}
use Rattle.run_text.specs.Line.{fired_line}
use Rattle.text_io.specs.Numbered.{numbered}
use Rattle.run_text.specs.Picks.{PickDefinition}
use Rattle.run_text.specs.Runs.{state_after}

-- a choice on a line, after its place in the list
abbrev pub choice_text : PlantDefinition → ℕ → ChoiceDefinition → List ℕ
choice_text plant place c = fired_line plant place c ++ codes "\n"

-- how many more choices there are than are listed, if there are any
abbrev pub more_text : ℕ → List ℕ
more_text more = if more == 0 then [] else codes "more " ++ decimal more ++ codes "\n"

-- the choices of a state, the first 1,000 each on a line, and then how many more there are; `stuck` if there is none
abbrev pub choices_text : PlantDefinition → List ChoiceDefinition → List ℕ
choices_text plant [] = codes "stuck\n"
choices_text plant (c ∷ cs) =
    numbered (choice_text plant) 0 (take MOST_LISTED (c ∷ cs)) ++ more_text (length (c ∷ cs) - MOST_LISTED)

-- the choices that a plant has after some picks, from its first states on
abbrev pub choices_after : PlantDefinition → List PickDefinition → List ℕ
choices_after plant picks = choices_text plant (choices plant (state_after plant (initial_states plant) picks))
