-- The choices of a state as they are listed.
use Rattle.std.proofs.Common.{◌≡◌, ◌-◌, ◌<◌, ◌∙◌, ap, arith, List, [], ◌∷◌, ◌++◌, length, take, min}
use Rattle.std.proofs.lemmas.List.{take_min}
use Rattle.plant_model.specs.Plant.{PlantDefinition}
use Rattle.plant_model.specs.Choice.{ChoiceDefinition}
use Rattle.run_text.specs.declared.choices.TheConstants.{MOST_LISTED}
use Rattle.run_text.specs.Choices.{choice_text, choices_text, more_text}
use Rattle.text_io.specs.Numbered.{numbered}

-- as many are listed as there are, and 1,000 at most; then the others are counted
pub choices-listed : (plant : PlantDefinition) (all : List ChoiceDefinition) → 0 < length all
    → numbered (choice_text plant) 0 (take (min MOST_LISTED (length all)) all) ++ more_text (length all - min MOST_LISTED (length all)) ≡ choices_text plant all
choices-listed plant [] some = absurd (omega arith)
choices-listed plant (c ∷ cs) some =
    let fewer : length (c ∷ cs) - min MOST_LISTED (length (c ∷ cs)) ≡ length (c ∷ cs) - MOST_LISTED = omega arith in
    ap (λ listed. numbered (choice_text plant) 0 listed ++ more_text (length (c ∷ cs) - min MOST_LISTED (length (c ∷ cs)))) (take_min MOST_LISTED (c ∷ cs)) ∙
    ap (λ more. numbered (choice_text plant) 0 (take MOST_LISTED (c ∷ cs)) ++ more_text more) fewer
