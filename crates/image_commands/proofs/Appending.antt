-- What a writer took, where it is known.
use Rattle.std.proofs.Common.{◌≡◌, ◌∙◌, subst, List, ℕ, Option, Some, None}
use Rattle.std.specs.Io.KnownBytes.{Appends, Keeps}
use Rattle.plant_model.specs.Plant.{PlantDefinition}
use Rattle.plant_core.specs.View.{View}
use Rattle.script_lines.specs.Answers.{standing_text}

-- what was appended stays so where the bytes are kept
pub appended_and_kept : (a b c : Option (List ℕ)) (text : List ℕ) → Appends a b text → Keeps b c → Appends a c text
appended_and_kept None b c text appended kept = tt
appended_and_kept (Some xs) None c text appended kept = absurd appended
appended_and_kept (Some xs) (Some ys) None text appended kept = absurd kept
appended_and_kept (Some xs) (Some ys) (Some zs) text appended kept = kept ∙ appended

-- where a plant stands that was appended stays so, for the same plant by another name
pub standing_and_kept : (a b c : Option (List ℕ)) (p q : PlantDefinition) (v : View) → p ≡ q → Appends a b (standing_text p v) → Keeps b c →
    Appends a c (standing_text q v)
standing_and_kept a b c p q v same appended kept =
    appended_and_kept a b c (standing_text q v) (subst (λ plant. Appends a b (standing_text plant v)) same appended) kept
