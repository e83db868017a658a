-- What is drawn in the state after some picks.
use Rattle.std.proofs.Common.{◌≡◌, subst, List, ℕ, Option, Some, None}
use Rattle.std.specs.Prelude.{IfSome}
use Rattle.std.specs.Io.KnownBytes.{Appends}
use Rattle.petri_atom.specs.Local.{Local}
use Rattle.plant_model.specs.Plant.{PlantDefinition}
use Rattle.plant_model.specs.Step.{initial_states}
use Rattle.run_text.specs.Picks.{PickDefinition}
use Rattle.run_text.specs.Runs.{state_after}
use Rattle.plant_tasks.specs.Drawn.{drawn_in, shown_in}
use Rattle.plant_tasks.specs.declared.drawing.Shown.{Shown}

-- what is drawn in the state of a plant that runs is what is drawn after the picks, where these are known
pub drawn_in_state : (shown : Shown) (left : Option (List PickDefinition)) (now plant : PlantDefinition) (states : List Local) (drawn : ℕ) (a b : Option (List ℕ)) →
    now ≡ plant → IfSome left (λ picks. states ≡ state_after plant (initial_states plant) picks) → Appends a b (shown_in shown now states drawn) →
    IfSome left (λ picks. Appends a b (drawn_in shown plant drawn picks))
drawn_in_state shown None now plant states drawn a b same there printed = tt
drawn_in_state shown (Some picks) now plant states drawn a b same there printed =
    subst (λ s. Appends a b (shown_in shown plant s drawn)) there (subst (λ p. Appends a b (shown_in shown p states drawn)) same printed)
