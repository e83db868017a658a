-- A run that is printed after what stands before it.
use Rattle.std.proofs.Common.{◌≡◌, ℕ, subst, List, ◌++◌}
use Rattle.std.specs.Prelude.{Option, Some, None, Result, Ok, Err, IfSome}
use Rattle.std.specs.Io.KnownBytes.{Appends}
use Rattle.std.proofs.KnownBytes.{Appends-trans}
use Rattle.petri_atom.specs.Local.{Local}
use Rattle.plant_model.specs.Plant.{PlantDefinition}
use Rattle.run_text.specs.Picks.{PickDefinition}
use Rattle.run_text.specs.Ran.{OnRan}
use Rattle.run_text.specs.declared.fault.TraceFault.{TraceFault}
use Rattle.run_text.specs.declared.fault.TraceFault.TheVariants.{Memory, Write, Read, Refused}

-- what follows from what holds where a run went, holds there
ran-follows : {X : Type 0} (result : Result X TraceFault) (P Q : Type 0) → (P → Q) → OnRan result P → OnRan result Q
ran-follows (Ok x) P Q follows holds = follows holds
ran-follows (Err Memory) P Q follows holds = tt
ran-follows (Err Write) P Q follows holds = tt
ran-follows (Err Read) P Q follows holds = tt
ran-follows (Err (Refused refusal)) P Q follows holds = follows holds

-- and what follows of picks that are known
known-follows : (known : Option (List PickDefinition)) (P Q : List PickDefinition → Type 0) → ((picks : List PickDefinition) → P picks → Q picks) → IfSome known P → IfSome known Q
known-follows None P Q follows holds = tt
known-follows (Some picks) P Q follows holds = follows picks holds

-- so a run's text comes after a text that is printed first
pub printed-after : {X : Type 0} (result : Result X TraceFault) (known : Option (List PickDefinition)) (start now after : Option (List ℕ)) (head : List ℕ) (printed : List PickDefinition → List ℕ)
    → Appends start now head → OnRan result (IfSome known (λ left. Appends now after (printed left))) → OnRan result (IfSome known (λ left. Appends start after (head ++ printed left)))
printed-after result known start now after head printed first run =
    ran-follows result (IfSome known (λ left. Appends now after (printed left))) (IfSome known (λ left. Appends start after (head ++ printed left)))
    (known-follows known (λ left. Appends now after (printed left)) (λ left. Appends start after (head ++ printed left))
    (λ picks text. Appends-trans start now after head (printed picks) first text))
    run

-- what holds of a plant in a state holds of what it is known to be
pub holds-of : (P : PlantDefinition → List Local → Type 0) {plant known_plant : PlantDefinition} {states known_states : List Local}
    → plant ≡ known_plant → states ≡ known_states → P plant states → P known_plant known_states
holds-of P {plant} {known_plant} {states} {known_states} plant_is states_is holds = subst (P known_plant) states_is (subst (λ p. P p states) plant_is holds)
