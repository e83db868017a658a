-- The run that ends in the first state in which something holds for which it is watched.
use Rattle.std.specs.Prelude.{◌≡◌, ℕ, ◌+◌, ◌==◌, if◌then◌else◌, List, [], ◌∷◌, length, Option, Some, None, option_map, is_some}
use Rattle.std.proofs.Common.{ap, refl}
use Rattle.petri_atom.specs.Local.{Local}
use Rattle.plant_model.specs.Plant.{PlantDefinition}
use Rattle.plant_model.specs.Choice.{ChoiceDefinition, choices}
use Rattle.plant_model.specs.Step.{next}
use Rattle.run_text.specs.Alone.{alone}
use Rattle.run_text.specs.Picks.{PickDefinition, counted}
use Rattle.run_text.specs.Runs.{chosen, state_after}
use Rattle.run_text.specs.Taken.{Taken, fires, stuck, refused, by_taken, taken_as}
use Rattle.run_text.specs.declared.watching.Reached.{Reached}

-- the place of the first thing that holds in a state of a plant, if one does
abbrev pub Held : Type 0
Held = PlantDefinition → List Local → Option ℕ

-- nothing holds in any state
abbrev pub never : Held
never plant states = None

-- the pick that is taken last where the run ends: in a state with no choice it finds that there is none; in any other there is no such pick
abbrev pub last_pick : PlantDefinition → List Local → List PickDefinition
last_pick plant states = if length (choices plant states) == 0 then record { place = 0; take = counted 0 } ∷ [] else []

-- The picks by which a run goes that is watched, from a state on whose next fired interaction has this number: those before the first state in which
-- something holds, which is judged before each pick, and at the end.
abbrev pub picks_until : Held → PlantDefinition → List Local → ℕ → List PickDefinition → List PickDefinition
picks_until held plant states number [] = if is_some (held plant states) then last_pick plant states else []
picks_until held plant states number (pick ∷ picks) =
    if is_some (held plant states) then last_pick plant states
    else pick ∷ by_taken (taken_as plant states number pick.take) (λ c. picks_until held plant (next plant states (alone c)) (number + 1) picks) picks (λ why. picks)

-- the same of picks that may be known
abbrev pub watched : Held → PlantDefinition → List Local → ℕ → Option (List PickDefinition) → Option (List PickDefinition)
watched held plant states number left = option_map (picks_until held plant states number) left

-- where the run by these picks ends, if something holds there
abbrev pub reached_by : Held → PlantDefinition → List Local → List PickDefinition → Option Reached
reached_by held plant states picks =
    option_map (λ watch. record { number = length (chosen plant states 1 picks); watch = watch }) (held plant (state_after plant states picks))

-- the picks that are left of these where one is given in a state, or none
abbrev pub left_behind : Held → PlantDefinition → List Local → ℕ → Option PickDefinition → Option (List PickDefinition) → Option (List PickDefinition)
left_behind held plant states number None left = option_map (λ picks. []) left
left_behind held plant states number (Some pick) left =
    if is_some (held plant states) then option_map (λ picks. []) left
    else option_map (λ picks. by_taken (taken_as plant states number pick.take) (λ c. picks_until held plant (next plant states (alone c)) (number + 1) picks) picks (λ why. picks)) left

-- a value that is the same whatever comes of a pick
same-by-taken : {X : Type 0} (x : X) (fired : ChoiceDefinition → X) → ((c : ChoiceDefinition) → fired c ≡ x) → (t : Taken) → by_taken t fired x (λ why. x) ≡ x
same-by-taken x fired same (fires c) = same c
same-by-taken x fired same stuck = refl
same-by-taken x fired same (refused why) = refl

-- a run that is watched for nothing takes all picks
until_never : (plant : PlantDefinition) (states : List Local) (number : ℕ) (picks : List PickDefinition) → picks_until never plant states number picks ≡ picks
until_never plant states number [] = refl
until_never plant states number (pick ∷ picks) =
    ap (λ ps. pick ∷ ps) (same-by-taken picks (λ c. picks_until never plant (next plant states (alone c)) (number + 1) picks) (λ c. until_never plant (next plant states (alone c)) (number + 1) picks) (taken_as plant states number pick.take))

-- and so where they may be known
pub watched_never : (plant : PlantDefinition) (states : List Local) (number : ℕ) (left : Option (List PickDefinition)) → watched never plant states number left ≡ left
watched_never plant states number None = refl
watched_never plant states number (Some picks) = ap (λ ps. Some ps) (until_never plant states number picks)
