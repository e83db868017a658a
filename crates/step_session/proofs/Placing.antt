-- The places of choices that are fired one after another.
use Rattle.std.proofs.Common.{◌≡◌, ◌∙◌, ap, sym, refl, arith, ℕ, suc, ◌<◌, Bool, true, false, List, [], ◌∷◌, length, get_or}
use Rattle.std.specs.Prelude.{Option, Some, None, slice_get}
use Rattle.std.specs.Option.{option_map_or}
use Rattle.std.proofs.lemmas.List.Sums.{position_or_len_is}
use Rattle.std.proofs.lemmas.Option.{get_or_from_slice_get, slice_get-get_or, slice_get_within}
use Rattle.petri_atom.specs.Local.{Local}
use Rattle.plant_model.specs.Plant.{PlantDefinition}
use Rattle.plant_model.specs.Choice.{ChoiceDefinition, IsAllowed, choices}
use Rattle.plant_model.specs.Step.{initial_states, next}
use Rattle.plant_model.proofs.InOrder.{stands-once}
use Rattle.plant_model.proofs.Membership.{in-entry}
use Rattle.run_text.specs.Alone.{AreAllowedInTurn, alone}
use Rattle.run_text.specs.Picks.{PickDefinition}
use Rattle.run_text.specs.Runs.{chosen}
use Rattle.run_text.specs.Taken.{is_same_choice}
use Rattle.run_text.proofs.Among.{same-choice}
use Rattle.step_session.specs.Behind.{place_among, places_of, session_behind}
use Rattle.step_session.specs.Fired.{IsThere, choices_fired}
use Rattle.step_session.proofs.Firing.{first-fired}

-- a choice that stands once among choices has the place of its entry
found-at : (cs : List ChoiceDefinition) (c : ChoiceDefinition) (k : ℕ) → slice_get cs k ≡ Some c → ((j : ℕ) → slice_get cs j ≡ Some c → j ≡ k) → place_among cs c ≡ k
found-at cs c k here once =
    let within : k < length cs = slice_get_within cs k c here in
    position_or_len_is (is_same_choice c) cs k c (omega (arith, within))
    (λ j less. missed j less (is_same_choice c (get_or cs j c)) refl)
    (λ _. (same-choice c (get_or cs k c)).1 (sym (get_or_from_slice_get cs k c c here)))
  where
    missed : (j : ℕ) → j < k → (b : Bool) → is_same_choice c (get_or cs j c) ≡ b → b ≡ false
    missed j less true is =
        let within : k < length cs = slice_get_within cs k c here in
        let there : slice_get cs j ≡ Some c = slice_get-get_or cs j c (omega (arith, less, within)) ∙ ap Some (sym ((same-choice c (get_or cs j c)).0 is)) in
        absurd (omega (arith, less, once j there))
    missed j less false is = refl

module _ (plant : PlantDefinition) where
  -- so has a choice of a state
  pub place-of-entry : (states : List Local) (place : ℕ) (c : ChoiceDefinition) → slice_get (choices plant states) place ≡ Some c → place_among (choices plant states) c ≡ place
  place-of-entry states place c here = found-at (choices plant states) c place here (λ j there. stands-once plant states j place c there here)

  -- an allowed choice stands at its place
  pub entry-of-allowed : (states : List Local) (c : ChoiceDefinition) → IsAllowed plant states c → slice_get (choices plant states) (place_among (choices plant states) c) ≡ Some c
  entry-of-allowed states c allowed =
      let at = in-entry (choices plant states) c allowed in
      ap (slice_get (choices plant states)) (place-of-entry states at.0 c at.1) ∙ at.1

  -- the places of choices that are allowed in turn fire these choices
  pub placed-fired : (cs : List ChoiceDefinition) (states : List Local) → AreAllowedInTurn plant states cs → choices_fired plant states (places_of plant states cs) ≡ cs
  placed-fired [] states all = refl
  placed-fired (c ∷ cs) states all =
      first-fired plant states (place_among (choices plant states) c) c (places_of plant (next plant states (alone c)) cs) (entry-of-allowed states c all.0) ∙
      ap (λ ds. c ∷ ds) (placed-fired cs (next plant states (alone c)) all.1)

  -- there are as many places as choices
  as-many : (cs : List ChoiceDefinition) (states : List Local) → length (places_of plant states cs) ≡ length cs
  as-many [] states = refl
  as-many (c ∷ cs) states = ap suc (as-many cs (next plant states (alone c)))

  -- the places of choices that were fired by places are these
  pub fired-placed : (places : List ℕ) (states : List Local) → length (choices_fired plant states places) ≡ length places → places_of plant states (choices_fired plant states places) ≡ places
  fired-placed [] states all = refl
  fired-placed (place ∷ places) states all = each (λ later. fired-placed places later) (slice_get (choices plant states) place) refl all
    where
      taken : Option ChoiceDefinition → List ChoiceDefinition
      taken o = option_map_or (λ c. c ∷ choices_fired plant (next plant states (alone c)) places) o []

      each : ((later : List Local) → length (choices_fired plant later places) ≡ length places → places_of plant later (choices_fired plant later places) ≡ places)
          → (o : Option ChoiceDefinition) → slice_get (choices plant states) place ≡ o → length (taken o) ≡ length (place ∷ places) → places_of plant states (taken o) ≡ place ∷ places
      each more None is all = absurd (omega (arith, all))
      each more (Some c) is all =
          ap (λ p. p ∷ places_of plant (next plant states (alone c)) (choices_fired plant (next plant states (alone c)) places)) (place-of-entry states place c is) ∙
          ap (λ ps. place ∷ ps) (more (next plant states (alone c)) (omega (arith, all)))

  -- so the places of a session behind picks have their entries
  pub behind-there : (picks : List PickDefinition) → AreAllowedInTurn plant (initial_states plant) (chosen plant (initial_states plant) 1 picks) → IsThere plant (session_behind plant picks).fired
  behind-there picks all =
      let cs = chosen plant (initial_states plant) 1 picks in
      ap length (placed-fired cs (initial_states plant) all) ∙ sym (as-many cs (initial_states plant))
