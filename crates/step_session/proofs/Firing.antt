-- The choices at places, fired one after another.
use Rattle.std.proofs.Common.{◌≡◌, ◌∙◌, ap, sym, refl, subst, arith, ℕ, zero, suc, ◌+◌, ◌<◌, List, [], ◌∷◌, ◌++◌, length, take, drop, get_or, map}
use Rattle.std.specs.Prelude.{Option, Some, None, slice_get}
use Rattle.std.specs.Option.{option_map_or}
use Rattle.std.proofs.lemmas.List.{length-append, length_push, take-append-drop, take_more}
use Rattle.std.proofs.lemmas.Option.{slice_get_within}
use Rattle.petri_atom.specs.Local.{Local}
use Rattle.plant_model.specs.Plant.{PlantDefinition}
use Rattle.plant_model.specs.Choice.{ChoiceDefinition, choices}
use Rattle.plant_model.specs.Runs.{fold}
use Rattle.plant_model.specs.Step.{initial_states, next}
use Rattle.plant_model.proofs.Membership.{entry-in}
use Rattle.run_text.specs.Alone.{AreAllowedInTurn, alone}
use Rattle.step_session.specs.Fired.{IsThere, choices_fired, states_after}

-- the entry of a list at a place within it
pub entry-at : {X : Type 0} (xs : List X) (k : ℕ) → k < length xs → (x : X) × (slice_get xs k ≡ Some x)
entry-at [] k within = absurd (omega arith)
entry-at (x ∷ xs) zero within = (x, refl)
entry-at (x ∷ xs) (suc k) within = entry-at xs k (omega arith)

module _ (plant : PlantDefinition) where
  -- choices lead on from where the first of them lead
  pub fold-append : (xs ys : List ChoiceDefinition) (start : List Local) → fold plant start (map alone (xs ++ ys)) ≡ fold plant (fold plant start (map alone xs)) (map alone ys)
  fold-append [] ys start = refl
  fold-append (x ∷ xs) ys start = fold-append xs ys (next plant start (alone x))

  -- where each place has an entry, more places are fired from the state that they lead to
  pub fired-append : (places more : List ℕ) (states : List Local) → length (choices_fired plant states places) ≡ length places
      → choices_fired plant states (places ++ more) ≡ choices_fired plant states places ++ choices_fired plant (fold plant states (map alone (choices_fired plant states places))) more
  fired-append [] more states all = refl
  fired-append (place ∷ places) more states all = each (λ later. fired-append places more later) (slice_get (choices plant states) place) all
    where
      taken : Option ChoiceDefinition → List ChoiceDefinition
      taken o = option_map_or (λ c. c ∷ choices_fired plant (next plant states (alone c)) places) o []

      each : ((later : List Local) → length (choices_fired plant later places) ≡ length places
          → choices_fired plant later (places ++ more) ≡ choices_fired plant later places ++ choices_fired plant (fold plant later (map alone (choices_fired plant later places))) more)
          → (o : Option ChoiceDefinition) → length (taken o) ≡ length (place ∷ places)
          → option_map_or (λ c. c ∷ choices_fired plant (next plant states (alone c)) (places ++ more)) o [] ≡ taken o ++ choices_fired plant (fold plant states (map alone (taken o))) more
      each go None all = absurd (omega (arith, all))
      each go (Some c) all = ap (λ cs. c ∷ cs) (go (next plant states (alone c)) (omega (arith, all)))

  -- where each of some places has an entry, so has each of the first of them
  pub front-fired : (places more : List ℕ) (states : List Local) → length (choices_fired plant states (places ++ more)) ≡ length (places ++ more)
      → length (choices_fired plant states places) ≡ length places
  front-fired [] more states all = refl
  front-fired (place ∷ places) more states all = each (λ later. front-fired places more later) (slice_get (choices plant states) place) all
    where
      each : ((later : List Local) → length (choices_fired plant later (places ++ more)) ≡ length (places ++ more) → length (choices_fired plant later places) ≡ length places)
          → (o : Option ChoiceDefinition)
          → length (option_map_or (λ c. c ∷ choices_fired plant (next plant states (alone c)) (places ++ more)) o []) ≡ length (place ∷ (places ++ more))
          → length (option_map_or (λ c. c ∷ choices_fired plant (next plant states (alone c)) places) o []) ≡ length (place ∷ places)
      each go None all = absurd (omega (arith, all))
      each go (Some c) all = ap suc (go (next plant states (alone c)) (omega (arith, all)))

  -- they are allowed in turn
  pub fired-allowed : (places : List ℕ) (states : List Local) → AreAllowedInTurn plant states (choices_fired plant states places)
  fired-allowed [] states = tt
  fired-allowed (place ∷ places) states = each (fired-allowed places) (slice_get (choices plant states) place) refl
    where
      taken : Option ChoiceDefinition → List ChoiceDefinition
      taken o = option_map_or (λ c. c ∷ choices_fired plant (next plant states (alone c)) places) o []

      each : ((later : List Local) → AreAllowedInTurn plant later (choices_fired plant later places))
          → (o : Option ChoiceDefinition) → slice_get (choices plant states) place ≡ o → AreAllowedInTurn plant states (taken o)
      each more None is = tt
      each more (Some c) is = (entry-in (choices plant states) place c is, more (next plant states (alone c)))

  -- a place with an entry fires it
  pub one-fired : (states : List Local) (place : ℕ) (c : ChoiceDefinition) → slice_get (choices plant states) place ≡ Some c → choices_fired plant states (place ∷ []) ≡ c ∷ []
  one-fired states place c entry = ap (λ o. option_map_or (λ d. d ∷ choices_fired plant (next plant states (alone d)) []) o []) entry

  -- and so do places after it
  pub first-fired : (states : List Local) (place : ℕ) (c : ChoiceDefinition) (places : List ℕ) → slice_get (choices plant states) place ≡ Some c
      → choices_fired plant states (place ∷ places) ≡ c ∷ choices_fired plant (next plant states (alone c)) places
  first-fired states place c places entry = ap (λ o. option_map_or (λ d. d ∷ choices_fired plant (next plant states (alone d)) places) o []) entry

  -- a place that fires a choice has an entry
  within-of-one : (states : List Local) (place : ℕ) → length (choices_fired plant states (place ∷ [])) ≡ 1 → place < length (choices plant states)
  within-of-one states place one = each (slice_get (choices plant states) place) refl one
    where
      each : (o : Option ChoiceDefinition) → slice_get (choices plant states) place ≡ o
          → length (option_map_or (λ d. d ∷ choices_fired plant (next plant states (alone d)) []) o []) ≡ 1 → place < length (choices plant states)
      each None is one = absurd (omega (arith, one))
      each (Some c) is one = slice_get_within (choices plant states) place c is

  -- more places that have entries after those that have
  pub there-append : (places more : List ℕ) → IsThere plant places → length (choices_fired plant (states_after plant places) more) ≡ length more → IsThere plant (places ++ more)
  there-append places more all others =
      let start = initial_states plant in
      ap length (fired-append places more start all) ∙ length-append (choices_fired plant start places) (choices_fired plant (states_after plant places) more) ∙
      ap (λ n. n + length (choices_fired plant (states_after plant places) more)) all ∙ ap (λ n. length places + n) others ∙ sym (length-append places more)

  -- a front of places that have entries
  pub front-there : (places more : List ℕ) → IsThere plant (places ++ more) → IsThere plant places
  front-there places more all = front-fired places more (initial_states plant) all

  -- the last of places that have entries is the place of a choice after the others
  pub last-within : (places : List ℕ) (place : ℕ) → IsThere plant (places ++ place ∷ []) → place < length (choices plant (states_after plant places))
  last-within places place all =
      let start = initial_states plant in
      let front : length (choices_fired plant start places) ≡ length places = front-there places (place ∷ []) all in
      let parts : length (choices_fired plant start (places ++ place ∷ [])) ≡ length (choices_fired plant start places) + length (choices_fired plant (states_after plant places) (place ∷ [])) =
      ap length (fired-append places (place ∷ []) start front) ∙ length-append (choices_fired plant start places) (choices_fired plant (states_after plant places) (place ∷ [])) in
      let whole : length (choices_fired plant start (places ++ place ∷ [])) ≡ length places + 1 = all ∙ length_push places place in
      within-of-one (states_after plant places) place (omega (arith, front, parts, whole))

  -- one more place, that of this choice
  module _ (places : List ℕ) (place : ℕ) (c : ChoiceDefinition) (all : IsThere plant places) (entry : slice_get (choices plant (states_after plant places)) place ≡ Some c) where
    pub fired-more : choices_fired plant (initial_states plant) (places ++ place ∷ []) ≡ choices_fired plant (initial_states plant) places ++ c ∷ []
    fired-more =
        fired-append places (place ∷ []) (initial_states plant) all ∙
        ap (λ cs. choices_fired plant (initial_states plant) places ++ cs) (one-fired (states_after plant places) place c entry)

    pub there-more : IsThere plant (places ++ place ∷ [])
    there-more = there-append places (place ∷ []) all (ap length (one-fired (states_after plant places) place c entry))

    pub behind-more : states_after plant (places ++ place ∷ []) ≡ next plant (states_after plant places) (alone c)
    behind-more =
        ap (λ ds. fold plant (initial_states plant) (map alone ds)) fired-more ∙ fold-append (choices_fired plant (initial_states plant) places) (c ∷ []) (initial_states plant)

  -- a front of places that have entries
  pub take-there : (places : List ℕ) (k : ℕ) → IsThere plant places → IsThere plant (take k places)
  take-there places k all = front-there (take k places) (drop k places) (subst (IsThere plant) (sym (take-append-drop k places)) all)

  -- a plant stands after the choices at the places before the one at i
  module _ (places : List ℕ) (all : IsThere plant places) (i : ℕ) (within : i < length places) (now : PlantDefinition) (states : List Local) (same : now ≡ plant) (stands : states ≡ states_after plant (take i places)) where
    one : take (i + 1) places ≡ take i places ++ get_or places i 0 ∷ []
    one = take_more places i 0 within

    here : choices now states ≡ choices plant (states_after plant (take i places))
    here = ap (λ p. choices p states) same ∙ ap (choices plant) stands

    -- it has the choice at i
    pub place-within : get_or places i 0 < length (choices now states)
    place-within =
        subst (λ cs. get_or places i 0 < length cs) (sym here)
        (last-within (take i places) (get_or places i 0) (subst (IsThere plant) one (take-there places (i + 1) all)))

    module _ (c : ChoiceDefinition) (entry : slice_get (choices now states) (get_or places i 0) ≡ Some c) where
      entry-here : slice_get (choices plant (states_after plant (take i places))) (get_or places i 0) ≡ Some c
      entry-here = ap (λ cs. slice_get cs (get_or places i 0)) (sym here) ∙ entry

      -- which is fired next, and leads on
      pub fired-next : choices_fired plant (initial_states plant) (take (i + 1) places) ≡ choices_fired plant (initial_states plant) (take i places) ++ c ∷ []
      fired-next = ap (choices_fired plant (initial_states plant)) one ∙ fired-more (take i places) (get_or places i 0) c (take-there places i all) entry-here

      pub stands-next : next now states (alone c) ≡ states_after plant (take (i + 1) places)
      stands-next =
          ap (λ p. next p states (alone c)) same ∙ ap (λ s. next plant s (alone c)) stands ∙
          sym (behind-more (take i places) (get_or places i 0) c (take-there places i all) entry-here) ∙ ap (states_after plant) (sym one)
