-- Random choices, fired one after another.
use Rattle.std.proofs.Common.{◌≡◌, ◌∙◌, ap, sym, refl, subst, arith, true, false, ℕ, zero, suc, ◌+◌, ◌<◌, ◌%◌, List, [], ◌∷◌, ◌++◌, length, append_assoc, append-nil}
use Rattle.std.specs.Prelude.{Option, Some, None, slice_get}
use Rattle.std.specs.Option.{option_map_or}
use Rattle.std.specs.Io.KnownBytes.{Appends}
use Rattle.std.proofs.KnownBytes.{Appends-nil, Appends-trans}
use Rattle.std.proofs.Math.Nat.{mod-lt}
use Rattle.std.proofs.lemmas.List.{length_push, nil_from_length}
use Rattle.std.proofs.lemmas.Option.{none-some}
use Rattle.petri_atom.specs.Local.{Local}
use Rattle.plant_model.specs.Plant.{PlantDefinition}
use Rattle.plant_model.specs.Choice.{ChoiceDefinition, choices}
use Rattle.plant_model.specs.Step.{next}
use Rattle.text_io.specs.Numbered.{numbered}
use Rattle.text_io.proofs.Leading.{Leads, leads-more, leads-same}
use Rattle.run_text.specs.Alone.{alone}
use Rattle.run_text.specs.Choices.{choice_text}
use Rattle.run_text.specs.Picks.{pick_at, random_from, shifted}
use Rattle.step_session.specs.Answers.{choice_count, fired_more, firing_lines}
use Rattle.step_session.specs.AtRandom.{FiresAtRandom, IsFiredAtRandom, next_place}
use Rattle.step_session.specs.Fired.{IsThere, choices_fired}
use Rattle.step_session.specs.Random.{random_places, places_picked, shifted_by}
use Rattle.step_session.specs.Session.{SessionDefinition, states_at}
use Rattle.step_session.proofs.Firing.{behind-more, entry-at, first-fired, there-more}

module _ (plant : PlantDefinition) where
  -- places that picks take have entries
  pub picked-there : (picks : List ℕ) (states : List Local) → length (choices_fired plant states (places_picked plant states picks)) ≡ length (places_picked plant states picks)
  picked-there [] states = refl
  picked-there (pick ∷ picks) states = each (picked-there picks) (slice_get (choices plant states) (pick % length (choices plant states))) refl
    where
      taken : Option ChoiceDefinition → List ℕ
      taken o = option_map_or (λ c. (pick % length (choices plant states)) ∷ places_picked plant (next plant states (alone c)) picks) o []

      each : ((later : List Local) → length (choices_fired plant later (places_picked plant later picks)) ≡ length (places_picked plant later picks))
          → (o : Option ChoiceDefinition) → slice_get (choices plant states) (pick % length (choices plant states)) ≡ o → length (choices_fired plant states (taken o)) ≡ length (taken o)
      each more None is = refl
      each more (Some c) is =
          ap length (first-fired plant states (pick % length (choices plant states)) c (places_picked plant (next plant states (alone c)) picks) is) ∙ ap suc (more (next plant states (alone c)))

  -- where there is no choice, no pick takes a place
  pub none-at-random : (session : SessionDefinition) (count : ℕ) → choice_count plant session ≡ 0 → random_places plant session count ≡ []
  none-at-random session zero none = refl
  none-at-random session (suc n) none = each (slice_get (choices plant (states_at plant session)) (pick_at (shifted session.random) % length (choices plant (states_at plant session)))) refl
    where
      each : (o : Option ChoiceDefinition) → slice_get (choices plant (states_at plant session)) (pick_at (shifted session.random) % length (choices plant (states_at plant session))) ≡ o
          → option_map_or (λ c. (pick_at (shifted session.random) % length (choices plant (states_at plant session))) ∷ places_picked plant (next plant (states_at plant session) (alone c)) (random_from n (shifted session.random))) o [] ≡ []
      each None is = refl
      each (Some c) is = absurd (none-some c (sym (ap (λ cs. slice_get cs (pick_at (shifted session.random) % length cs)) (nil_from_length (choices plant (states_at plant session)) none)) ∙ is))

  module _ (session : SessionDefinition) (all : IsThere plant session.fired) (some : 0 < choice_count plant session) where
    -- the choice that the next pick takes
    pub next-at-random : (c : ChoiceDefinition) × (slice_get (choices plant (states_at plant session)) (next_place plant session) ≡ Some c)
    next-at-random = entry-at (choices plant (states_at plant session)) (next_place plant session) (mod-lt (pick_at (shifted session.random)) (omega (arith, some)))

    -- the session after it
    abbrev behind : SessionDefinition
    behind = fired_more session (next_place plant session ∷ []) (shifted session.random)

    stands-behind : states_at plant behind ≡ next plant (states_at plant session) (alone next-at-random.0)
    stands-behind = behind-more plant session.fired (next_place plant session) next-at-random.0 all next-at-random.1

    -- it takes the first of the places that picks take, and the others are those of the session after it
    pub first-at-random : (n : ℕ) → random_places plant session (suc n) ≡ next_place plant session ∷ random_places plant behind n
    first-at-random n =
        ap (λ o. option_map_or (λ c. (pick_at (shifted session.random) % length (choices plant (states_at plant session))) ∷ places_picked plant (next plant (states_at plant session) (alone c)) (random_from n (shifted session.random))) o []) next-at-random.1 ∙
        ap (λ states. next_place plant session ∷ places_picked plant states (random_from n (shifted session.random))) (sym stands-behind)

    -- of the lines its own is the first, and the others are those of the session after it
    pub lines-first : (places : List ℕ) → firing_lines plant session (next_place plant session ∷ places) ≡ firing_lines plant session (next_place plant session ∷ []) ++ firing_lines plant behind places
    lines-first places =
        let states = states_at plant session in
        let c = next-at-random.0 in
        let number = length session.fired + 1 in
        let own : firing_lines plant session (next_place plant session ∷ []) ≡ choice_text plant number c =
        ap (numbered (choice_text plant) number) (first-fired plant states (next_place plant session) c [] next-at-random.1) ∙ append-nil (choice_text plant number c) in
        ap (numbered (choice_text plant) number) (first-fired plant states (next_place plant session) c places next-at-random.1) ∙
        ap (λ text. text ++ numbered (choice_text plant) (number + 1) (choices_fired plant (next plant states (alone c)) places)) (sym own) ∙
        ap (λ later. firing_lines plant session (next_place plant session ∷ []) ++ numbered (choice_text plant) (number + 1) (choices_fired plant later places)) (sym stands-behind) ∙
        ap (λ n. firing_lines plant session (next_place plant session ∷ []) ++ numbered (choice_text plant) (n + 1) (choices_fired plant (states_at plant behind) places)) (sym (length_push session.fired (next_place plant session)))

-- so many that are left lead to the same session, and their lines are left to print
pub record IsFiringAtRandom (plant : PlantDefinition) (first now : SessionDefinition) (count left : ℕ) (old new : Option (List ℕ)) : Type 0 where
  pub there : IsThere plant now.fired
  pub places : now.fired ++ random_places plant now left ≡ first.fired ++ random_places plant first count
  pub generator : shifted_by (length (random_places plant now left)) now.random ≡ shifted_by (length (random_places plant first count)) first.random
  pub lines : Leads old new (firing_lines plant now (random_places plant now left)) (firing_lines plant first (random_places plant first count))

module _ (plant : PlantDefinition) (first now : SessionDefinition) (count : ℕ) (start : Option (List ℕ)) where
  -- one is fired
  pub one-at-random : (n : ℕ) (after : SessionDefinition) (old new : Option (List ℕ)) → IsFiringAtRandom plant first now count (suc n) start old → IsFiredAtRandom true plant now after old new → IsFiringAtRandom plant first after count n start new
  one-at-random n after old new d fired =
      let place = next_place plant now in
      let made : SessionDefinition = fired_more now (place ∷ []) (shifted now.random) in
      let entry = next-at-random plant now d.there fired.0 in
      let taken : random_places plant now (suc n) ≡ place ∷ random_places plant made n = first-at-random plant now d.there fired.0 n in
      subst (λ s. IsFiringAtRandom plant first s count n start new) (sym fired.1) (record {
        there = there-more plant now.fired place entry.0 d.there entry.1;
        places = append_assoc now.fired (place ∷ []) (random_places plant made n) ∙ ap (λ ps. now.fired ++ ps) (sym taken) ∙ d.places;
        generator = ap (λ ps. shifted_by (length ps) now.random) (sym taken) ∙ d.generator;
        lines = leads-more _ _ _ _ _ _ (leads-same d.lines (ap (firing_lines plant now) taken ∙ lines-first plant now d.there fired.0 (random_places plant made n))) fired.2;
      })

  -- none is left, or none is possible
  pub no-more-at-random : (left : ℕ) (new : Option (List ℕ)) → IsFiringAtRandom plant first now count left start new → random_places plant now left ≡ [] → FiresAtRandom count plant first now start new
  no-more-at-random left new d none =
      let made : List ℕ → ℕ → SessionDefinition = λ places state. record { fired = places; random = state } in
      let same : now.fired ≡ first.fired ++ random_places plant first count = sym (append-nil now.fired) ∙ ap (λ ps. now.fired ++ ps) (sym none) ∙ d.places in
      let random : now.random ≡ shifted_by (length (random_places plant first count)) first.random = ap (λ ps. shifted_by (length ps) now.random) (sym none) ∙ d.generator in (
        ap (λ places. made places now.random) same ∙ ap (made (first.fired ++ random_places plant first count)) random,
        d.lines.by new (subst (Appends new new) (sym (ap (firing_lines plant now) none)) (Appends-nil new)),
      )

  -- there is no choice
  pub stuck-at-random : (left : ℕ) (after : SessionDefinition) (old new : Option (List ℕ)) → IsFiringAtRandom plant first now count left start old → IsFiredAtRandom false plant now after old new → FiresAtRandom count plant first after start new
  stuck-at-random left after old new d fired =
      let all : FiresAtRandom count plant first now start old = no-more-at-random left old d (none-at-random plant now left fired.0) in
      let lines = firing_lines plant first (random_places plant first count) in
      (fired.1 ∙ all.0, subst (Appends start new) (append-nil lines) (Appends-trans start old new lines [] all.1 fired.2))
