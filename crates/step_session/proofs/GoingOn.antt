-- A session that goes on behind picks.
use Rattle.std.proofs.Common.{◌≡◌, ◌∙◌, ap, sym, refl, subst, ℕ, ◌+◌, List, [], ◌∷◌, ◌++◌, length, append_assoc, append-nil}
use Rattle.std.specs.Prelude.{Option, Some, None, IfSome}
use Rattle.std.proofs.lemmas.List.{length_push}
use Rattle.std.proofs.lemmas.Option.{IfSome_then}
use Rattle.petri_atom.specs.Local.{Local}
use Rattle.plant_model.specs.Plant.{PlantDefinition}
use Rattle.plant_model.specs.Choice.{ChoiceDefinition, IsAllowed, choices}
use Rattle.plant_model.specs.Step.{next}
use Rattle.run_text.specs.Alone.{alone}
use Rattle.run_text.specs.Picks.{PickDefinition}
use Rattle.run_text.specs.Runs.{chosen, refusal_in, refusal_of}
use Rattle.run_text.specs.declared.fault.Refusal.{Refusal}
use Rattle.step_session.specs.Answers.{fired_more}
use Rattle.step_session.specs.Behind.{TakesNext, place_among, places_of, session_behind}
use Rattle.step_session.specs.Fired.{IsThere}
use Rattle.step_session.specs.Session.{SessionDefinition, first_session, states_at}
use Rattle.step_session.proofs.Firing.{behind-more}
use Rattle.step_session.proofs.Placing.{entry-of-allowed}

-- the choices that picks choose from where a session stands, as they are numbered there
abbrev pub chosen_at : PlantDefinition → SessionDefinition → List PickDefinition → List ChoiceDefinition
chosen_at plant session picks = chosen plant (states_at plant session) (length session.fired + 1) picks

-- the session behind them
abbrev pub behind_all : PlantDefinition → SessionDefinition → List PickDefinition → SessionDefinition
behind_all plant session picks = fired_more session (places_of plant (states_at plant session) (chosen_at plant session picks)) session.random

-- by known picks, those that are left lead on to the session behind them all, and refuse what they refuse
pub record IsTaking (plant : PlantDefinition) (picks : List PickDefinition) (now : SessionDefinition) (left : Option (List PickDefinition)) : Type 0 where
  pub rest : List PickDefinition
  pub known : left ≡ Some rest
  pub behind : behind_all plant now rest ≡ session_behind plant picks
  pub refusal : refusal_in plant (states_at plant now) (length now.fired + 1) rest ≡ refusal_of plant picks

-- at first all are left
pub all-to-take : (plant : PlantDefinition) (given : Option (List PickDefinition)) → IfSome given (λ picks. IsTaking plant picks first_session given)
all-to-take plant None = tt
all-to-take plant (Some picks) = record { rest = picks; known = refl; behind = refl; refusal = refl }

module _ (plant : PlantDefinition) (picks : List PickDefinition) (now : SessionDefinition) (left : Option (List PickDefinition)) (taking : IsTaking plant picks now left) where
  abbrev states : List Local
  states = states_at plant now

  abbrev number : ℕ
  number = length now.fired + 1

  -- a choice is taken, and fired
  one-taken-here : (new : Option (List PickDefinition)) (c : ChoiceDefinition) → IsThere plant now.fired → IsAllowed plant states c → TakesNext plant states number left (Some c) new
      → IsTaking plant picks (fired_more now (place_among (choices plant states) c ∷ []) now.random) new
  one-taken-here new c there allowed takes = each new (subst (λ o. TakesNext plant states number o (Some c) new) taking.known takes)
    where
      place : ℕ
      place = place_among (choices plant states) c

      after : SessionDefinition
      after = fired_more now (place ∷ []) now.random

      stands : states_at plant after ≡ next plant states (alone c)
      stands = behind-more plant now.fired place c there (entry-of-allowed plant states c allowed)

      counted : length after.fired + 1 ≡ number + 1
      counted = ap (λ n. n + 1) (length_push now.fired place)

      each : (later : Option (List PickDefinition)) → TakesNext plant states number (Some taking.rest) (Some c) later → IsTaking plant picks after later
      each None takes = absurd takes
      each (Some rest) takes =
          let others : chosen_at plant after rest ≡ chosen plant (next plant states (alone c)) (number + 1) rest =
          ap (λ s. chosen plant s (length after.fired + 1) rest) stands ∙ ap (λ n. chosen plant (next plant states (alone c)) n rest) counted in
          let places : places_of plant (states_at plant after) (chosen_at plant after rest) ≡ places_of plant (next plant states (alone c)) (chosen plant (next plant states (alone c)) (number + 1) rest) =
          ap (places_of plant (states_at plant after)) others ∙ ap (λ s. places_of plant s (chosen plant (next plant states (alone c)) (number + 1) rest)) stands in
          let all : after.fired ++ places_of plant (states_at plant after) (chosen_at plant after rest) ≡ now.fired ++ places_of plant states (chosen_at plant now taking.rest) =
          ap (λ ps. after.fired ++ ps) places ∙ append_assoc now.fired (place ∷ []) (places_of plant (next plant states (alone c)) (chosen plant (next plant states (alone c)) (number + 1) rest)) ∙
          ap (λ cs. now.fired ++ places_of plant states cs) (sym takes.0) in
          let made : List ℕ → SessionDefinition = λ fired. record { fired = fired; random = now.random } in
          record {
            rest = rest;
            known = refl;
            behind = ap made all ∙ taking.behind;
            refusal = ap (λ s. refusal_in plant s (length after.fired + 1) rest) stands ∙ ap (λ n. refusal_in plant (next plant states (alone c)) n rest) counted ∙ sym takes.1 ∙ taking.refusal;
          }

  -- none is taken any more
  none-taken-here : (new : Option (List PickDefinition)) → TakesNext plant states number left None new → (now ≡ session_behind plant picks) × (None ≡ refusal_of plant picks)
  none-taken-here new takes =
      let none = subst (λ o. TakesNext plant states number o None new) taking.known takes in
      let made : List ℕ → SessionDefinition = λ fired. record { fired = fired; random = now.random } in (
        ap made (sym (append-nil now.fired) ∙ ap (λ cs. now.fired ++ places_of plant states cs) (sym none.0)) ∙ taking.behind,
        sym none.1 ∙ taking.refusal,
      )

  -- a pick is refused
  refused-here : (refusal : Refusal) → IfSome left (λ rest. refusal_in plant states number rest ≡ Some refusal) → Some refusal ≡ refusal_of plant picks
  refused-here refusal refused = sym (subst (λ o. IfSome o (λ rest. refusal_in plant states number rest ≡ Some refusal)) taking.known refused) ∙ taking.refusal

-- the same where the picks may be unknown
module _ (plant : PlantDefinition) (given : Option (List PickDefinition)) (now : SessionDefinition) (left : Option (List PickDefinition)) (taking : IfSome given (λ picks. IsTaking plant picks now left)) where
  pub one-taken : (new : Option (List PickDefinition)) (c : ChoiceDefinition) → IsThere plant now.fired → IsAllowed plant (states_at plant now) c
      → TakesNext plant (states_at plant now) (length now.fired + 1) left (Some c) new
      → IfSome given (λ picks. IsTaking plant picks (fired_more now (place_among (choices plant (states_at plant now)) c ∷ []) now.random) new)
  one-taken new c there allowed takes = IfSome_then given taking (λ picks t. one-taken-here plant picks now left t new c there allowed takes)

  pub none-taken : (new : Option (List PickDefinition)) → TakesNext plant (states_at plant now) (length now.fired + 1) left None new
      → IfSome given (λ picks. now ≡ session_behind plant picks) × IfSome given (λ picks. None ≡ refusal_of plant picks)
  none-taken new takes = (
    IfSome_then given taking (λ picks t. (none-taken-here plant picks now left t new takes).0),
    IfSome_then given taking (λ picks t. (none-taken-here plant picks now left t new takes).1),
  )

  pub refused : (refusal : Refusal) → IfSome left (λ rest. refusal_in plant (states_at plant now) (length now.fired + 1) rest ≡ Some refusal)
      → IfSome given (λ picks. Some refusal ≡ refusal_of plant picks)
  refused refusal is = IfSome_then given taking (λ picks t. refused-here plant picks now left t refusal is)
