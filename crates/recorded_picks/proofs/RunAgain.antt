-- A run by the choices that picks took is the run by the picks.
use Rattle.std.proofs.Common.{◌≡◌, ℕ, ◌+◌, ◌<◌, ◌≤◌, ◌^◌, refl, ◌∙◌, ap, subst, List, [], ◌∷◌, Contains, arith, length, nat_lt, ⊎_elim}
use Rattle.std.specs.Prelude.{Option, None, Some}
use Rattle.std.proofs.lemmas.Bool.{cond-true, lt-ltb}
use Rattle.petri_atom.specs.Local.{Local}
use Rattle.plant_model.specs.Choice.{ChoiceDefinition, IsAllowed}
use Rattle.plant_model.specs.Plant.{PlantDefinition}
use Rattle.plant_model.specs.Step.{next}
use Rattle.plant_model.proofs.Membership.{here-or-later}
use Rattle.run_text.specs.Alone.{AreAllowedInTurn, alone}
use Rattle.run_text.specs.Picks.{PickDefinition, named}
use Rattle.run_text.specs.Runs.{chosen, refusal_in}
use Rattle.run_text.specs.Taken.{Taken, fires, stuck, refused, by_taken, taken, taken_as}
use Rattle.run_text.specs.declared.fault.Refusal.{Refusal}
use Rattle.run_text.specs.declared.fault.RefusedPick.TheVariants.{TooMany}
use Rattle.run_text.proofs.Takes.{fires-allowed, named-fired}
use Rattle.recorded_picks.specs.Laws.{named_picks}

module _ (plant : PlantDefinition) where
  -- a choice that a pick took is taken where it is named
  taken-again : (states : List Local) (number : ℕ) (c : ChoiceDefinition) → IsAllowed plant states c → number < 2 ^ 64 → taken_as plant states number (named c) ≡ fires c
  taken-again states number c allowed less =
      cond-true (nat_lt number (2 ^ 64)) (taken plant states (named c)) (refused TooMany) (lt-ltb number (2 ^ 64) less) ∙ named-fired plant states c allowed

  abbrev chosen_by : List Local → ℕ → List PickDefinition → Taken → List ChoiceDefinition
  chosen_by states number picks t = by_taken t (λ c. c ∷ chosen plant (next plant states (alone c)) (number + 1) picks) [] (λ why. [])

  -- the same choices are chosen
  pub chosen-again : (picks : List PickDefinition) (states : List Local) (number place : ℕ) → chosen plant states number (named_picks place (chosen plant states number picks)) ≡ chosen plant states number picks
  chosen-again [] states number place = refl
  chosen-again (pick ∷ picks) states number place = each (λ later. chosen-again picks later (number + 1) (place + 1)) (taken_as plant states number pick.take) refl
    where
      each : ((later : List Local) → chosen plant later (number + 1) (named_picks (place + 1) (chosen plant later (number + 1) picks)) ≡ chosen plant later (number + 1) picks)
          → (t : Taken) → taken_as plant states number pick.take ≡ t → chosen plant states number (named_picks place (chosen_by states number picks t)) ≡ chosen_by states number picks t
      each more (fires c) is =
          let own = fires-allowed plant states number pick.take c is in
          let after = next plant states (alone c) in
          ap (chosen_by states number (named_picks (place + 1) (chosen plant after (number + 1) picks))) (taken-again states number c own.0 own.1)
          ∙ ap (λ cs. c ∷ cs) (more after)
      each more stuck is = refl
      each more (refused why) is = refl

  abbrev refusal_by : List Local → ℕ → ℕ → List PickDefinition → Taken → Option Refusal
  refusal_by states number place picks t =
      by_taken t (λ c. refusal_in plant (next plant states (alone c)) (number + 1) picks) None (λ why. Some (record { place = place; why = why }))

  -- and none is refused
  pub none-refused : (picks : List PickDefinition) (states : List Local) (number place : ℕ) → refusal_in plant states number (named_picks place (chosen plant states number picks)) ≡ None
  none-refused [] states number place = refl
  none-refused (pick ∷ picks) states number place = each (λ later. none-refused picks later (number + 1) (place + 1)) (taken_as plant states number pick.take) refl
    where
      each : ((later : List Local) → refusal_in plant later (number + 1) (named_picks (place + 1) (chosen plant later (number + 1) picks)) ≡ None)
          → (t : Taken) → taken_as plant states number pick.take ≡ t → refusal_in plant states number (named_picks place (chosen_by states number picks t)) ≡ None
      each more (fires c) is =
          let own = fires-allowed plant states number pick.take c is in
          let after = next plant states (alone c) in
          ap (refusal_by states number place (named_picks (place + 1) (chosen plant after (number + 1) picks))) (taken-again states number c own.0 own.1)
          ∙ more after
      each more stuck is = refl
      each more (refused why) is = refl

  -- each choice that picks take is one that a state allows
  pub chosen-allowed : (picks : List PickDefinition) (states : List Local) (number : ℕ) (c : ChoiceDefinition) → Contains (chosen plant states number picks) c → (at : List Local) × IsAllowed plant at c
  chosen-allowed [] states number c in_it = absurd (omega (arith, in_it.1))
  chosen-allowed (pick ∷ picks) states number c in_it = each (λ later. chosen-allowed picks later (number + 1) c) (taken_as plant states number pick.take) refl in_it
    where
      each : ((later : List Local) → Contains (chosen plant later (number + 1) picks) c → (at : List Local) × IsAllowed plant at c)
          → (t : Taken) → taken_as plant states number pick.take ≡ t → Contains (chosen_by states number picks t) c → (at : List Local) × IsAllowed plant at c
      each more (fires d) is held = ⊎_elim
          (λ same. (states, subst (IsAllowed plant states) same (fires-allowed plant states number pick.take d is).0))
          (λ behind. more (next plant states (alone d)) behind)
          (here-or-later d (chosen plant (next plant states (alone d)) (number + 1) picks) c held)
      each more stuck is held = absurd (omega (arith, held.1))
      each more (refused why) is held = absurd (omega (arith, held.1))

  -- each of choices that are allowed in turn is one that a state allows
  pub turn-allowed : (cs : List ChoiceDefinition) (start : List Local) → AreAllowedInTurn plant start cs → (c : ChoiceDefinition) → Contains cs c → (at : List Local) × IsAllowed plant at c
  turn-allowed [] start all c in_it = absurd (omega (arith, in_it.1))
  turn-allowed (d ∷ cs) start all c in_it = ⊎_elim
      (λ same. (start, subst (IsAllowed plant start) same all.0))
      (λ later. turn-allowed cs (next plant start (alone d)) all.1 c later)
      (here-or-later d cs c in_it)

  -- they are chosen if picks name them, as long as each has a number
  pub turn-again : (cs : List ChoiceDefinition) (start : List Local) (number place : ℕ) → AreAllowedInTurn plant start cs → number + length cs ≤ 2 ^ 64 → chosen plant start number (named_picks place cs) ≡ cs
  turn-again [] start number place all few = refl
  turn-again (c ∷ cs) start number place all few =
      let after = next plant start (alone c) in
      ap (chosen_by start number (named_picks (place + 1) cs)) (taken-again start number c all.0 (omega (arith, few)))
      ∙ ap (λ more. c ∷ more) (turn-again cs after (number + 1) (place + 1) all.1 (omega (arith, few)))
