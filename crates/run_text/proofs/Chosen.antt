-- The run that picks choose, and what is printed of it.
use Rattle.std.proofs.Common.{◌≡◌, ℕ, suc, ◌+◌, ◌<◌, refl, sym, ◌∙◌, ap, List, [], ◌∷◌, ◌++◌, length, append_assoc, arith, map}
use Rattle.std.specs.Prelude.{Option, Some, None, slice_get}
use Rattle.std.proofs.lemmas.Option.{none-some, same_Some}
use Rattle.petri_atom.specs.Local.{Local}
use Rattle.plant_model.specs.Plant.{PlantDefinition}
use Rattle.plant_model.specs.Choice.{ChoiceDefinition}
use Rattle.plant_model.specs.Runs.{fold}
use Rattle.plant_model.specs.Step.{next}
use Rattle.run_text.specs.Alone.{AreAllowedInTurn, alone}
use Rattle.run_text.specs.Picks.{PickDefinition}
use Rattle.run_text.specs.Runs.{chosen, refusal_in}
use Rattle.run_text.specs.Steps.{Parts, steps_printed, printed_from}
use Rattle.run_text.specs.Taken.{Taken, fires, stuck, refused, by_taken, taken, taken_as}
use Rattle.run_text.specs.declared.fault.Refusal.{Refusal}
use Rattle.run_text.proofs.Takes.{fires-allowed, stuck-as}

module _ (plant : PlantDefinition) where
  -- what is chosen of a pick and those after it, and which is refused, by what comes of the pick
  abbrev chosen_by : List Local → ℕ → List PickDefinition → Taken → List ChoiceDefinition
  chosen_by states number picks t = by_taken t (λ c. c ∷ chosen plant (next plant states (alone c)) (number + 1) picks) [] (λ why. [])

  abbrev refusal_by : List Local → ℕ → PickDefinition → List PickDefinition → Taken → Option Refusal
  refusal_by states number pick picks t =
      by_taken t (λ c. refusal_in plant (next plant states (alone c)) (number + 1) picks) None (λ why. Some (record { place = pick.place; why = why }))

  -- the choices that picks take are allowed in turn
  pub chosen-allowed : (picks : List PickDefinition) (states : List Local) (number : ℕ) → AreAllowedInTurn plant states (chosen plant states number picks)
  chosen-allowed [] states number = tt
  chosen-allowed (pick ∷ picks) states number = each (λ later. chosen-allowed picks later (number + 1)) (taken_as plant states number pick.take) refl
    where
      each : ((later : List Local) → AreAllowedInTurn plant later (chosen plant later (number + 1) picks))
          → (t : Taken) → taken_as plant states number pick.take ≡ t → AreAllowedInTurn plant states (chosen_by states number picks t)
      each more (fires c) is = ((fires-allowed plant states number pick.take c is).0, more (next plant states (alone c)))
      each more stuck is = tt
      each more (refused why) is = tt

  -- the pick that comes next, where none is refused, takes nothing in the state after them
  pub takes-nothing : (picks : List PickDefinition) (states : List Local) (number : ℕ) (following : PickDefinition) → slice_get picks (length (chosen plant states number picks)) ≡ Some following
      → refusal_in plant states number picks ≡ None → taken plant (fold plant states (map alone (chosen plant states number picks))) following.take ≡ stuck
  takes-nothing [] states number following comes none = absurd (none-some following comes)
  takes-nothing (pick ∷ picks) states number following comes none =
      each (λ later. takes-nothing picks later (number + 1) following) (taken_as plant states number pick.take) refl comes none
    where
      each : ((later : List Local) → slice_get picks (length (chosen plant later (number + 1) picks)) ≡ Some following → refusal_in plant later (number + 1) picks ≡ None
          → taken plant (fold plant later (map alone (chosen plant later (number + 1) picks))) following.take ≡ stuck)
          → (t : Taken) → taken_as plant states number pick.take ≡ t → slice_get (pick ∷ picks) (length (chosen_by states number picks t)) ≡ Some following → refusal_by states number pick picks t ≡ None
          → taken plant (fold plant states (map alone (chosen_by states number picks t))) following.take ≡ stuck
      each more (fires c) is at kept = more (next plant states (alone c)) at kept
      each more stuck is at kept = ap (λ p. taken plant states p.take) (sym (same_Some pick following at)) ∙ stuck-as plant states number pick.take is
      each more (refused why) is at kept = absurd (none-some _ (sym kept))

module _ (parts : Parts) (plant : PlantDefinition) where
  abbrev told_by : List Local → ℕ → List PickDefinition → Taken → List ℕ
  told_by states number picks t =
      by_taken t (λ c. parts.fired plant states number c ++ printed_from parts plant (next plant states (alone c)) (number + 1) picks)
      (parts.stuck plant states ++ parts.end plant states number) (λ why. [])

  -- what is printed after choices where there is no other
  abbrev behind : List Local → List ChoiceDefinition → ℕ → List ℕ
  behind states cs number = parts.stuck plant (fold plant states (map alone cs)) ++ parts.end plant (fold plant states (map alone cs)) number

  -- where each pick takes a choice, these are printed, and the end
  pub told-ended : (picks : List PickDefinition) (states : List Local) (number : ℕ) → length (chosen plant states number picks) ≡ length picks
      → printed_from parts plant states number picks
      ≡ steps_printed parts plant states number (chosen plant states number picks) ++ parts.end plant (fold plant states (map alone (chosen plant states number picks))) (number + length picks)
  told-ended [] states number all = ap (parts.end plant states) (let e : number ≡ number + 0 = omega arith in e)
  told-ended (pick ∷ picks) states number all = each (λ later. told-ended picks later (number + 1)) (taken_as plant states number pick.take) all
    where
      each : ((later : List Local) → length (chosen plant later (number + 1) picks) ≡ length picks → printed_from parts plant later (number + 1) picks
          ≡ steps_printed parts plant later (number + 1) (chosen plant later (number + 1) picks) ++ parts.end plant (fold plant later (map alone (chosen plant later (number + 1) picks))) (number + 1 + length picks))
          → (t : Taken) → length (chosen_by plant states number picks t) ≡ length (pick ∷ picks) → told_by states number picks t
          ≡ steps_printed parts plant states number (chosen_by plant states number picks t) ++ parts.end plant (fold plant states (map alone (chosen_by plant states number picks t))) (number + length (pick ∷ picks))
      each more (fires c) same =
          let after = next plant states (alone c) in
          let cs = chosen plant after (number + 1) picks in
          let first = parts.fired plant states number c in
          let later : length cs ≡ length picks = omega (arith, same) in
          let count : number + 1 + length picks ≡ number + suc (length picks) = omega arith in
          ap (λ text. first ++ text) (more after later ∙ ap (λ n. steps_printed parts plant after (number + 1) cs ++ parts.end plant (fold plant after (map alone cs)) n) count) ∙
          sym (append_assoc first (steps_printed parts plant after (number + 1) cs) (parts.end plant (fold plant after (map alone cs)) (number + suc (length picks))))
      each more stuck same = absurd (omega (arith, same))
      each more (refused why) same = absurd (omega (arith, same))

  -- where one is refused, the choices before it are printed
  pub told-refused : (picks : List PickDefinition) (states : List Local) (number : ℕ) (refusal : Refusal) → refusal_in plant states number picks ≡ Some refusal
      → printed_from parts plant states number picks ≡ steps_printed parts plant states number (chosen plant states number picks)
  told-refused [] states number refusal is = absurd (none-some refusal is)
  told-refused (pick ∷ picks) states number refusal is = each (λ later. told-refused picks later (number + 1) refusal) (taken_as plant states number pick.take) is
    where
      each : ((later : List Local) → refusal_in plant later (number + 1) picks ≡ Some refusal → printed_from parts plant later (number + 1) picks
          ≡ steps_printed parts plant later (number + 1) (chosen plant later (number + 1) picks))
          → (t : Taken) → refusal_by plant states number pick picks t ≡ Some refusal → told_by states number picks t ≡ steps_printed parts plant states number (chosen_by plant states number picks t)
      each more (fires c) same = ap (λ text. parts.fired plant states number c ++ text) (more (next plant states (alone c)) same)
      each more stuck same = absurd (none-some refusal same)
      each more (refused why) same = refl

  -- and where there is no choice for one, that too, and the end
  pub told-stuck : (picks : List PickDefinition) (states : List Local) (number : ℕ) → length (chosen plant states number picks) < length picks → refusal_in plant states number picks ≡ None
      → printed_from parts plant states number picks ≡ steps_printed parts plant states number (chosen plant states number picks)
      ++ behind states (chosen plant states number picks) (number + length (chosen plant states number picks))
  told-stuck [] states number fewer none = absurd (omega (arith, fewer))
  told-stuck (pick ∷ picks) states number fewer none = each (λ later. told-stuck picks later (number + 1)) (taken_as plant states number pick.take) fewer none
    where
      each : ((later : List Local) → length (chosen plant later (number + 1) picks) < length picks → refusal_in plant later (number + 1) picks ≡ None → printed_from parts plant later (number + 1) picks
          ≡ steps_printed parts plant later (number + 1) (chosen plant later (number + 1) picks) ++ behind later (chosen plant later (number + 1) picks) (number + 1 + length (chosen plant later (number + 1) picks)))
          → (t : Taken) → length (chosen_by plant states number picks t) < length (pick ∷ picks) → refusal_by plant states number pick picks t ≡ None → told_by states number picks t
          ≡ steps_printed parts plant states number (chosen_by plant states number picks t) ++ behind states (chosen_by plant states number picks t) (number + length (chosen_by plant states number picks t))
      each more (fires c) few kept =
          let after = next plant states (alone c) in
          let cs = chosen plant after (number + 1) picks in
          let first = parts.fired plant states number c in
          let count : number + 1 + length cs ≡ number + suc (length cs) = omega arith in
          ap (λ text. first ++ text) (more after (omega (arith, few)) kept ∙ ap (λ n. steps_printed parts plant after (number + 1) cs ++ behind after cs n) count) ∙
          sym (append_assoc first (steps_printed parts plant after (number + 1) cs) (behind after cs (number + suc (length cs))))
      each more stuck few kept = ap (λ n. parts.stuck plant states ++ parts.end plant states n) (let e : number ≡ number + 0 = omega arith in e)
      each more (refused why) few kept = absurd (none-some _ (sym kept))
