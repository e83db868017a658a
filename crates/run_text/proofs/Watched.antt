-- The picks of a run that is watched.
use Rattle.std.proofs.Common.{◌≡◌, ◌≢◌, ℕ, ◌+◌, ◌==◌, ◌∙◌, ap, sym, refl, subst, arith, Bool, true, false, List, [], ◌∷◌, length, if◌then◌else◌}
use Rattle.std.specs.Prelude.{Option, Some, None, option_map, is_some}
use Rattle.std.proofs.lemmas.Bool.Decides.{nat_tests}
use Rattle.petri_atom.specs.Local.{Local}
use Rattle.plant_model.specs.Plant.{PlantDefinition}
use Rattle.plant_model.specs.Choice.{ChoiceDefinition, choices}
use Rattle.plant_model.specs.Step.{next}
use Rattle.run_text.specs.Alone.{alone}
use Rattle.run_text.specs.Picks.{Gives, PickDefinition, counted, pick_of}
use Rattle.run_text.specs.Taken.{fires, by_taken, taken_as}
use Rattle.run_text.specs.Watched.{Held, last_pick, left_behind, picks_until, watched}
use Rattle.run_text.specs.declared.pick.Pick.{Pick}

-- the last pick of a state with no choice
the-last : (plant : PlantDefinition) (states : List Local) → length (choices plant states) ≡ 0 → last_pick plant states ≡ record { place = 0; take = counted 0 } ∷ []
the-last plant states none = ap (λ (n : ℕ). if n == 0 then record { place = 0; take = counted 0 } ∷ [] else []) none

-- a state with a choice has none
no-last : (plant : PlantDefinition) (states : List Local) → length (choices plant states) ≢ 0 → last_pick plant states ≡ []
no-last plant states some =
    let test : (length (choices plant states) == 0) ≡ false = grind (arith, nat_tests, some) in
    ap (λ (b : Bool). if b then record { place = 0; take = counted 0 } ∷ [] else []) test

module _ (held : Held) (plant : PlantDefinition) (states : List Local) (number : ℕ) where
  -- where something holds, no pick is taken but the last
  until-held : (picks : List PickDefinition) → is_some (held plant states) ≡ true → picks_until held plant states number picks ≡ last_pick plant states
  until-held [] is = ap (λ (b : Bool). if b then last_pick plant states else []) is
  until-held (pick ∷ picks) is =
      ap (λ (b : Bool). if b then last_pick plant states
      else pick ∷ by_taken (taken_as plant states number pick.take) (λ c. picks_until held plant (next plant states (alone c)) (number + 1) picks) picks (λ why. picks)) is

  -- where nothing holds, the next pick is taken
  until-next : (pick : PickDefinition) (picks : List PickDefinition) → held plant states ≡ None
      → picks_until held plant states number (pick ∷ picks) ≡ pick ∷ by_taken (taken_as plant states number pick.take) (λ c. picks_until held plant (next plant states (alone c)) (number + 1) picks) picks (λ why. picks)
  until-next pick picks is =
      ap (λ h. if is_some h then last_pick plant states
      else pick ∷ by_taken (taken_as plant states number pick.take) (λ c. picks_until held plant (next plant states (alone c)) (number + 1) picks) picks (λ why. picks)) is

  until-none : held plant states ≡ None → picks_until held plant states number [] ≡ []
  until-none is = ap (λ h. if is_some h then last_pick plant states else []) is

  -- what is left behind a pick where nothing holds
  behind-next : (pick : PickDefinition) (left : Option (List PickDefinition)) → held plant states ≡ None
      → left_behind held plant states number (Some pick) left
      ≡ option_map (λ picks. by_taken (taken_as plant states number pick.take) (λ c. picks_until held plant (next plant states (alone c)) (number + 1) picks) picks (λ why. picks)) left
  behind-next pick left is =
      ap (λ h. if is_some h then option_map (λ (picks : List PickDefinition). []) left
      else option_map (λ picks. by_taken (taken_as plant states number pick.take) (λ c. picks_until held plant (next plant states (alone c)) (number + 1) picks) picks (λ why. picks)) left) is

  -- and where something does
  behind-held : (pick : PickDefinition) (left : Option (List PickDefinition)) → is_some (held plant states) ≡ true
      → left_behind held plant states number (Some pick) left ≡ option_map (λ (picks : List PickDefinition). []) left
  behind-held pick left is =
      ap (λ (b : Bool). if b then option_map (λ (picks : List PickDefinition). []) left
      else option_map (λ picks. by_taken (taken_as plant states number pick.take) (λ c. picks_until held plant (next plant states (alone c)) (number + 1) picks) picks (λ why. picks)) left) is

  -- where nothing holds, a source gives what is left of the watched run
  pub gives-unheld : (old new : Option (List PickDefinition)) (given : Option Pick) → held plant states ≡ None → Gives old new given
      → Gives (watched held plant states number old) (left_behind held plant states number (option_map pick_of given) new) given
  gives-unheld None new given is gives = tt
  gives-unheld (Some picks) None given is gives = absurd gives
  gives-unheld (Some picks) (Some rest) None is gives = (ap (picks_until held plant states number) gives.0 ∙ until-none is, refl)
  gives-unheld (Some picks) (Some rest) (Some pick) is gives =
      subst (λ behind. Gives (watched held plant states number (Some picks)) behind (Some pick)) (sym (behind-next (pick_of pick) (Some rest) is))
      (ap (picks_until held plant states number) gives ∙ until-next (pick_of pick) rest is)

  -- where something holds in a state with a choice, none is given
  pub gives-held : (left : Option (List PickDefinition)) → is_some (held plant states) ≡ true → length (choices plant states) ≢ 0
      → Gives (watched held plant states number left) (left_behind held plant states number None left) None
  gives-held None is some = tt
  gives-held (Some picks) is some = (until-held picks is ∙ no-last plant states some, refl)

  -- and in a state without one, the last is
  pub gives-last : (left : Option (List PickDefinition)) (pick : Pick) → is_some (held plant states) ≡ true → length (choices plant states) ≡ 0 → pick_of pick ≡ record { place = 0; take = counted 0 }
      → Gives (watched held plant states number left) (left_behind held plant states number (Some (pick_of pick)) left) (Some pick)
  gives-last None pick is none last = tt
  gives-last (Some picks) pick is none last =
      subst (λ behind. Gives (watched held plant states number (Some picks)) behind (Some pick)) (sym (behind-held (pick_of pick) (Some picks) is))
      (until-held picks is ∙ the-last plant states none ∙ ap (λ p. p ∷ []) (sym last))

  -- behind a pick that fires a choice is left what is left in the state after it
  pub left-after : (pick : PickDefinition) (left : Option (List PickDefinition)) (c : ChoiceDefinition) → held plant states ≡ None → taken_as plant states number pick.take ≡ fires c
      → left_behind held plant states number (Some pick) left ≡ watched held plant (next plant states (alone c)) (number + 1) left
  left-after pick left c is taken_is =
      behind-next pick left is
      ∙ ap (λ t. option_map (λ picks. by_taken t (λ d. picks_until held plant (next plant states (alone d)) (number + 1) picks) picks (λ why. picks)) left) taken_is
