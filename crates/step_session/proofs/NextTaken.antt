-- What the next pick takes, of the picks that are left.
use Rattle.std.proofs.Common.{◌≡◌, ◌∙◌, ap, ℕ, ◌+◌, List, [], ◌∷◌}
use Rattle.std.specs.Prelude.{Option, Some, None, IfSome}
use Rattle.petri_atom.specs.Local.{Local}
use Rattle.plant_model.specs.Plant.{PlantDefinition}
use Rattle.plant_model.specs.Choice.{ChoiceDefinition}
use Rattle.plant_model.specs.Step.{next}
use Rattle.run_text.specs.Alone.{alone}
use Rattle.run_text.specs.Picks.{Gives, PickDefinition, pick_of, take_of}
use Rattle.run_text.specs.Runs.{chosen, refusal_in}
use Rattle.run_text.specs.Taken.{Taken, by_taken, fires, refused, stuck, taken_as}
use Rattle.run_text.specs.declared.fault.Refusal.{Refusal}
use Rattle.run_text.specs.declared.fault.RefusedPick.{RefusedPick}
use Rattle.run_text.specs.declared.pick.Pick.{Pick}
use Rattle.step_session.specs.Behind.{TakesNext}

module _ (plant : PlantDefinition) (states : List Local) (number : ℕ) where
  -- what picks choose and refuse, by what comes of the first
  abbrev chosen_by : List PickDefinition → Taken → List ChoiceDefinition
  chosen_by rest t = by_taken t (λ c. c ∷ chosen plant (next plant states (alone c)) (number + 1) rest) [] (λ why. [])

  abbrev refusal_by : ℕ → List PickDefinition → Taken → Option Refusal
  refusal_by place rest t = by_taken t (λ c. refusal_in plant (next plant states (alone c)) (number + 1) rest) None (λ why. Some (record { place = place; why = why }))

  module _ (pick : Pick) (picks rest : List PickDefinition) (first : picks ≡ pick_of pick ∷ rest) (t : Taken) (comes : taken_as plant states number (take_of pick.take) ≡ t) where
    chosen-first : chosen plant states number picks ≡ chosen_by rest t
    chosen-first = ap (chosen plant states number) first ∙ ap (chosen_by rest) comes

    refusal-first : refusal_in plant states number picks ≡ refusal_by pick.place rest t
    refusal-first = ap (refusal_in plant states number) first ∙ ap (refusal_by pick.place rest) comes

  -- no pick is left
  pub next-none : (old new : Option (List PickDefinition)) → Gives old new None → TakesNext plant states number old None new
  next-none None new gives = tt
  next-none (Some picks) None gives = absurd gives
  next-none (Some picks) (Some rest) gives = (ap (chosen plant states number) gives.0, ap (refusal_in plant states number) gives.0)

  module _ (pick : Pick) where
    -- the next one takes a choice
    pub next-fires : (c : ChoiceDefinition) → taken_as plant states number (take_of pick.take) ≡ fires c → (old new : Option (List PickDefinition)) → Gives old new (Some pick)
        → TakesNext plant states number old (Some c) new
    next-fires c comes None new gives = tt
    next-fires c comes (Some picks) None gives = absurd gives
    next-fires c comes (Some picks) (Some rest) gives = (chosen-first pick picks rest gives (fires c) comes, refusal-first pick picks rest gives (fires c) comes)

    -- it finds none
    pub next-stuck : taken_as plant states number (take_of pick.take) ≡ stuck → (old new : Option (List PickDefinition)) → Gives old new (Some pick) → TakesNext plant states number old None new
    next-stuck comes None new gives = tt
    next-stuck comes (Some picks) None gives = absurd gives
    next-stuck comes (Some picks) (Some rest) gives = (chosen-first pick picks rest gives stuck comes, refusal-first pick picks rest gives stuck comes)

    -- it is refused
    pub next-refused : (why : RefusedPick) → taken_as plant states number (take_of pick.take) ≡ refused why → (old new : Option (List PickDefinition)) → Gives old new (Some pick)
        → IfSome old (λ picks. refusal_in plant states number picks ≡ Some (record { place = pick.place; why = why }))
    next-refused why comes None new gives = tt
    next-refused why comes (Some picks) None gives = absurd gives
    next-refused why comes (Some picks) (Some rest) gives = refusal-first pick picks rest gives (refused why) comes
