-- A run by picks that goes on.
use Rattle.std.proofs.Common.{◌≡◌, ℕ, ◌+◌, ◌∙◌, ap, sym, refl, subst, arith, List, [], ◌∷◌, ◌++◌, length, map}
use Rattle.std.specs.Prelude.{Option, Some, None, IfSome, flat_map}
use Rattle.std.specs.Io.KnownBytes.{Appends}
use Rattle.std.proofs.KnownBytes.{Appends-nil}
use Rattle.std.proofs.lemmas.Option.{none-some, same_Some}
use Rattle.petri_atom.specs.Local.{Local}
use Rattle.plant_model.specs.Plant.{PlantDefinition}
use Rattle.plant_model.specs.Choice.{ChoiceDefinition}
use Rattle.plant_model.specs.Runs.{fold}
use Rattle.plant_model.specs.Step.{next}
use Rattle.text_io.proofs.Leading.{Leads, leads-more, leads-same}
use Rattle.run_text.specs.Alone.{alone}
use Rattle.run_text.specs.History.{History, told_after}
use Rattle.run_text.specs.Picks.{Gives, PickDefinition, pick_of, take_of}
use Rattle.run_text.specs.Runs.{chosen, refusal_in}
use Rattle.run_text.specs.Steps.{Parts, saved_from, saved_line, printed_from}
use Rattle.run_text.specs.Taken.{Taken, fires, stuck, refused, by_taken, taken_as}
use Rattle.run_text.specs.declared.fault.Refusal.{Refusal}
use Rattle.run_text.specs.declared.fault.RefusedPick.{RefusedPick}
use Rattle.run_text.specs.declared.pick.Pick.{Pick}

-- where a run stands: its state, the number that comes next, the picks that are left, what was fired so far, and what the two writers have taken
pub record Stand : Type 0 where
  pub states : List Local
  pub number : ℕ
  pub left : Option (List PickDefinition)
  pub told : History
  pub printed : Option (List ℕ)
  pub saved : Option (List ℕ)

-- by picks that were known at the start, what is left of the run is what was left of it at the start, but for what was printed and saved
pub record GoesOn (parts : Parts) (plant : PlantDefinition) (picks : List PickDefinition) (start now : Stand) : Type 0 where
  pub rest : List PickDefinition
  pub known : now.left ≡ Some rest
  pub printed : Leads start.printed now.printed (printed_from parts plant now.states now.number rest) (printed_from parts plant start.states start.number picks)
  pub saved : Leads start.saved now.saved (saved_from plant now.states now.number rest) (saved_from plant start.states start.number picks)
  pub refusal : refusal_in plant now.states now.number rest ≡ refusal_in plant start.states start.number picks
  pub told : told_after plant now.states (chosen plant now.states now.number rest) now.told ≡ told_after plant start.states (chosen plant start.states start.number picks) start.told
  pub end : fold plant now.states (map alone (chosen plant now.states now.number rest)) ≡ fold plant start.states (map alone (chosen plant start.states start.number picks))
  pub count : now.number + length (chosen plant now.states now.number rest) ≡ start.number + length (chosen plant start.states start.number picks)

-- nothing is left but what comes after the last choice: this text
pub record IsPast (plant : PlantDefinition) (parts : Parts) (picks : List PickDefinition) (start : Stand) (refusal : Option Refusal) (states : List Local) (told : History) (printed saved : Option (List ℕ)) (left : List ℕ) : Type 0 where
  pub printed_left : Leads start.printed printed left (printed_from parts plant start.states start.number picks)
  pub saved_all : Appends start.saved saved (saved_from plant start.states start.number picks)
  pub refusal_is : refusal ≡ refusal_in plant start.states start.number picks
  pub told_is : told ≡ told_after plant start.states (chosen plant start.states start.number picks) start.told
  pub end_is : states ≡ fold plant start.states (map alone (chosen plant start.states start.number picks))

-- what holds of picks that are known holds where they are
pub if-known : (known : Option (List PickDefinition)) (P : List PickDefinition → Type 0) → ((picks : List PickDefinition) → known ≡ Some picks → P picks) → IfSome known P
if-known None P holds = tt
if-known (Some picks) P holds = holds picks refl

-- a pick that is given is the first of those that are known, and the others are left
gives-first : (old new : Option (List PickDefinition)) (pick : Pick) (picks : List PickDefinition) → old ≡ Some picks → Gives old new (Some pick)
    → (rest : List PickDefinition) × (picks ≡ pick_of pick ∷ rest) × (new ≡ Some rest)
gives-first None new pick picks known gives = absurd (none-some picks known)
gives-first (Some xs) None pick picks known gives = absurd gives
gives-first (Some xs) (Some rest) pick picks known gives = (rest, sym (same_Some xs picks known) ∙ gives, refl)

-- where none is given, none is left
gives-none : (old new : Option (List PickDefinition)) (picks : List PickDefinition) → old ≡ Some picks → Gives old new None → picks ≡ []
gives-none None new picks known gives = absurd (none-some picks known)
gives-none (Some xs) None picks known gives = absurd gives
gives-none (Some xs) (Some rest) picks known gives = sym (same_Some xs picks known) ∙ gives.0

-- all of a text was printed where nothing of it is left
leads-all : (start now : Option (List ℕ)) (left all : List ℕ) → Leads start now left all → left ≡ [] → Appends start now all
leads-all start now left all leads none = leads.by now (subst (Appends now now) (sym none) (Appends-nil now))

module _ {plant : PlantDefinition} {parts : Parts} {picks : List PickDefinition} {start : Stand} {refusal : Option Refusal} {states : List Local} {told : History} {printed saved : Option (List ℕ)} where
  -- all is printed where what is left is
  pub printed-last : {left : List ℕ} (after : Option (List ℕ)) → IsPast plant parts picks start refusal states told printed saved left → Appends printed after left
      → Appends start.printed after (printed_from parts plant start.states start.number picks)
  printed-last after past last = past.printed_left.by after last

  -- and where nothing is left
  pub told-all : IsPast plant parts picks start refusal states told printed saved [] → Appends start.printed printed (printed_from parts plant start.states start.number picks)
  told-all past = past.printed_left.by printed (Appends-nil printed)

  -- what is ready after all that was fired is so after the choices that picks took
  pub ready-last : {left : List ℕ} (IsReady : PlantDefinition → History → List Local → Type 0) (present : PlantDefinition) → present ≡ plant
      → IsPast plant parts picks start refusal states told printed saved left → IsReady present told states
      → IsReady plant (told_after plant start.states (chosen plant start.states start.number picks) start.told) (fold plant start.states (map alone (chosen plant start.states start.number picks)))
  ready-last IsReady present plant_is past ready =
      subst (IsReady plant (told_after plant start.states (chosen plant start.states start.number picks) start.told)) past.end_is
      (subst (λ h. IsReady plant h states) past.told_is (subst (λ p. IsReady p told states) plant_is ready))

module _ (parts : Parts) (plant : PlantDefinition) where
  -- what is left of a run from a state on, by what comes of its first pick
  abbrev told_by : List Local → ℕ → List PickDefinition → Taken → List ℕ
  told_by states number rest t =
      by_taken t (λ c. parts.fired plant states number c ++ printed_from parts plant (next plant states (alone c)) (number + 1) rest)
      (parts.stuck plant states ++ parts.end plant states number) (λ why. [])

  abbrev chosen_by : List Local → ℕ → List PickDefinition → Taken → List ChoiceDefinition
  chosen_by states number rest t = by_taken t (λ c. c ∷ chosen plant (next plant states (alone c)) (number + 1) rest) [] (λ why. [])

  abbrev refusal_by : List Local → ℕ → ℕ → List PickDefinition → Taken → Option Refusal
  refusal_by states number place rest t =
      by_taken t (λ c. refusal_in plant (next plant states (alone c)) (number + 1) rest) None (λ why. Some (record { place = place; why = why }))

  -- the same of picks that begin with one, and what comes of that
  told-first : (states : List Local) (number : ℕ) (pick : PickDefinition) (picks rest : List PickDefinition) (t : Taken) → picks ≡ pick ∷ rest → taken_as plant states number pick.take ≡ t
      → printed_from parts plant states number picks ≡ told_by states number rest t
  told-first states number pick picks rest t first taken_is = ap (printed_from parts plant states number) first ∙ ap (told_by states number rest) taken_is

  chosen-first : (states : List Local) (number : ℕ) (pick : PickDefinition) (picks rest : List PickDefinition) (t : Taken) → picks ≡ pick ∷ rest → taken_as plant states number pick.take ≡ t
      → chosen plant states number picks ≡ chosen_by states number rest t
  chosen-first states number pick picks rest t first taken_is = ap (chosen plant states number) first ∙ ap (chosen_by states number rest) taken_is

  refusal-first : (states : List Local) (number : ℕ) (pick : PickDefinition) (picks rest : List PickDefinition) (t : Taken) → picks ≡ pick ∷ rest → taken_as plant states number pick.take ≡ t
      → refusal_in plant states number picks ≡ refusal_by states number pick.place rest t
  refusal-first states number pick picks rest t first taken_is = ap (refusal_in plant states number) first ∙ ap (refusal_by states number pick.place rest) taken_is

  -- a run stands where it starts
  pub goes-from-start : (picks : List PickDefinition) (start : Stand) → start.left ≡ Some picks → GoesOn parts plant picks start start
  goes-from-start picks start known = record {
    rest = picks;
    known = known;
    printed = record { by = λ later all. all };
    saved = record { by = λ later all. all };
    refusal = refl;
    told = refl;
    end = refl;
    count = refl;
  }

  -- the choice that a pick takes is printed and saved, and the run goes on from the state after it
  goes-behind-here : (picks : List PickDefinition) (start now : Stand) → GoesOn parts plant picks start now → (pick : Pick) (c : ChoiceDefinition) (states : List Local) (number : ℕ) (behind : Option (List PickDefinition)) (printed saved : Option (List ℕ))
      → Gives now.left behind (Some pick) → taken_as plant now.states now.number (take_of pick.take) ≡ fires c → states ≡ next plant now.states (alone c) → number ≡ now.number + 1
      → Appends now.printed printed (parts.fired plant now.states now.number c) → Appends now.saved saved (saved_line plant c)
      → GoesOn parts plant picks start (record { states = states; number = number; left = behind; told = record { before = now.states; choice = c } ∷ now.told; printed = printed; saved = saved })
  goes-behind-here picks start now goes pick c states number behind printed saved gives taken_is states_is number_is shown kept =
      let given = gives-first now.left behind pick goes.rest goes.known gives in
      let rest = given.0 in
      let later = next plant now.states (alone c) in
      let text : printed_from parts plant later (now.number + 1) rest ≡ printed_from parts plant states number rest =
      ap (λ s. printed_from parts plant s (now.number + 1) rest) (sym states_is) ∙ ap (λ n. printed_from parts plant states n rest) (sym number_is) in
      let chosen_same : chosen plant later (now.number + 1) rest ≡ chosen plant states number rest =
      ap (λ s. chosen plant s (now.number + 1) rest) (sym states_is) ∙ ap (λ n. chosen plant states n rest) (sym number_is) in
      let refused_same : refusal_in plant later (now.number + 1) rest ≡ refusal_in plant states number rest =
      ap (λ s. refusal_in plant s (now.number + 1) rest) (sym states_is) ∙ ap (λ n. refusal_in plant states n rest) (sym number_is) in
      let here = chosen-first now.states now.number (pick_of pick) goes.rest rest (fires c) given.1 taken_is in
      record {
        rest = rest;
        known = given.2;
        printed = leads-same (leads-more _ _ _ _ _ _ (leads-same goes.printed (told-first now.states now.number (pick_of pick) goes.rest rest (fires c) given.1 taken_is)) shown) text;
        saved = leads-same (leads-more _ _ _ _ _ _ (leads-same goes.saved (ap (flat_map (saved_line plant)) here)) kept) (ap (flat_map (saved_line plant)) chosen_same);
        refusal = sym refused_same ∙ sym (refusal-first now.states now.number (pick_of pick) goes.rest rest (fires c) given.1 taken_is) ∙ goes.refusal;
        told = ap (λ cs. told_after plant states cs (record { before = now.states; choice = c } ∷ now.told)) (sym chosen_same)
            ∙ ap (λ s. told_after plant s (chosen plant later (now.number + 1) rest) (record { before = now.states; choice = c } ∷ now.told)) states_is
            ∙ ap (λ cs. told_after plant now.states cs now.told) (sym here) ∙ goes.told;
        end = ap (λ ds. fold plant states (map alone ds)) (sym chosen_same) ∙ ap (λ s. fold plant s (map alone (chosen plant later (now.number + 1) rest))) states_is ∙ ap (λ ds. fold plant now.states (map alone ds)) (sym here) ∙ goes.end;
        count = omega (arith, ap length chosen_same, ap length here, number_is, goes.count);
      }

  -- where no pick is left, the end is
  past-the-last-here : (picks : List PickDefinition) (start now : Stand) → GoesOn parts plant picks start now → (behind : Option (List PickDefinition)) → Gives now.left behind None
      → IsPast plant parts picks start None now.states now.told now.printed now.saved (parts.end plant now.states now.number)
  past-the-last-here picks start now goes behind gives =
      let none = gives-none now.left behind goes.rest goes.known gives in
      record {
        printed_left = leads-same goes.printed (ap (printed_from parts plant now.states now.number) none);
        saved_all = leads-all _ _ _ _ goes.saved (ap (saved_from plant now.states now.number) none);
        refusal_is = ap (refusal_in plant now.states now.number) (sym none) ∙ goes.refusal;
        told_is = ap (λ ps. told_after plant now.states (chosen plant now.states now.number ps) now.told) (sym none) ∙ goes.told;
        end_is = ap (λ ps. fold plant now.states (map alone (chosen plant now.states now.number ps))) (sym none) ∙ goes.end;
      }

  -- and as many interactions were fired as picks took choices
  count-last-here : (picks : List PickDefinition) (start now : Stand) → GoesOn parts plant picks start now → (behind : Option (List PickDefinition)) → Gives now.left behind None
      → now.number ≡ start.number + length (chosen plant start.states start.number picks)
  count-last-here picks start now goes behind gives =
      omega (arith, ap length (ap (chosen plant now.states now.number) (gives-none now.left behind goes.rest goes.known gives)), goes.count)

  -- where there is no choice, that is printed, and the end is left
  past-stuck-here : (picks : List PickDefinition) (start now : Stand) → GoesOn parts plant picks start now → (pick : Pick) (behind : Option (List PickDefinition)) (printed : Option (List ℕ)) → Gives now.left behind (Some pick)
      → taken_as plant now.states now.number (take_of pick.take) ≡ stuck → Appends now.printed printed (parts.stuck plant now.states)
      → IsPast plant parts picks start None now.states now.told printed now.saved (parts.end plant now.states now.number)
  past-stuck-here picks start now goes pick behind printed gives taken_is shown =
      let given = gives-first now.left behind pick goes.rest goes.known gives in
      let here = chosen-first now.states now.number (pick_of pick) goes.rest given.0 stuck given.1 taken_is in
      record {
        printed_left = leads-more _ _ _ _ _ _ (leads-same goes.printed (told-first now.states now.number (pick_of pick) goes.rest given.0 stuck given.1 taken_is)) shown;
        saved_all = leads-all _ _ _ _ goes.saved (ap (flat_map (saved_line plant)) here);
        refusal_is = sym (refusal-first now.states now.number (pick_of pick) goes.rest given.0 stuck given.1 taken_is) ∙ goes.refusal;
        told_is = ap (λ cs. told_after plant now.states cs now.told) (sym here) ∙ goes.told;
        end_is = ap (λ ds. fold plant now.states (map alone ds)) (sym here) ∙ goes.end;
      }

  -- and as many interactions were fired as picks took choices
  count-stuck-here : (picks : List PickDefinition) (start now : Stand) → GoesOn parts plant picks start now → (pick : Pick) (behind : Option (List PickDefinition)) → Gives now.left behind (Some pick)
      → taken_as plant now.states now.number (take_of pick.take) ≡ stuck → now.number ≡ start.number + length (chosen plant start.states start.number picks)
  count-stuck-here picks start now goes pick behind gives taken_is =
      let given = gives-first now.left behind pick goes.rest goes.known gives in
      omega (arith, ap length (chosen-first now.states now.number (pick_of pick) goes.rest given.0 stuck given.1 taken_is), goes.count)

  -- where a pick is refused, nothing is left
  past-refused-here : (picks : List PickDefinition) (start now : Stand) → GoesOn parts plant picks start now → (pick : Pick) (behind : Option (List PickDefinition)) (why : RefusedPick) → Gives now.left behind (Some pick)
      → taken_as plant now.states now.number (take_of pick.take) ≡ refused why
      → IsPast plant parts picks start (Some (record { place = pick.place; why = why })) now.states now.told now.printed now.saved []
  past-refused-here picks start now goes pick behind why gives taken_is =
      let given = gives-first now.left behind pick goes.rest goes.known gives in
      let here = chosen-first now.states now.number (pick_of pick) goes.rest given.0 (refused why) given.1 taken_is in
      record {
        printed_left = leads-same goes.printed (told-first now.states now.number (pick_of pick) goes.rest given.0 (refused why) given.1 taken_is);
        saved_all = leads-all _ _ _ _ goes.saved (ap (flat_map (saved_line plant)) here);
        refusal_is = sym (refusal-first now.states now.number (pick_of pick) goes.rest given.0 (refused why) given.1 taken_is) ∙ goes.refusal;
        told_is = ap (λ cs. told_after plant now.states cs now.told) (sym here) ∙ goes.told;
        end_is = ap (λ ds. fold plant now.states (map alone ds)) (sym here) ∙ goes.end;
      }

  -- the same, where what is printed and the plant are known to be these
  module _ (picks : List PickDefinition) (start now : Stand) (goes : GoesOn parts plant picks start now) (telling : Parts) (present : PlantDefinition) (parts_is : telling ≡ parts) (plant_is : present ≡ plant) where
    taken-same : (pick : Pick) (t : Taken) → taken_as present now.states now.number (take_of pick.take) ≡ t → taken_as plant now.states now.number (take_of pick.take) ≡ t
    taken-same pick t taken_is = ap (λ p. taken_as p now.states now.number (take_of pick.take)) (sym plant_is) ∙ taken_is

    end-same : parts.end plant now.states now.number ≡ telling.end present now.states now.number
    end-same = ap (λ p. parts.end p now.states now.number) (sym plant_is) ∙ ap (λ (ps : Parts). ps.end present now.states now.number) (sym parts_is)

    pub goes-behind : (pick : Pick) (c : ChoiceDefinition) (states : List Local) (number : ℕ) (behind : Option (List PickDefinition)) (printed saved : Option (List ℕ))
        → Gives now.left behind (Some pick) → taken_as present now.states now.number (take_of pick.take) ≡ fires c → states ≡ next present now.states (alone c) → number ≡ now.number + 1
        → Appends now.printed printed (telling.fired present now.states now.number c) → Appends now.saved saved (saved_line present c)
        → GoesOn parts plant picks start (record { states = states; number = number; left = behind; told = record { before = now.states; choice = c } ∷ now.told; printed = printed; saved = saved })
    goes-behind pick c states number behind printed saved gives taken_is states_is number_is shown kept =
        goes-behind-here picks start now goes pick c states number behind printed saved gives (taken-same pick (fires c) taken_is) (states_is ∙ ap (λ p. next p now.states (alone c)) plant_is) number_is
        (subst (λ (ps : Parts). Appends now.printed printed (ps.fired plant now.states now.number c)) parts_is (subst (λ p. Appends now.printed printed (telling.fired p now.states now.number c)) plant_is shown))
        (subst (λ p. Appends now.saved saved (saved_line p c)) plant_is kept)

    pub past-the-last : (behind : Option (List PickDefinition)) → Gives now.left behind None
        → IsPast plant parts picks start None now.states now.told now.printed now.saved (telling.end present now.states now.number)
    past-the-last behind gives = subst (IsPast plant parts picks start None now.states now.told now.printed now.saved) end-same (past-the-last-here picks start now goes behind gives)

    pub count-last : (behind : Option (List PickDefinition)) → Gives now.left behind None → now.number ≡ start.number + length (chosen plant start.states start.number picks)
    count-last behind gives = count-last-here picks start now goes behind gives

    pub count-stuck : (pick : Pick) (behind : Option (List PickDefinition)) → Gives now.left behind (Some pick)
        → taken_as present now.states now.number (take_of pick.take) ≡ stuck → now.number ≡ start.number + length (chosen plant start.states start.number picks)
    count-stuck pick behind gives taken_is = count-stuck-here picks start now goes pick behind gives (taken-same pick stuck taken_is)

    pub past-stuck : (pick : Pick) (behind : Option (List PickDefinition)) (printed : Option (List ℕ)) → Gives now.left behind (Some pick)
        → taken_as present now.states now.number (take_of pick.take) ≡ stuck → Appends now.printed printed (telling.stuck present now.states)
        → IsPast plant parts picks start None now.states now.told printed now.saved (telling.end present now.states now.number)
    past-stuck pick behind printed gives taken_is shown =
        subst (IsPast plant parts picks start None now.states now.told printed now.saved) end-same
        (past-stuck-here picks start now goes pick behind printed gives (taken-same pick stuck taken_is)
        (subst (λ (ps : Parts). Appends now.printed printed (ps.stuck plant now.states)) parts_is (subst (λ p. Appends now.printed printed (telling.stuck p now.states)) plant_is shown)))

    pub past-refused : (pick : Pick) (behind : Option (List PickDefinition)) (why : RefusedPick) → Gives now.left behind (Some pick)
        → taken_as present now.states now.number (take_of pick.take) ≡ refused why
        → IsPast plant parts picks start (Some (record { place = pick.place; why = why })) now.states now.told now.printed now.saved []
    past-refused pick behind why gives taken_is = past-refused-here picks start now goes pick behind why gives (taken-same pick (refused why) taken_is)
