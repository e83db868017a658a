-- What picks take.
use Rattle.std.proofs.Common.{◌≡◌, ◌⊎◌, inl, inr, ℕ, ◌+◌, ◌%◌, ◌^◌, ◌<◌, ◌≤◌, refl, sym, ◌∙◌, ap, List, [], ◌∷◌, length, get_or, cond, nat_lt, arith, Bool, true, false}
use Rattle.std.specs.Prelude.{Option, Some, None, slice_get}
use Rattle.std.specs.Option.{option_map_or}
use Rattle.std.proofs.Math.Nat.{mod-lt}
use Rattle.std.proofs.lemmas.Bool.{cond-true, false≢true, lt-ltb, ltb-true}
use Rattle.std.proofs.lemmas.Option.{none-some, slice_get-get_or}
use Rattle.petri_atom.specs.Local.{Local}
use Rattle.plant_model.specs.Plant.{PlantDefinition}
use Rattle.plant_model.specs.Choice.{ChoiceDefinition, IsAllowed, choices}
use Rattle.plant_model.specs.Step.{next}
use Rattle.plant_model.proofs.Membership.{entry-in}
use Rattle.run_text.specs.Alone.{alone}
use Rattle.run_text.specs.Picks.{TakeDefinition, by_weights, counted, weighted, numbered, named, misread, placed}
use Rattle.run_text.specs.Runs.{refusal_in}
use Rattle.run_text.specs.Taken.{Taken, fires, stuck, refused, by_taken, is_among, picked, taken, taken_as}
use Rattle.run_text.specs.Weights.{by_weight}
use Rattle.run_text.specs.Weightless.{IsWeightless}
use Rattle.run_text.specs.declared.fault.RefusedPick.TheVariants.{PastList, NotPossible, TooMany}
use Rattle.run_text.specs.declared.fault.Refusal.{Refusal}
use Rattle.run_text.proofs.Among.{among-contains}
use Rattle.run_text.proofs.Shares.{by-weight-allowed, weightless}

-- where the entry at a number modulo the length is missing, the list is empty
none-of-empty : {X : Type 0} (xs : List X) (n : ℕ) → slice_get xs (n % length xs) ≡ None → xs ≡ []
none-of-empty [] n missing = refl
none-of-empty (x ∷ xs) n missing =
    let within : n % length (x ∷ xs) < length (x ∷ xs) = mod-lt n (omega arith) in
    absurd (none-some (get_or (x ∷ xs) (n % length (x ∷ xs)) x) (sym missing ∙ slice_get-get_or (x ∷ xs) (n % length (x ∷ xs)) x within))

-- the choice that is fired
abbrev fired_or : ChoiceDefinition → Taken → ChoiceDefinition
fired_or d (fires c) = c
fired_or d stuck = d
fired_or d (refused why) = d

same-fires : (c d : ChoiceDefinition) → fires c ≡ fires d → c ≡ d
same-fires c d e = ap (fired_or c) e

-- what is fired is no other than fired
abbrev is_stuck : Taken → Bool
is_stuck (fires c) = false
is_stuck stuck = true
is_stuck (refused why) = false

abbrev is_fired : Taken → Bool
is_fired (fires c) = true
is_fired stuck = false
is_fired (refused why) = false

module _ (plant : PlantDefinition) (states : List Local) where
  abbrev cs : List ChoiceDefinition
  cs = choices plant states

  -- an entry that is fired is allowed
  entry-allowed : (k : ℕ) (none : Taken) (c : ChoiceDefinition) → is_fired none ≡ false → option_map_or (λ d. fires d) (slice_get cs k) none ≡ fires c → IsAllowed plant states c
  entry-allowed k none c other is = each (slice_get cs k) refl is
    where
      each : (o : Option ChoiceDefinition) → slice_get cs k ≡ o → option_map_or (λ d. fires d) o none ≡ fires c → IsAllowed plant states c
      each None at e = absurd (false≢true (sym other ∙ ap is_fired e))
      each (Some d) at e = entry-in cs k c (at ∙ ap Some (same-fires d c e))

  -- a choice that is fired by weights is allowed, and of a connector for which a weight is set
  weighted-fires : (n : ℕ) (weights : List ℕ) (c : ChoiceDefinition) → taken plant states (weighted n weights) ≡ fires c → IsAllowed plant states c × (0 < get_or weights c.connector 0)
  weighted-fires n weights c is = each (by_weight plant states weights n) refl is
    where
      each : (o : Option ChoiceDefinition) → by_weight plant states weights n ≡ o → option_map_or (λ d. fires d) o stuck ≡ fires c → IsAllowed plant states c × (0 < get_or weights c.connector 0)
      each None at e = absurd (false≢true (ap is_fired e))
      each (Some d) at e = by-weight-allowed plant states weights n c (at ∙ ap Some (same-fires d c e))

  pub weighted-weighs : (n : ℕ) (weights : List ℕ) (c : ChoiceDefinition) → taken plant states (weighted n weights) ≡ fires c → 0 < get_or weights c.connector 0
  weighted-weighs n weights c is = (weighted-fires n weights c is).1

  -- a named choice that is fired is one of the state's
  named-allowed : (d c : ChoiceDefinition) → taken plant states (named d) ≡ fires c → IsAllowed plant states c
  named-allowed d c is = each (is_among cs d) refl is
    where
      each : (b : Bool) → is_among cs d ≡ b → cond b (fires d) (refused NotPossible) ≡ fires c → IsAllowed plant states c
      each true among e = (among-contains cs c).0 (ap (is_among cs) (sym (same-fires d c e)) ∙ among)
      each false among e = absurd (false≢true (ap is_fired e))

  -- what a pick fires is allowed
  pub taken-allowed : (take : TakeDefinition) (c : ChoiceDefinition) → taken plant states take ≡ fires c → IsAllowed plant states c
  taken-allowed (counted n) c is = entry-allowed (n % length cs) stuck c refl is
  taken-allowed (weighted n weights) c is = (weighted-fires n weights c is).0
  taken-allowed (numbered n) c is = entry-allowed n (refused (PastList n (length cs))) c refl is
  taken-allowed (named d) c is = named-allowed d c is
  taken-allowed (misread why) c is = absurd (false≢true (ap is_fired is))

  -- an allowed choice is fired where it is named
  pub named-fired : (c : ChoiceDefinition) → IsAllowed plant states c → taken plant states (named c) ≡ fires c
  named-fired c allowed = cond-true (is_among cs c) (fires c) (refused NotPossible) ((among-contains cs c).1 allowed)

  -- where a pick takes nothing, there is no choice, or it is by weights that add up to nothing
  pub taken-stuck : (take : TakeDefinition) → taken plant states take ≡ stuck → (choices plant states ≡ []) ⊎ IsWeightless plant states take
  taken-stuck (counted n) is = each (picked plant states n) refl is
    where
      each : (o : Option ChoiceDefinition) → picked plant states n ≡ o → option_map_or (λ d. fires d) o stuck ≡ stuck → (choices plant states ≡ []) ⊎ IsWeightless plant states (counted n)
      each None at e = inl (none-of-empty cs n at)
      each (Some d) at e = absurd (false≢true (ap is_stuck e))
  taken-stuck (weighted n weights) is = each (by_weight plant states weights n) refl is
    where
      each : (o : Option ChoiceDefinition) → by_weight plant states weights n ≡ o → option_map_or (λ d. fires d) o stuck ≡ stuck → (choices plant states ≡ []) ⊎ IsWeightless plant states (weighted n weights)
      each None at e = inr (weightless plant states weights n at)
      each (Some d) at e = absurd (false≢true (ap is_stuck e))
  taken-stuck (numbered n) is = each (slice_get cs n) is
    where
      each : (o : Option ChoiceDefinition) → option_map_or (λ d. fires d) o (refused (PastList n (length cs))) ≡ stuck → (choices plant states ≡ []) ⊎ IsWeightless plant states (numbered n)
      each None e = absurd (false≢true (ap is_stuck e))
      each (Some d) e = absurd (false≢true (ap is_stuck e))
  taken-stuck (named c) is = each (is_among cs c) is
    where
      each : (b : Bool) → cond b (fires c) (refused NotPossible) ≡ stuck → (choices plant states ≡ []) ⊎ IsWeightless plant states (named c)
      each true e = absurd (false≢true (ap is_stuck e))
      each false e = absurd (false≢true (ap is_stuck e))
  taken-stuck (misread why) is = absurd (false≢true (ap is_stuck is))

  -- the same with the number that the interaction is to have, which then has 64 bits
  pub fires-allowed : (number : ℕ) (take : TakeDefinition) (c : ChoiceDefinition) → taken_as plant states number take ≡ fires c → IsAllowed plant states c × (number < 2 ^ 64)
  fires-allowed number take c is = each (nat_lt number (2 ^ 64)) refl is
    where
      each : (b : Bool) → nat_lt number (2 ^ 64) ≡ b → cond b (taken plant states take) (refused TooMany) ≡ fires c → IsAllowed plant states c × (number < 2 ^ 64)
      each true less e = (taken-allowed take c e, ltb-true number (2 ^ 64) less)
      each false less e = absurd (false≢true (ap is_fired e))

  -- and so is what takes nothing
  pub stuck-as : (number : ℕ) (take : TakeDefinition) → taken_as plant states number take ≡ stuck → taken plant states take ≡ stuck
  stuck-as number take is = each (nat_lt number (2 ^ 64)) is
    where
      each : (b : Bool) → cond b (taken plant states take) (refused TooMany) ≡ stuck → taken plant states take ≡ stuck
      each true e = e
      each false e = absurd (false≢true (ap is_stuck e))

-- numbers that each fire a choice or take nothing, fewer than there are numbers of interactions left, are not refused
none-refused : (plant : PlantDefinition) (take : ℕ → TakeDefinition) → ((states : List Local) (n : ℕ) → (o : Option ChoiceDefinition) × (taken plant states (take n) ≡ option_map_or (λ d. fires d) o stuck))
    → (ns : List ℕ) (states : List Local) (number place : ℕ) → number + length ns ≤ 2 ^ 64 → refusal_in plant states number (placed take place ns) ≡ None
none-refused plant take takes [] states number place few = refl
none-refused plant take takes (n ∷ ns) states number place few =
    let less : number < 2 ^ 64 = omega (arith, few) in
    let fewer : number + 1 + length ns ≤ 2 ^ 64 = omega (arith, few) in
    ap of_taken (cond-true (nat_lt number (2 ^ 64)) (taken plant states (take n)) (refused TooMany) (lt-ltb number (2 ^ 64) less) ∙ (takes states n).1) ∙
    each (λ later. none-refused plant take takes ns later (number + 1) (place + 1) fewer) (takes states n).0
  where
    of_taken : Taken → Option Refusal
    of_taken t =
        by_taken t (λ c. refusal_in plant (next plant states (alone c)) (number + 1) (placed take (place + 1) ns)) None (λ why. Some (record { place = place; why = why }))

    each : ((later : List Local) → refusal_in plant later (number + 1) (placed take (place + 1) ns) ≡ None)
        → (o : Option ChoiceDefinition) → of_taken (option_map_or (λ d. fires d) o stuck) ≡ None
    each more None = refl
    each more (Some c) = more (next plant states (alone c))

-- so are those that are taken modulo how many choices there are
pub counted-not-refused : (plant : PlantDefinition) (ns : List ℕ) (states : List Local) (number place : ℕ) → number + length ns ≤ 2 ^ 64 → refusal_in plant states number (placed counted place ns) ≡ None
counted-not-refused plant ns states number place few = none-refused plant counted (λ here n. (picked plant here n, refl)) ns states number place few

-- and those that are taken by weights
pub weighted-not-refused : (plant : PlantDefinition) (weights ns : List ℕ) (states : List Local) (number place : ℕ) → number + length ns ≤ 2 ^ 64
    → refusal_in plant states number (placed (by_weights weights) place ns) ≡ None
weighted-not-refused plant weights ns states number place few = none-refused plant (by_weights weights) (λ here n. (by_weight plant here weights n, refl)) ns states number place few
