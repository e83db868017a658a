-- What is delivered, by the places of moves: what a value that is given to an atom leaves.
use Rattle.std.proofs.Common.{◌≡◌, ◌≢◌, ℕ, zero, suc, ◌+◌, ◌<◌, ◌≤◌, ◌==◌, ◌&&◌, Bool, true, false, cond, refl, sym, ◌∙◌, ap, List, [], ◌∷◌, ◌++◌, length, map, take, get_or, set, arith, ⊎_elim, ℤ, lit<, get_or-set_same, get_or-set_other}
use Rattle.std.specs.Prelude.{Option, Some, None, is_some, slice_get, slice_index_or, find, option_map, if◌then◌else◌}
use Rattle.std.specs.List.{range_with_len}
use Rattle.std.specs.Option.{option_map_or, option_or}
use Rattle.std.proofs.Math.Bool.{and-true}
use Rattle.std.proofs.lemmas.Bool.{cases_eq, cases_lt, eq-eqb, eqb-true, ne_eqb, false≢true}
use Rattle.std.proofs.lemmas.List.{take_more, map-append, length-set, set_past}
use Rattle.std.proofs.lemmas.List.Folds.{find-append}
use Rattle.std.proofs.lemmas.Option.{same_Some, slice_get-get_or, get_or_from_slice_get, slice_get_within}
use Rattle.petri_atom.specs.Local.{Local, Row, given}
use Rattle.petri_atom.specs.Expression.{tree_of, value_of}
use Rattle.petri_atom.specs.declared.state.TheConstants.{MAX_EXPORTS}
use Rattle.plant_model.specs.Delivery.{AreApart, AreDelivered, IsChanged, IsFirstOfAtom, IsGiven, IsPlaceOf}
use Rattle.plant_model.specs.BoundExpressions.{DeliveryDefinition, delivery_of, has_all, is_for, value_for, given_for}
use Rattle.plant_model.specs.Values.{value_there}
use Rattle.plant_model.specs.declared.choice.Move.{Move}
use Rattle.plant_model.specs.declared.delivery.Delivery.{Delivery}
use Rattle.plant_model.proofs.FirstFault.{or_none}
use Rattle.plant_model.proofs.Stepping.{no_move}

-- a value, where there is one
abbrev some_if : Bool → ℤ → Option ℤ
some_if b value = cond b (Some value) None

and_false : (b : Bool) → (b && false) ≡ false
and_false true = refl
and_false false = refl

-- where nothing is found, the first element fails the test, and nothing is found behind it
first-fails : {X : Type 0} (y : X) (b : Bool) (o : Option X) → cond b (Some y) o ≡ None → b ≡ false
first-fails y true o some = absurd (false≢true (sym (ap is_some some)))
first-fails y false o none = refl

none-later : {X : Type 0} (y : X) (b : Bool) (o : Option X) → cond b (Some y) o ≡ None → o ≡ None
none-later y true o some = absurd (false≢true (sym (ap is_some some)))
none-later y false o none = none

-- where nothing is found among the first elements, none of them passes the test
none-at : {X : Type 0} (f : X → Bool) (xs : List X) (n k : ℕ) (x : X) → find f (take n xs) ≡ None → k < n → slice_get xs k ≡ Some x → f x ≡ false
none-at f [] n k x none below there = absurd (omega (arith, slice_get_within [] k x there))
none-at f (y ∷ ys) zero k x none below there = absurd (omega arith)
none-at f (y ∷ ys) (suc n) zero x none below there =
    ap f (sym (same_Some y x there)) ∙ first-fails y (f y) (find f (take n ys)) none
none-at f (y ∷ ys) (suc n) (suc k) x none below there =
    none-at f ys n k x (none-later y (f y) (find f (take n ys)) none) (omega arith) there

-- four values
pub four-values : {a b c d e f g h : Option ℤ} → a ≡ e → b ≡ f → c ≡ g → d ≡ h → ◌≡◌ {A = List (Option ℤ)} (a ∷ b ∷ c ∷ d ∷ []) (e ∷ f ∷ g ∷ h ∷ [])
four-values {b = b} {c = c} {d = d} {e = e} {f = f} {g = g} p q r s =
    ap (λ x. x ∷ b ∷ c ∷ d ∷ []) p ∙ ap (λ x. e ∷ x ∷ c ∷ d ∷ []) q ∙ ap (λ x. e ∷ f ∷ x ∷ d ∷ []) r ∙
    ap (λ x. e ∷ f ∷ g ∷ x ∷ []) s

-- the values of a port's variables, of which one may be new
module _ (before after : ℕ → Option ℤ) (value : ℤ) where
  abbrev IsAfter : ℕ → Type 0
  IsAfter export = (e : ℕ) → e < MAX_EXPORTS → after e ≡ option_or (before e) (some_if (export == e) value)

  kept : (export e : ℕ) → IsAfter export → e < MAX_EXPORTS → export ≢ e → before e ≡ after e
  kept export e told small other =
      sym (told e small ∙ ap (λ b. option_or (before e) (some_if b value)) (ne_eqb export e other) ∙ or_none (before e))

  pub row-given : (export : ℕ) → IsAfter export → given export value (map before (range_with_len 0 MAX_EXPORTS)) ≡ map after (range_with_len 0 MAX_EXPORTS)
  row-given zero told =
      four-values (sym (told 0 (lit< tt))) (kept 0 1 told (lit< tt) (λ same. absurd (omega arith))) (kept 0 2 told (lit< tt) (λ same. absurd (omega arith))) (kept 0 3 told (lit< tt) (λ same. absurd (omega arith)))
  row-given (suc zero) told =
      four-values (kept 1 0 told (lit< tt) (λ same. absurd (omega arith))) (sym (told 1 (lit< tt))) (kept 1 2 told (lit< tt) (λ same. absurd (omega arith))) (kept 1 3 told (lit< tt) (λ same. absurd (omega arith)))
  row-given (suc (suc zero)) told =
      four-values (kept 2 0 told (lit< tt) (λ same. absurd (omega arith))) (kept 2 1 told (lit< tt) (λ same. absurd (omega arith))) (sym (told 2 (lit< tt))) (kept 2 3 told (lit< tt) (λ same. absurd (omega arith)))
  row-given (suc (suc (suc zero))) told =
      four-values (kept 3 0 told (lit< tt) (λ same. absurd (omega arith))) (kept 3 1 told (lit< tt) (λ same. absurd (omega arith))) (kept 3 2 told (lit< tt) (λ same. absurd (omega arith))) (sym (told 3 (lit< tt)))
  row-given (suc (suc (suc (suc n)))) told =
      set_past (map before (range_with_len 0 MAX_EXPORTS)) (suc (suc (suc (suc n)))) (option_or (slice_index_or (map before (range_with_len 0 MAX_EXPORTS)) (suc (suc (suc (suc n)))) None) (Some value)) (omega arith) ∙
      four-values (kept _ 0 told (lit< tt) (λ same. absurd (omega arith))) (kept _ 1 told (lit< tt) (λ same. absurd (omega arith))) (kept _ 2 told (lit< tt) (λ same. absurd (omega arith))) (kept _ 3 told (lit< tt) (λ same. absurd (omega arith)))

-- what a delivery gives behind others
module _ (states : List Local) (ds : List DeliveryDefinition) (mask : ℕ) (d : DeliveryDefinition) where
  abbrev worth : ℤ
  worth = value_of (value_there states) d.value

  one-behind : (atom e : ℕ) → value_for states (ds ++ d ∷ []) mask atom e ≡ option_or (value_for states ds mask atom e) (some_if (has_all mask d.leaves && is_for atom e d) worth)
  one-behind atom e =
      ap (option_map read) (find-append wanted ds (d ∷ [])) ∙ each (find wanted ds) (wanted d)
    where
      read : DeliveryDefinition → ℤ
      read d = value_of (value_there states) d.value

      wanted : DeliveryDefinition → Bool
      wanted d = has_all mask d.leaves && is_for atom e d

      each : (o : Option DeliveryDefinition) (b : Bool) → option_map read (option_or o (cond b (Some d) None)) ≡ option_or (option_map read o) (some_if b worth)
      each (Some s) b = refl
      each None true = refl
      each None false = refl

  -- its atom gets its value, where it applies
  pub given-behind : (atom : ℕ) → d.atom ≡ Some atom → has_all mask d.leaves ≡ true → given_for states (ds ++ d ∷ []) mask atom ≡ given d.export worth (given_for states ds mask atom)
  given-behind atom own told =
      sym (row-given (value_for states ds mask atom) (value_for states (ds ++ d ∷ []) mask atom) worth d.export
      (λ e small. one-behind atom e ∙
      ap (λ b. option_or (value_for states ds mask atom e) (some_if b worth))
      (ap (λ b. b && is_for atom e d) told ∙ ap (λ o. d.export == e && option_map_or (λ a. a == atom) o false) own ∙
      ap (λ b. d.export == e && b) (eq-eqb atom atom refl) ∙ and-true (d.export == e))))

  -- an atom that it is not for gets nothing more
  pub passed-behind : (atom : ℕ) → ((e : ℕ) → (has_all mask d.leaves && is_for atom e d) ≡ false) → given_for states (ds ++ d ∷ []) mask atom ≡ given_for states ds mask atom
  passed-behind atom none = four-values (same 0) (same 1) (same 2) (same 3)
    where
      same : (e : ℕ) → value_for states (ds ++ d ∷ []) mask atom e ≡ value_for states ds mask atom e
      same e =
          one-behind atom e ∙ ap (λ b. option_or (value_for states ds mask atom e) (some_if b worth)) (none e) ∙ or_none (value_for states ds mask atom e)

-- the values of one delivery more
module _ (states : List Local) (deliveries : List Delivery) (mask i : ℕ) (t : Delivery) (within : i < length deliveries) (here : t ≡ get_or deliveries i t) where
  abbrev front : ℕ → List DeliveryDefinition
  front n = map delivery_of (take n deliveries)

  abbrev value : ℤ
  value = value_of (value_there states) (tree_of t.value.tree)

  abbrev is_its : ℕ → Bool
  is_its atom = t.atom == atom

  longer : front (i + 1) ≡ front i ++ delivery_of t ∷ []
  longer =
      ap (map delivery_of) (take_more deliveries i t within ∙ ap (λ x. take i deliveries ++ x ∷ []) (sym here)) ∙
      map-append delivery_of (take i deliveries) (t ∷ [])

  more : (atom : ℕ) → given_for states (front (i + 1)) mask atom ≡ given_for states (front i ++ delivery_of t ∷ []) mask atom
  more atom = ap (λ ts. given_for states ts mask atom) longer

  -- what an atom gets, where it is the target's, and where it is not
  changed : (atom : ℕ) (b : Bool) → is_its atom ≡ b → has_all mask t.leaves ≡ true → (if b then given t.export value (given_for states (front i) mask atom) else given_for states (front i) mask atom) ≡ given_for states (front (i + 1)) mask atom
  changed atom true its told =
      sym (more atom ∙ given-behind states (front i) mask (delivery_of t) atom (ap Some (eqb-true t.atom atom its)) told)
  changed atom false its told =
      sym (more atom ∙
      passed-behind states (front i) mask (delivery_of t) atom
      (λ e. ap (λ b. b && is_for atom e (delivery_of t)) told ∙ ap (λ b. t.export == e && b) its ∙ and_false (t.export == e)))

  module _ (moves : List Move) (old new : List Row) (so_far : AreDelivered moves (given_for states (front i) mask) old) where
    -- it applies, and is delivered
    pub delivered-more : has_all mask t.leaves ≡ true → IsGiven moves is_its t.export value old new → AreDelivered moves (given_for states (front (i + 1)) mask) new
    delivered-more told done place m there first =
        done place m (given_for states (front i) mask m.atom) there first (so_far place m there first) ∙
        ap Some (changed m.atom (is_its m.atom) refl told)

    -- or it does not
    pub delivered-same : has_all mask t.leaves ≡ false → new ≡ old → AreDelivered moves (given_for states (front (i + 1)) mask) new
    delivered-same told same place m there first =
        ap (λ row. slice_get row place) same ∙ so_far place m there first ∙
        ap Some (sym (more m.atom ∙
        passed-behind states (front i) mask (delivery_of t) m.atom (λ e. ap (λ b. b && is_for m.atom e (delivery_of t)) told)))

-- what the first move of an atom gets is changed
module _ (moves : List Move) (atom : ℕ) (change : Row → Row) (row : List Row) where
  -- nothing is changed where no move is of the atom
  pub changed-none : (n : ℕ) → length moves ≤ n → find (λ k. k.atom == atom) (take n moves) ≡ None → IsChanged moves (λ other. atom == other) change row row
  changed-none n long none place m values there first old =
      let other : (m.atom == atom) ≡ false = none-at (λ k. k.atom == atom) moves n place m none (omega (arith, slice_get_within moves place m there)) there in
      old ∙ ap (λ b. Some (if b then change values else values)) (sym (ne_eqb atom m.atom (λ same. false≢true (sym other ∙ eq-eqb m.atom atom (sym same)))))

  -- and where one is, what stands at its place is
  module _ (n : ℕ) (its : Move) (here : slice_get moves n ≡ Some its) (same : its.atom ≡ atom) (none : find (λ k. k.atom == atom) (take n moves) ≡ None) (within : n < length row) (after : Row) (told : (values : Row) → get_or row n after ≡ values → after ≡ change values) where
    at-place : (place : ℕ) (m : Move) (values : Row) → slice_get moves place ≡ Some m → place ≡ n → slice_get row place ≡ Some values → slice_get (set row n after) place ≡ Some (if atom == m.atom then change values else values)
    at-place place m values there at old =
        let is_its : its ≡ m = same_Some its m (sym here ∙ ap (slice_get moves) (sym at) ∙ there) in
        let yes : (atom == m.atom) ≡ true = eq-eqb atom m.atom (sym same ∙ ap (λ k. k.atom) is_its) in
        ap (slice_get (set row n after)) at ∙
        slice_get-get_or (set row n after) n after (omega (arith, within, length-set row n after)) ∙
        ap Some (get_or-set_same row n after after within ∙ told values (get_or_from_slice_get row n values after (ap (slice_get row) (sym at) ∙ old))) ∙
        ap (λ b. Some (if b then change values else values)) (sym yes)

    elsewhere : (place : ℕ) (m : Move) (values : Row) → slice_get moves place ≡ Some m → IsFirstOfAtom moves place m → place ≢ n → slice_get row place ≡ Some values → slice_get (set row n after) place ≡ Some (if atom == m.atom then change values else values)
    elsewhere place m values there first other old =
        let inside : place < length row = slice_get_within row place values old in
        let no : (atom == m.atom) ≡ false = ne_eqb atom m.atom (λ equal.
        ⊎_elim
        (λ before. false≢true (sym (none-at (λ k. k.atom == atom) moves n place m none before there) ∙ eq-eqb m.atom atom (sym equal)))
        (λ past. false≢true (sym (none-at (λ k. k.atom == m.atom) moves place n its first (omega (arith, past, other)) here) ∙ eq-eqb its.atom m.atom (same ∙ equal)))
        (cases_lt place n)) in
        slice_get-get_or (set row n after) place after (omega (arith, inside, length-set row n after)) ∙
        ap Some (get_or-set_other row n place after after other) ∙ sym (slice_get-get_or row place after inside) ∙ old ∙
        ap (λ b. Some (if b then change values else values)) (sym no)

    pub changed-here : IsChanged moves (λ other. atom == other) change row (set row n after)
    changed-here place m values there first old =
        ⊎_elim (λ at. at-place place m values there at old) (λ other. elsewhere place m values there first other old) (cases_eq place n)

-- of moves that are apart, each is the first of its atom
pub own-place : (moves : List Move) → AreApart moves → (n : ℕ) → n < length moves → (atom : ℕ) → (get_or moves n no_move).atom ≡ atom → IsPlaceOf moves atom n
own-place moves apart n within atom same = record {
  its = get_or moves n no_move;
  here = slice_get-get_or moves n no_move within;
  same = same;
  first = ap (λ a. find (λ m. m.atom == a) (take n moves)) (sym same) ∙ apart n (get_or moves n no_move) (slice_get-get_or moves n no_move within);
}

-- ---- an entry that is put in the place of another

pub set-here : {X : Type 0} (xs : List X) (n : ℕ) (x : X) → n < length xs → slice_get (set xs n x) n ≡ Some x
set-here [] n x below = absurd (omega (arith, below))
set-here (y ∷ ys) zero x below = refl
set-here (y ∷ ys) (suc n) x below = set-here ys n x (omega (arith, below))

pub set-other : {X : Type 0} (xs : List X) (n : ℕ) (x : X) (j : ℕ) → j ≢ n → slice_get (set xs n x) j ≡ slice_get xs j
set-other [] n x j differs = refl
set-other (y ∷ ys) zero x zero differs = absurd (differs refl)
set-other (y ∷ ys) zero x (suc j) differs = refl
set-other (y ∷ ys) (suc n) x zero differs = refl
set-other (y ∷ ys) (suc n) x (suc j) differs = set-other ys n x j (λ e. differs (ap suc e))
