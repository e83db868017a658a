-- At which place a choice can stand in a list that stands in order.
use Rattle.std.proofs.Common.{◌≡◌, ⊎_elim, ℕ, ◌==◌, ◌&&◌, ◌<◌, ◌≤◌, ◌∙◌, ap, sym, subst, List, [], ◌∷◌, length, get_or, AllPairs, Contains, arith, true, false, nat_lt}
use Rattle.std.specs.Prelude.{Some, slice_get}
use Rattle.std.specs.Option.{option_map_or}
use Rattle.std.proofs.lemmas.Bool.{and_parts, cases_lt, eqb-true, false≢true, ltb-true, or_cases}
use Rattle.std.proofs.lemmas.Option.{get_or_from_slice_get, slice_get_within}
use Rattle.plant_model.specs.Choice.{ChoiceDefinition}
use Rattle.plant_model.specs.Laws.{IsBefore, comes_before, order_key}
use Rattle.plant_model.proofs.Membership.{in-entry}

-- two rows of numbers are not each before the other
not-both : (ms ns : List ℕ) → comes_before ms ns ≡ true → comes_before ns ms ≡ true → ⊥
not-both [] ns before later = false≢true before
not-both (m ∷ ms) [] before later = false≢true before
not-both (m ∷ ms) (n ∷ ns) before later =
    ⊎_elim
    (λ less. ⊎_elim
    (λ more. omega (arith, ltb-true m n less, ltb-true n m more))
    (λ same. omega (arith, ltb-true m n less, eqb-true n m (and_parts (n == m) (comes_before ns ms) same).0))
    (or_cases (nat_lt n m) (n == m && comes_before ns ms) later))
    (λ same. ⊎_elim
    (λ more. omega (arith, ltb-true n m more, eqb-true m n (and_parts (m == n) (comes_before ms ns) same).0))
    (λ later'. not-both ms ns (and_parts (m == n) (comes_before ms ns) same).1 (and_parts (n == m) (comes_before ns ms) later').1)
    (or_cases (nat_lt n m) (n == m && comes_before ns ms) later))
    (or_cases (nat_lt m n) (m == n && comes_before ms ns) before)

module _ (cs : List ChoiceDefinition) (rise : AllPairs IsBefore cs) where
  -- an earlier choice is before a later one
  rising : (i j : ℕ) (c d : ChoiceDefinition) → i < j → slice_get cs i ≡ Some c → slice_get cs j ≡ Some d → IsBefore c d
  rising i j c d less first second =
      subst (λ e. IsBefore e d) (get_or_from_slice_get cs i c d first)
      (subst (IsBefore (get_or cs i d)) (get_or_from_slice_get cs j d d second) (rise i j d less (slice_get_within cs j d second)))

  -- at one place stands one choice
  one-choice : (i j : ℕ) (c d : ChoiceDefinition) → i ≡ j → slice_get cs i ≡ Some c → slice_get cs j ≡ Some d → c ≡ d
  one-choice i j c d same first second = ap (λ found. option_map_or (λ (x : ChoiceDefinition). x) found c) (sym first ∙ ap (slice_get cs) same ∙ second)

  -- a choice stands after one that is before it
  pub after-earlier : (middle place : ℕ) (m c : ChoiceDefinition) → slice_get cs middle ≡ Some m → IsBefore m c → slice_get cs place ≡ Some c → middle < place
  after-earlier middle place m c here before there =
      ⊎_elim (λ less. less)
      (λ past. ⊎_elim
      (λ less. absurd (not-both (order_key m) (order_key c) before (rising place middle c m less there here)))
      (λ past'. let e : middle ≡ place = omega (arith, past, past') in
      let itself : IsBefore c c = subst (λ x. IsBefore x c) (one-choice middle place m c e here there) before in
      absurd (not-both (order_key c) (order_key c) itself itself))
      (cases_lt place middle))
      (cases_lt middle place)

  -- and not after one that is not before it
  pub not-after : (middle place : ℕ) (m c : ChoiceDefinition) → slice_get cs middle ≡ Some m → comes_before (order_key m) (order_key c) ≡ false → slice_get cs place ≡ Some c → place ≤ middle
  not-after middle place m c here not_before there =
      ⊎_elim
      (λ less. absurd (false≢true (sym not_before ∙ rising middle place m c less here there)))
      (λ past. past)
      (cases_lt middle place)

  -- where the choice can stand at one place alone and another stands there, it is none of these
  pub none-there : (place : ℕ) (d c : ChoiceDefinition) → ((k : ℕ) → slice_get cs k ≡ Some c → k ≡ place) → slice_get cs place ≡ Some d → (d ≡ c → ⊥) → Contains cs c → ⊥
  none-there place d c only here differ in_it = let at = in-entry cs c in_it in differ (one-choice place at.0 d c (sym (only at.0 at.1)) here at.1)

  -- and so it is if that place is past the end
  pub none-past : (place : ℕ) (c : ChoiceDefinition) → ((k : ℕ) → slice_get cs k ≡ Some c → k ≡ place) → length cs ≤ place → Contains cs c → ⊥
  none-past place c only past in_it = let at = in-entry cs c in_it in omega (arith, past, only at.0 at.1, slice_get_within cs at.0 c at.1)
