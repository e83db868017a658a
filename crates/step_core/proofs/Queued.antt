-- The items in a row of places.
use Rattle.std.proofs.Common.{◌≡◌, ℕ, zero, suc, ◌<◌, ◌≤◌, ◌∙◌, refl, sym, ap, List, [], ◌∷◌, ◌++◌, length, drop, map, set, get_or, arith, true}
use Rattle.std.specs.Prelude.{Option, Some, None, is_some, slice_get}
use Rattle.std.specs.List.{filter_map}
use Rattle.std.proofs.lemmas.Bool.{false≢true}
use Rattle.std.proofs.lemmas.Option.{none-some}

module _ {T : Type 0} where
  abbrev items : List (Option T) → List T
  items xs = filter_map (λ x. x) xs

  -- there are none where each place is empty
  pub no-item : (xs : List (Option T)) → ((n : ℕ) → n < length xs → get_or xs n None ≡ None) → items xs ≡ []
  no-item [] empty = refl
  no-item (None ∷ xs) empty = no-item xs (λ n below. empty (suc n) (omega (arith, below)))
  no-item (Some x ∷ xs) empty = absurd (none-some x (sym (empty 0 (omega arith))))

  -- the first item is that of the first place that is not empty
  pub first-item : (xs : List (Option T)) (k : ℕ) → k < length xs → ((n : ℕ) → n < k → get_or xs n None ≡ None) → is_some (get_or xs k None) ≡ true → get_or xs k None ≡ slice_get (items xs) 0
  first-item [] k within empty there = absurd (omega (arith, within))
  first-item (None ∷ xs) zero within empty there = absurd (false≢true there)
  first-item (Some x ∷ xs) zero within empty there = refl
  first-item (None ∷ xs) (suc k) within empty there = first-item xs k (omega (arith, within)) (λ n below. empty (suc n) (omega (arith, below))) there
  first-item (Some x ∷ xs) (suc k) within empty there = absurd (none-some x (sym (empty 0 (omega arith))))

  -- and the others are those that are left where it is taken out
  pub other-items : (xs : List (Option T)) (k : ℕ) → k < length xs → ((n : ℕ) → n < k → get_or xs n None ≡ None) → is_some (get_or xs k None) ≡ true → items (set xs k None) ≡ drop 1 (items xs)
  other-items [] k within empty there = absurd (omega (arith, within))
  other-items (None ∷ xs) zero within empty there = absurd (false≢true there)
  other-items (Some x ∷ xs) zero within empty there = refl
  other-items (None ∷ xs) (suc k) within empty there = other-items xs k (omega (arith, within)) (λ n below. empty (suc n) (omega (arith, below))) there
  other-items (Some x ∷ xs) (suc k) within empty there = absurd (none-some x (sym (empty 0 (omega arith))))

  -- an item that is put at a place from which on all are empty stands behind all others
  pub last-item : (xs : List (Option T)) (k : ℕ) (x : T) → k < length xs → ((n : ℕ) → k ≤ n → get_or xs n None ≡ None) → items (set xs k (Some x)) ≡ items xs ++ x ∷ []
  last-item [] k x within free = absurd (omega (arith, within))
  last-item (None ∷ xs) zero x within free =
      let none : items xs ≡ [] = no-item xs (λ n below. free (suc n) (omega arith)) in
      ap (λ ys. x ∷ ys) none ∙ sym (ap (λ ys. ys ++ x ∷ []) none)
  last-item (Some y ∷ xs) zero x within free = absurd (none-some y (sym (free 0 (omega arith))))
  last-item (None ∷ xs) (suc k) x within free = last-item xs k x (omega (arith, within)) (λ n past. free (suc n) (omega (arith, past)))
  last-item (Some y ∷ xs) (suc k) x within free = ap (λ ys. y ∷ ys) (last-item xs k x (omega (arith, within)) (λ n past. free (suc n) (omega (arith, past))))

  -- where no item is, each place is empty
  pub all-empty : (xs : List (Option T)) → items xs ≡ [] → (n : ℕ) → get_or xs n None ≡ None
  all-empty [] none n = refl
  all-empty (None ∷ xs) none zero = refl
  all-empty (None ∷ xs) none (suc n) = all-empty xs none n
  all-empty (Some x ∷ xs) none n = cc

  -- from a place on there are the item that stands there and those behind it
  pub item-here : (xs : List (Option T)) (k : ℕ) (x : T) → get_or xs k None ≡ Some x → items (drop k xs) ≡ x ∷ items (drop (suc k) xs)
  item-here [] k x there = absurd (none-some x there)
  item-here (y ∷ ys) zero x there = ap (λ o. items (o ∷ ys)) there
  item-here (y ∷ ys) (suc k) x there = item-here ys k x there

  pub none-here : (xs : List (Option T)) (k : ℕ) → get_or xs k None ≡ None → items (drop k xs) ≡ items (drop (suc k) xs)
  none-here [] zero there = refl
  none-here [] (suc k) there = refl
  none-here (y ∷ ys) zero there = ap (λ o. items (o ∷ ys)) there
  none-here (y ∷ ys) (suc k) there = none-here ys k there

-- a list of which another is made entry by entry is empty where that is
pub no-jobs : {X Y : Type 0} (f : X → Y) (xs : List X) → map f xs ≡ [] → xs ≡ []
no-jobs f [] none = refl
no-jobs f (x ∷ xs) none = cc
