-- Lists that one element more was added to, and rows of interactions among them.
use Rattle.std.proofs.Common.{◌≡◌, ℕ, zero, suc, ◌+◌, ◌<◌, refl, sym, ◌∙◌, ap, subst, List, [], ◌∷◌, ◌++◌, length, get_or, arith, Bool, false, ⊎_elim}
use Rattle.std.specs.Prelude.{Option, Some, slice_get}
use Rattle.std.specs.Ordering.{nat_cmp}
use Rattle.std.specs.FinSet.{FinSet, contains}
use Rattle.std.specs.Option.{option_map_or}
use Rattle.std.proofs.lemmas.Bool.{cases_lt}
use Rattle.std.proofs.lemmas.List.{length-append}
use Rattle.std.proofs.lemmas.Option.{same_Some, slice_get_read, slice_get_within}
use Rattle.plant_model.specs.ConnectorRows.{is_in_row}

module _ {X : Type 0} where
  -- what was there stays, and the last one is the new one
  pub get-pushed : (xs : List X) (y : X) (k : ℕ) → k < length xs → slice_get (xs ++ y ∷ []) k ≡ slice_get xs k
  get-pushed [] y k below = absurd (omega (arith, below))
  get-pushed (x ∷ xs) y zero below = refl
  get-pushed (x ∷ xs) y (suc k) below = get-pushed xs y k (omega (arith, below))

  pub get-last : (xs : List X) (y : X) (k : ℕ) → k ≡ length xs → slice_get (xs ++ y ∷ []) k ≡ Some y
  get-last [] y zero is = refl
  get-last [] y (suc k) is = absurd (omega (arith, is))
  get-last (x ∷ xs) y zero is = absurd (omega (arith, is))
  get-last (x ∷ xs) y (suc k) is = get-last xs y k (omega (arith, is))

  -- there is an element at each place before the end
  pub some-at : (xs : List X) (k : ℕ) → k < length xs → (x : X) × (slice_get xs k ≡ Some x)
  some-at [] k below = absurd (omega (arith, below))
  some-at (x ∷ xs) zero below = (x, refl)
  some-at (x ∷ xs) (suc k) below = some-at xs k (omega (arith, below))

  -- what is so of each at its place, and of the new one at its own, is so of each
  pub each-pushed : (P : ℕ → X → Type 0) (xs : List X) (y : X) (end : ℕ) → length xs ≡ end → ((k : ℕ) (x : X) → slice_get xs k ≡ Some x → P k x) → P end y → (k : ℕ) (x : X) → slice_get (xs ++ y ∷ []) k ≡ Some x → P k x
  each-pushed P xs y end long before here k x there =
      ⊎_elim
      (λ below. before k x (sym (get-pushed xs y k below) ∙ there))
      (λ past.
      let last : k ≡ length xs = omega (arith, past, slice_get_within (xs ++ y ∷ []) k x there, length-append xs (y ∷ [])) in
      subst (P k) (same_Some y x (sym (get-last xs y k last) ∙ there)) (subst (λ m. P m y) (sym (last ∙ long)) here))
      (cases_lt k (length xs))

-- what is in the row at a place
pub at-row : (rows : List (FinSet nat_cmp)) (k : ℕ) (row : FinSet nat_cmp) → k < length rows → row ≡ get_or rows k row → (n : ℕ) → is_in_row rows n k ≡ contains row n
at-row rows k row within is n = ap (λ o. option_map_or (λ (r : FinSet nat_cmp). contains r n) o false) (slice_get_read rows (length rows) k row refl within is)

-- one row more
pub rows-pushed : (rows : List (FinSet nat_cmp)) (row : FinSet nat_cmp) (end : ℕ) (want : ℕ → ℕ → Bool) → length rows ≡ end → ((j n : ℕ) → j < end → is_in_row rows n j ≡ want j n) → ((n : ℕ) → contains row n ≡ want end n)
    → (j n : ℕ) → j < end + 1 → is_in_row (rows ++ row ∷ []) n j ≡ want j n
rows-pushed rows row end want long before here j n below =
    ⊎_elim
    (λ earlier. ap read (get-pushed rows row j (omega (arith, earlier, long))) ∙ before j n earlier)
    (λ past.
    let last : j ≡ end = omega (arith, below, past) in
    ap read (get-last rows row j (last ∙ sym long)) ∙ here n ∙ ap (λ m. want m n) (sym last))
    (cases_lt j end)
  where
    read : Option (FinSet nat_cmp) → Bool
    read o = option_map_or (λ (r : FinSet nat_cmp). contains r n) o false
