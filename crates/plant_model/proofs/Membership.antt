-- What is in lists that are made of others.
use Rattle.std.proofs.Common.{◌≡◌, ◌⊎◌, inl, inr, ⊎_elim, ℕ, zero, suc, ◌+◌, ◌<◌, refl, sym, ◌∙◌, ap, subst, List, [], ◌∷◌, length, map, filter, get_or, Contains, arith, Bool, true, false, cond}
use Rattle.std.specs.Prelude.{Some, slice_get, flat_map}
use Rattle.std.specs.List.{list_all}
use Rattle.std.proofs.lemmas.Bool.{and_parts, false≢true}
use Rattle.std.proofs.lemmas.List.Elements.{Contains-append_left, Contains-append_right, Contains-append_cases}
use Rattle.std.proofs.lemmas.Option.{slice_get-get_or, slice_get_within, get_or_from_slice_get, none-some, same_Some}
use Rattle.plant_model.specs.Choice.{flat_from}

module _ {X : Type 0} where
  pub here-or-later : (x : X) (xs : List X) (y : X) → Contains (x ∷ xs) y → (x ≡ y) ⊎ Contains xs y
  here-or-later x xs y at = each at.0 at.1 at.2
    where
      each : (k : ℕ) → k < length (x ∷ xs) → get_or (x ∷ xs) k y ≡ y → (x ≡ y) ⊎ Contains xs y
      each zero within is = inl is
      each (suc k) within is = inr (k, omega arith, is)

  pub here : (x : X) (xs : List X) → Contains (x ∷ xs) x
  here x xs = (zero, omega arith, refl)

  pub later : (x : X) (xs : List X) (y : X) → Contains xs y → Contains (x ∷ xs) y
  later x xs y at = (suc at.0, omega (arith, at.1), at.2)

  -- an entry is in the list, and what is in the list is an entry
  pub entry-in : (xs : List X) (k : ℕ) (x : X) → slice_get xs k ≡ Some x → Contains xs x
  entry-in xs k x there = (k, slice_get_within xs k x there, get_or_from_slice_get xs k x x there)

  pub in-entry : (xs : List X) (x : X) → Contains xs x → (k : ℕ) × (slice_get xs k ≡ Some x)
  in-entry xs x at = (at.0, slice_get-get_or xs at.0 x at.1 ∙ ap Some at.2)

  -- what is in the list passes a test that all pass
  pub all-in : (f : X → Bool) (xs : List X) → list_all f xs ≡ true → (x : X) → Contains xs x → f x ≡ true
  all-in f [] all x at = absurd (omega (arith, at.1))
  all-in f (y ∷ ys) all x at =
      let parts = and_parts (f y) (list_all f ys) all in
      ⊎_elim (λ is. ap f (sym is) ∙ parts.0) (λ more. all-in f ys parts.1 x more) (here-or-later y ys x at)

  pub from-filter : (f : X → Bool) (xs : List X) (y : X) → Contains (filter f xs) y → Contains xs y × (f y ≡ true)
  from-filter f [] y at = absurd (omega (arith, at.1))
  from-filter f (x ∷ xs) y at = each (from-filter f xs y) (f x) refl at
    where
      each : (Contains (filter f xs) y → Contains xs y × (f y ≡ true)) → (b : Bool) → f x ≡ b → Contains (cond b (x ∷ filter f xs) (filter f xs)) y → Contains (x ∷ xs) y × (f y ≡ true)
      each behind true told in_it = ⊎_elim
          (λ is. (subst (Contains (x ∷ xs)) is (here x xs), ap f (sym is) ∙ told))
          (λ more. let rest = behind more in (later x xs y rest.0, rest.1))
          (here-or-later x (filter f xs) y in_it)
      each behind false told in_it = let rest = behind in_it in (later x xs y rest.0, rest.1)

  pub to-filter : (f : X → Bool) (xs : List X) (y : X) → Contains xs y → f y ≡ true → Contains (filter f xs) y
  to-filter f [] y at passes = absurd (omega (arith, at.1))
  to-filter f (x ∷ xs) y at passes = each (λ more. to-filter f xs y more passes) (f x) refl (here-or-later x xs y at)
    where
      each : (Contains xs y → Contains (filter f xs) y) → (b : Bool) → f x ≡ b → (x ≡ y) ⊎ Contains xs y → Contains (cond b (x ∷ filter f xs) (filter f xs)) y
      each behind true told (inl is) = subst (Contains (x ∷ filter f xs)) is (here x (filter f xs))
      each behind true told (inr more) = later x (filter f xs) y (behind more)
      each behind false told (inl is) = absurd (false≢true (sym told ∙ ap f is ∙ passes))
      each behind false told (inr more) = behind more

module _ {X Y : Type 0} where
  pub from-map : (f : X → Y) (xs : List X) (y : Y) → Contains (map f xs) y → (x : X) × Contains xs x × (f x ≡ y)
  from-map f [] y at = absurd (omega (arith, at.1))
  from-map f (x ∷ xs) y at = ⊎_elim
      (λ is. (x, here x xs, is))
      (λ more. let rest = from-map f xs y more in (rest.0, later x xs rest.0 rest.1, rest.2))
      (here-or-later (f x) (map f xs) y at)

  pub to-map : (f : X → Y) (xs : List X) (x : X) → Contains xs x → Contains (map f xs) (f x)
  to-map f [] x at = absurd (omega (arith, at.1))
  to-map f (z ∷ zs) x at = ⊎_elim
      (λ is. subst (Contains (f z ∷ map f zs)) (ap f is) (here (f z) (map f zs)))
      (λ more. later (f z) (map f zs) (f x) (to-map f zs x more))
      (here-or-later z zs x at)

  pub from-flat_map : (g : X → List Y) (xs : List X) (y : Y) → Contains (flat_map g xs) y → (x : X) × Contains xs x × Contains (g x) y
  from-flat_map g [] y at = absurd (omega (arith, at.1))
  from-flat_map g (x ∷ xs) y at = ⊎_elim
      (λ first. (x, here x xs, first))
      (λ more. let rest = from-flat_map g xs y more in (rest.0, later x xs rest.0 rest.1, rest.2))
      (Contains-append_cases (g x) (flat_map g xs) y at)

  pub to-flat_map : (g : X → List Y) (xs : List X) (x : X) (y : Y) → Contains xs x → Contains (g x) y → Contains (flat_map g xs) y
  to-flat_map g [] x y at given = absurd (omega (arith, at.1))
  to-flat_map g (z ∷ zs) x y at given = ⊎_elim
      (λ is. Contains-append_left (g z) (flat_map g zs) y (subst (λ w. Contains (g w) y) (sym is) given))
      (λ more. Contains-append_right (g z) (flat_map g zs) y (to-flat_map g zs x y more given))
      (here-or-later z zs x at)

  -- the same of what numbered elements give
  pub from-flat_from : (g : ℕ → X → List Y) (n : ℕ) (xs : List X) (y : Y) → Contains (flat_from g n xs) y → (k : ℕ) × (x : X) × (slice_get xs k ≡ Some x) × Contains (g (n + k) x) y
  from-flat_from g n [] y at = absurd (omega (arith, at.1))
  from-flat_from g n (x ∷ xs) y at = ⊎_elim
      (λ first. (zero, x, refl, subst (λ k. Contains (g k x) y) (omega arith) first))
      (λ more.
      let rest = from-flat_from g (suc n) xs y more in
      (suc rest.0, rest.1, rest.2, subst (λ k. Contains (g k rest.1) y) (omega arith) rest.3))
      (Contains-append_cases (g n x) (flat_from g (suc n) xs) y at)

  pub to-flat_from : (g : ℕ → X → List Y) (n : ℕ) (xs : List X) (k : ℕ) (x : X) (y : Y) → slice_get xs k ≡ Some x → Contains (g (n + k) x) y → Contains (flat_from g n xs) y
  to-flat_from g n [] k x y there given = absurd (none-some x there)
  to-flat_from g n (z ∷ zs) zero x y there given =
      let is : z ≡ x = same_Some z x there in
      Contains-append_left (g n z) (flat_from g (suc n) zs) y (subst (λ w. Contains (g n w) y) (sym is) (subst (λ k. Contains (g k x) y) (omega arith) given))
  to-flat_from g n (z ∷ zs) (suc k) x y there given =
      Contains-append_right (g n z) (flat_from g (suc n) zs) y (to-flat_from g (suc n) zs k x y there (subst (λ j. Contains (g j x) y) (omega arith) given))
