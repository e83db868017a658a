-- What the elements of a list give, one after another, by places.
use Rattle.std.proofs.Common.{◌≡◌, ℕ, zero, suc, ⊎_elim, ◌+◌, ◌-◌, ◌<◌, ◌≤◌, sym, ◌∙◌, ap, List, [], ◌∷◌, ◌++◌, length, take, drop, get_or, arith, add-one}
use Rattle.std.specs.Prelude.{slice_get}
use Rattle.std.proofs.lemmas.List.{take_more, drop_more, take_all, drop_all, length-append, length-take, append-nil, append_assoc}
use Rattle.std.proofs.lemmas.Bool.{cases_lt}
use Rattle.plant_model.specs.Choice.{flat_from}
use Rattle.plant_model.proofs.Combinations.{slice_get-left, slice_get-right}

-- what a list gives in two parts
flat-append : {X Z : Type 0} (g : ℕ → X → List Z) (n : ℕ) (xs ys : List X) → flat_from g n (xs ++ ys) ≡ flat_from g n xs ++ flat_from g (n + length xs) ys
flat-append g n [] ys = ap (λ k. flat_from g k ys) (omega arith)
flat-append g n (x ∷ xs) ys =
    let later : suc n + length xs ≡ n + suc (length xs) = omega arith in
    ap (λ zs. g n x ++ zs) (flat-append g (suc n) xs ys) ∙
    ap (λ k. g n x ++ (flat_from g (suc n) xs ++ flat_from g k ys)) later ∙
    sym (append_assoc (g n x) (flat_from g (suc n) xs) (flat_from g (n + suc (length xs)) ys))

-- lists that the elements of a list give, one after another
module _ {X Z : Type 0} (g : ℕ → X → List Z) (xs : List X) (i : ℕ) (d : X) (within : i < length xs) where
  -- one element more adds its list at the end
  pub flat-more : length (flat_from g 0 (take (i + 1) xs)) ≡ length (flat_from g 0 (take i xs)) + length (g i (get_or xs i d))
  flat-more =
      let x : X = get_or xs i d in
      let long : 0 + length (take i xs) ≡ i = omega (arith, length-take i xs) in
      ap (λ ys. length (flat_from g 0 ys)) (take_more xs i d within) ∙
      ap length (flat-append g 0 (take i xs) (x ∷ [])) ∙
      ap (λ k. length (flat_from g 0 (take i xs) ++ flat_from g k (x ∷ []))) long ∙
      length-append (flat_from g 0 (take i xs)) (g i x ++ []) ∙
      ap (λ ys. length (flat_from g 0 (take i xs)) + length ys) (append-nil (g i x))

  from-here : flat_from g i (drop i xs) ≡ g i (get_or xs i d) ++ flat_from g (i + 1) (drop (i + 1) xs)
  from-here =
      ap (flat_from g i) (drop_more xs i d within) ∙
      ap (λ k. g i (get_or xs i d) ++ flat_from g k (drop (i + 1) xs)) (sym (add-one i))

  -- a place in its list
  pub flat-here : (place : ℕ) → place < length (g i (get_or xs i d)) → slice_get (flat_from g i (drop i xs)) place ≡ slice_get (g i (get_or xs i d)) place
  flat-here place inside = ap (λ ys. slice_get ys place) from-here ∙ slice_get-left (g i (get_or xs i d)) (flat_from g (i + 1) (drop (i + 1) xs)) place inside

  -- a place behind it
  pub flat-after : (place : ℕ) → length (g i (get_or xs i d)) ≤ place → slice_get (flat_from g i (drop i xs)) place ≡ slice_get (flat_from g (i + 1) (drop (i + 1) xs)) (place - length (g i (get_or xs i d)))
  flat-after place past =
      let at : place ≡ length (g i (get_or xs i d)) + (place - length (g i (get_or xs i d))) = omega arith in
      ap (λ ys. slice_get ys place) from-here ∙ ap (slice_get (g i (get_or xs i d) ++ flat_from g (i + 1) (drop (i + 1) xs))) at ∙
      slice_get-right (g i (get_or xs i d)) (flat_from g (i + 1) (drop (i + 1) xs)) (place - length (g i (get_or xs i d)))

  -- an element that gives nothing
  pub flat-none : g i (get_or xs i d) ≡ [] → flat_from g i (drop i xs) ≡ flat_from g (i + 1) (drop (i + 1) xs)
  flat-none none = from-here ∙ ap (λ ys. ys ++ flat_from g (i + 1) (drop (i + 1) xs)) none

-- elements that give nothing, from a place on
module _ {X Z : Type 0} (g : ℕ → X → List Z) (xs : List X) (i : ℕ) (d : X) where
  abbrev pub GiveNone : ℕ → Type 0
  GiveNone k = (m : ℕ) → i ≤ m → m < k → m < length xs → g m (get_or xs m d) ≡ []

  added : (e : ℕ) → GiveNone (i + e) → length (flat_from g 0 (take (i + e) xs)) ≡ length (flat_from g 0 (take i xs))
  added zero none = ap (λ n. length (flat_from g 0 (take n xs))) (omega arith)
  added (suc e) none =
      let next : i + suc e ≡ (i + e) + 1 = omega arith in
      ap (λ n. length (flat_from g 0 (take n xs))) next ∙
      ⊎_elim
      (λ within.
      let nothing : length (g (i + e) (get_or xs (i + e) d)) ≡ 0 = ap length (none (i + e) (omega arith) (omega arith) within) in
      omega (arith, flat-more g xs (i + e) d within, nothing))
      (λ past. ap (λ ys. length (flat_from g 0 ys)) (take_all ((i + e) + 1) xs (omega arith) ∙ sym (take_all (i + e) xs past)))
      (cases_lt (i + e) (length xs)) ∙
      added e (λ m from below. none m from (omega arith))

  passed : (e : ℕ) → GiveNone (i + e) → flat_from g i (drop i xs) ≡ flat_from g (i + e) (drop (i + e) xs)
  passed zero none = ap (λ n. flat_from g n (drop n xs)) (omega arith)
  passed (suc e) none =
      let next : (i + e) + 1 ≡ i + suc e = omega arith in
      passed e (λ m from below. none m from (omega arith)) ∙
      ⊎_elim
      (λ within. flat-none g xs (i + e) d within (none (i + e) (omega arith) (omega arith) within))
      (λ past. ap (flat_from g (i + e)) (drop_all (i + e) xs past) ∙ sym (ap (flat_from g ((i + e) + 1)) (drop_all ((i + e) + 1) xs (omega arith))))
      (cases_lt (i + e) (length xs)) ∙
      ap (λ n. flat_from g n (drop n xs)) next

  -- they add nothing
  pub flat-added : (k : ℕ) → i ≤ k → GiveNone k → length (flat_from g 0 (take k xs)) ≡ length (flat_from g 0 (take i xs))
  flat-added k past none =
      let e : i + (k - i) ≡ k = omega arith in
      ap (λ n. length (flat_from g 0 (take n xs))) (sym e) ∙ added (k - i) (λ m from below. none m from (omega arith))

  -- and may be passed over
  pub flat-passed : (k : ℕ) → i ≤ k → GiveNone k → flat_from g i (drop i xs) ≡ flat_from g k (drop k xs)
  flat-passed k past none =
      let e : i + (k - i) ≡ k = omega arith in
      passed (k - i) (λ m from below. none m from (omega arith)) ∙ ap (λ n. flat_from g n (drop n xs)) e
