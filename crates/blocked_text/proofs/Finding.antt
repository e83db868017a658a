-- First elements that pass a test, and whether one passes.
use Rattle.std.proofs.Common.{◌≡◌, ℕ, zero, suc, ◌+◌, ◌<◌, refl, sym, ◌∙◌, ap, subst, List, [], ◌∷◌, map, take, Contains, arith, Bool, true, false, cond, not, ◌&&◌, ◌||◌}
use Rattle.std.specs.Prelude.{Option, Some, None, find, slice_get, option_map, is_none, is_some}
use Rattle.std.specs.List.{list_all, list_any, position_from}
use Rattle.std.specs.Option.{option_map_or, option_or}
use Rattle.std.proofs.lemmas.Bool.{false≢true}
use Rattle.std.proofs.lemmas.Option.{none-some, same_Some}
use Rattle.plant_model.proofs.Membership.{here, later}

-- the first place in a list of what a function makes
pub position_from-map : {X Y : Type 0} (p : Y → Bool) (g : X → Y) (i : ℕ) (xs : List X) → position_from (λ x. p (g x)) i xs ≡ position_from p i (map g xs)
position_from-map p g i [] = refl
position_from-map p g i (x ∷ xs) = ap (cond (p (g x)) (Some i)) (position_from-map p g (i + 1) xs)

-- ---- whether something is found

-- the first of three is none if each of them is
pub none-of-three : {A B C R : Type 0} (f : A → R) (g : B → R) (h : C → R) (a : Option A) (b : Option B) (c : Option C)
    → is_none (option_or (option_map f a) (option_or (option_map g b) (option_map h c))) ≡ (is_none a && is_none b && is_none c)
none-of-three f g h (Some x) b c = refl
none-of-three f g h None (Some y) c = refl
none-of-three f g h None None (Some z) = refl
none-of-three f g h None None None = refl

-- none fails where all pass
pub none-fails : {X : Type 0} (p : X → Bool) (xs : List X) → is_none (find (λ x. not (p x)) xs) ≡ list_all p xs
none-fails p [] = refl
none-fails p (x ∷ xs) = each (p x) (none-fails p xs)
  where
    each : (b : Bool) → is_none (find (λ y. not (p y)) xs) ≡ list_all p xs → is_none (cond (not b) (Some x) (find (λ y. not (p y)) xs)) ≡ (b && list_all p xs)
    each true more = more
    each false more = refl

-- none passes where none of all does
pub none-passes : {X : Type 0} (p : X → Bool) (xs : List X) → is_none (find p xs) ≡ not (list_any p xs)
none-passes p [] = refl
none-passes p (x ∷ xs) = each (p x) (none-passes p xs)
  where
    each : (b : Bool) → is_none (find p xs) ≡ not (list_any p xs) → is_none (cond b (Some x) (find p xs)) ≡ not (b || list_any p xs)
    each true more = refl
    each false more = more

-- the same of a first place: none passes where all pass the other test
pub none-placed : {X : Type 0} (p q : X → Bool) → ((x : X) → not (p x) ≡ q x) → (i : ℕ) (xs : List X) → is_none (position_from p i xs) ≡ list_all q xs
none-placed p q other i [] = refl
none-placed p q other i (x ∷ xs) = each (p x) (none-placed p q other (i + 1) xs) ∙ ap (λ b. b && list_all q xs) (other x)
  where
    each : (b : Bool) → is_none (position_from p (i + 1) xs) ≡ list_all q xs → is_none (cond b (Some i) (position_from p (i + 1) xs)) ≡ (not b && list_all q xs)
    each true more = refl
    each false more = more

pub none-is : {X : Type 0} (o : Option X) → is_none o ≡ true → o ≡ None
none-is None known = refl
none-is (Some x) known = absurd (false≢true known)

-- nothing is there if it is not said that something is
pub none-by : {X : Type 0} (o : Option X) (b : Bool) → is_some o ≡ not b → is_none o ≡ b
none-by None true known = refl
none-by None false known = absurd (false≢true known)
none-by (Some x) true known = absurd (false≢true (sym known))
none-by (Some x) false known = refl

-- ---- what is found

-- what is found is in the list, and passes
pub found-passes : {X : Type 0} (p : X → Bool) (xs : List X) (y : X) → find p xs ≡ Some y → Contains xs y × (p y ≡ true)
found-passes p [] y known = absurd (none-some y known)
found-passes p (x ∷ xs) y known = each (found-passes p xs y) (p x) refl known
  where
    each : (find p xs ≡ Some y → Contains xs y × (p y ≡ true)) → (b : Bool) → p x ≡ b → cond b (Some x) (find p xs) ≡ Some y → Contains (x ∷ xs) y × (p y ≡ true)
    each rest true passes is = let same : x ≡ y = same_Some x y is in (subst (Contains (x ∷ xs)) same (here x xs), ap p (sym same) ∙ passes)
    each rest false fails is = let more = rest is in (later x xs y more.0, more.1)

-- the element at the place that is found passes
pub placed-passes : {X : Type 0} (p : X → Bool) (i : ℕ) (xs : List X) (k : ℕ) → position_from p i xs ≡ Some k
    → (j : ℕ) × (x : X) × (k ≡ i + j) × (slice_get xs j ≡ Some x) × (p x ≡ true)
placed-passes p i [] k known = absurd (none-some k known)
placed-passes p i (x ∷ xs) k known = each (placed-passes p (i + 1) xs k) (p x) refl known
  where
    each : (position_from p (i + 1) xs ≡ Some k → (j : ℕ) × (y : _) × (k ≡ (i + 1) + j) × (slice_get xs j ≡ Some y) × (p y ≡ true))
        → (b : Bool) → p x ≡ b → cond b (Some i) (position_from p (i + 1) xs) ≡ Some k → (j : ℕ) × (y : _) × (k ≡ i + j) × (slice_get (x ∷ xs) j ≡ Some y) × (p y ≡ true)
    each rest true passes is = let same : i ≡ k = same_Some i k is in (zero, x, omega (arith, same), refl, passes)
    each rest false fails is = let more = rest is in (suc more.0, more.1, omega (arith, more.2), more.3, more.4)

-- ---- the first elements of a list

-- one that passes is among them
pub any-taken : {X : Type 0} (p : X → Bool) (xs : List X) (i k : ℕ) → i < k → option_map_or p (slice_get xs i) false ≡ true → list_any p (take k xs) ≡ true
any-taken p [] i k below passes = absurd (false≢true passes)
any-taken p (x ∷ xs) i zero below passes = absurd (omega arith)
any-taken p (x ∷ xs) zero (suc k) below passes = ap (λ b. b || list_any p (take k xs)) passes
any-taken p (x ∷ xs) (suc i) (suc k) below passes =
    let less : i < k = omega arith in
    each (p x) (any-taken p xs i k less passes)
  where
    each : (b : Bool) → list_any p (take k xs) ≡ true → (b || list_any p (take k xs)) ≡ true
    each true more = refl
    each false more = more

-- where none passes, and the next one does not, none of one more does
pub none-taken : {X : Type 0} (p : X → Bool) (xs : List X) (i : ℕ) → list_any p (take i xs) ≡ false → option_map_or p (slice_get xs i) false ≡ false → list_any p (take (i + 1) xs) ≡ false
none-taken p xs i none fails = ap (λ k. list_any p (take k xs)) (let e : i + 1 ≡ suc i = omega arith in e) ∙ one-more p xs i none fails
  where
    one-more : {X : Type 0} (p : X → Bool) (xs : List X) (i : ℕ) → list_any p (take i xs) ≡ false → option_map_or p (slice_get xs i) false ≡ false → list_any p (take (suc i) xs) ≡ false
    one-more p [] i none fails = refl
    one-more p (x ∷ xs) zero none fails = ap (λ b. b || false) fails
    one-more p (x ∷ xs) (suc i) none fails = each (p x) none (λ more. one-more p xs i more fails)
      where
        each : (b : Bool) → (b || list_any p (take i xs)) ≡ false → (list_any p (take i xs) ≡ false → list_any p (take (suc i) xs) ≡ false) → (b || list_any p (take (suc i) xs)) ≡ false
        each true none rest = absurd (false≢true (sym none))
        each false none rest = rest none
