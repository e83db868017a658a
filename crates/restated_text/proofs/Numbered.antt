-- What is made of each of a numbered list.
use Rattle.std.proofs.Common.{◌≡◌, ◌∙◌, refl, sym, ap, ℕ, zero, suc, ◌+◌, arith, Bool, not, cond, List, [], ◌∷◌, ◌++◌, length, Option, Some, None, position, option_map}
use Rattle.std.specs.Prelude.{slice_get, nat_lt}
use Rattle.std.specs.List.{position_or_len}
use Rattle.restated_text.specs.Plants.{each_numbered}

-- there are as many
pub length_numbered : {X Y : Type 0} (f : ℕ → X → Y) (n : ℕ) (xs : List X) → length (each_numbered f n xs) ≡ length xs
length_numbered f n [] = refl
length_numbered f n (x ∷ xs) = ap suc (length_numbered f (n + 1) xs)

-- each is made of the one with its number
pub get_numbered : {X Y : Type 0} (f : ℕ → X → Y) (n : ℕ) (xs : List X) (k : ℕ) → slice_get (each_numbered f n xs) k ≡ option_map (f (n + k)) (slice_get xs k)
get_numbered f n [] k = refl
get_numbered f n (x ∷ xs) zero = let here : n ≡ n + 0 = omega arith in ap (λ (m : ℕ). Some (f m x)) here
get_numbered f n (x ∷ xs) (suc k) =
    let there : n + 1 + k ≡ n + suc k = omega arith in
    get_numbered f (n + 1) xs k ∙ ap (λ (m : ℕ). option_map (f m) (slice_get xs k)) there

-- one more is made at the end
pub numbered_and_one : {X Y : Type 0} (f : ℕ → X → Y) (n : ℕ) (xs : List X) (x : X) → each_numbered f n (xs ++ x ∷ []) ≡ each_numbered f n xs ++ f (n + length xs) x ∷ []
numbered_and_one f n [] x = let here : n ≡ n + 0 = omega arith in ap (λ (m : ℕ). f m x ∷ []) here
numbered_and_one f n (y ∷ ys) x =
    let there : n + 1 + length ys ≡ n + suc (length ys) = omega arith in
    ap (λ l. f n y ∷ l) (numbered_and_one f (n + 1) ys x ∙ ap (λ (m : ℕ). each_numbered f (n + 1) ys ++ f m x ∷ []) there)

-- the first that passes a test stands where it stood, if what is made passes as what it is made of
module _ {X Y : Type 0} (f : ℕ → X → Y) (test : Y → Bool) (before : X → Bool) (same : (k : ℕ) (x : X) → test (f k x) ≡ before x) where
  first_numbered : (n : ℕ) (xs : List X) → position_or_len test (each_numbered f n xs) ≡ position_or_len before xs
  first_numbered n [] = refl
  first_numbered n (x ∷ xs) =
      ap (λ (b : Bool). cond (not b) (1 + position_or_len test (each_numbered f (n + 1) xs)) 0) (same n x) ∙
      ap (λ (m : ℕ). cond (not (before x)) (1 + m) 0) (first_numbered (n + 1) xs)

  pub position_numbered : (n : ℕ) (xs : List X) → position test (each_numbered f n xs) ≡ position before xs
  position_numbered n xs =
      ap (λ (m : ℕ). cond (nat_lt m (length (each_numbered f n xs))) (Some m) None) (first_numbered n xs) ∙
      ap (λ (l : ℕ). cond (nat_lt (position_or_len before xs) l) (Some (position_or_len before xs)) None) (length_numbered f n xs)
