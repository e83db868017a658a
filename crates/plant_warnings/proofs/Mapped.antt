-- Tests of elements, and of what a function makes of them.
use Rattle.std.proofs.Common.{◌≡◌, ◌∙◌, refl, ap, sym, ℕ, ◌+◌, ◌<◌, Bool, true, false, ◌||◌, List, [], ◌∷◌, map, length, drop, get_or}
use Rattle.std.specs.List.{list_any}
use Rattle.std.proofs.lemmas.List.{drop_more}

-- a test of some that a function makes of a list is a test of the list
pub any_mapped : {X Y : Type 0} (p : Y → Bool) (f : X → Y) (xs : List X) → list_any p (map f xs) ≡ list_any (λ x. p (f x)) xs
any_mapped p f [] = refl
any_mapped p f (x ∷ xs) = ap (λ b. p (f x) || b) (any_mapped p f xs)

-- the same of a list that is known as what the function makes
pub any_seen : {X Y : Type 0} (p : Y → Bool) (f : X → Y) (xs : List X) (ys : List Y) (answer : Bool) → map f xs ≡ ys → answer ≡ list_any (λ x. p (f x)) xs → answer ≡ list_any p ys
any_seen p f xs ys answer seen is = is ∙ sym (any_mapped p f xs) ∙ ap (list_any p) seen

-- one of two tests passes, each the same as another
pub either : {a b c d : Bool} → a ≡ c → b ≡ d → (a || b) ≡ (c || d)
either {b = b} {c = c} p q = ap (λ x. x || b) p ∙ ap (λ x. c || x) q

-- some element from a place on passes a test; each element is seen as what a function makes of it
module _ {X Y : Type 0} (p : Y → Bool) (f : X → Y) (xs : List X) (i : ℕ) (x : X) (all : Bool) (within : i < length xs) (here : x ≡ get_or xs i x) (so_far : list_any p (map f (drop i xs)) ≡ all) where
  from-here : (p (f x) || list_any p (map f (drop (i + 1) xs))) ≡ all
  from-here =
      sym (ap (λ ys. list_any p (map f ys)) (drop_more xs i x within ∙ ap (λ y. y ∷ drop (i + 1) xs) (sym here))) ∙ so_far

  -- the one at the place does
  pub any-now : p (f x) ≡ true → true ≡ all
  any-now passed = sym (ap (λ b. b || list_any p (map f (drop (i + 1) xs))) passed) ∙ from-here

  -- or it does not, and one after it may
  pub any-later : p (f x) ≡ false → list_any p (map f (drop (i + 1) xs)) ≡ all
  any-later failed = sym (ap (λ b. b || list_any p (map f (drop (i + 1) xs))) failed) ∙ from-here
