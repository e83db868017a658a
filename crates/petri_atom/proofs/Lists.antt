use Rattle.std.proofs.Common.{◌≡◌, ℕ, zero, suc, ◌⊎◌, ⊎_elim, inl, inr, ◌-◌, ◌^◌, ◌<◌, ◌≤◌, min, Bool, not, ◌&&◌, ◌||◌, leb, refl, sym, ap, ◌∙◌, arith, List, [], ◌∷◌, ◌++◌, map, length, get_or}
use Rattle.std.specs.Prelude.{Some, None, option_map, slice_get}
use Rattle.std.specs.List.{list_all, list_any}
use Rattle.std.proofs.lemmas.Bool.Decides.{nat_tests}
use Rattle.std.proofs.lemmas.List.{length-map}
use Rattle.std.proofs.lemmas.Option.{slice_get-map, slice_get_read, slice_get_past, same_Some, none-some}
use Rattle.petri_atom.specs.Definition.{is_each_once}

-- a test of all that a function makes of a list is a test of the list
pub list_all-map : {X Y : Type 0} (f : Y → Bool) (g : X → Y) (xs : List X) → list_all f (map g xs) ≡ list_all (λ x. f (g x)) xs
list_all-map f g [] = refl
list_all-map f g (x ∷ xs) = ap (λ b. f (g x) && b) (list_all-map f g xs)

-- a count that stops at the largest word tells whether it is at most a small number
pub leb-min : (n : ℕ) → leb (min n (2 ^ 64 - 1)) 64 ≡ leb n 64
leb-min n = grind (arith, nat_tests)

-- the parts of an `and`, each by an equation
pub both : {a b c d : Bool} → a ≡ c → b ≡ d → (a && b) ≡ (c && d)
both {b = b} {c = c} p q = ap (λ x. x && b) p ∙ ap (λ x. c && x) q

-- and those of an `or`
pub either : {a b c d : Bool} → a ≡ c → b ≡ d → (a || b) ≡ (c || d)
either {b = b} {c = c} p q = ap (λ x. x || b) p ∙ ap (λ x. c || x) q

pub list_any-map : {X Y : Type 0} (f : Y → Bool) (g : X → Y) (xs : List X) → list_any f (map g xs) ≡ list_any (λ x. f (g x)) xs
list_any-map f g [] = refl
list_any-map f g (x ∷ xs) = ap (λ b. f (g x) || b) (list_any-map f g xs)

-- no two that a function makes of a list are the same, by a sameness of what it makes
pub is_each_once-map : {X Y : Type 0} (same : Y → Y → Bool) (g : X → Y) (xs : List X) → is_each_once same (map g xs) ≡ is_each_once (λ a b. same (g a) (g b)) xs
is_each_once-map same g [] = refl
is_each_once-map same g (x ∷ xs) =
    both (ap not (list_any-map (λ y. same y (g x)) g xs)) (is_each_once-map same g xs)

-- the element with a number k, which stands in a machine word as n
pub got-at : {X : Type 0} (xs ys : List X) (n k : ℕ) (x : X) → ys ≡ xs → n ≡ k → n < length ys → x ≡ get_or ys n x → slice_get xs k ≡ Some x
got-at xs ys n k x same number within here =
    ap (λ zs. slice_get zs k) (sym same) ∙ ap (slice_get ys) (sym number) ∙ slice_get_read ys (length ys) n x refl within here

-- what a function makes of it
pub mapped-at : {X Y : Type 0} (f : X → Y) (xs ys : List X) (n k : ℕ) (x : X) → ys ≡ xs → n ≡ k → n < length ys → x ≡ get_or ys n x → slice_get (map f xs) k ≡ Some (f x)
mapped-at f xs ys n k x same number within here =
    slice_get-map f xs k ∙ ap (option_map f) (got-at xs ys n k x same number within here)

-- and there is none from the number of elements on
pub mapped-past : {X Y : Type 0} (f : X → Y) (xs ys : List X) (n k : ℕ) → ys ≡ xs → n ≡ k → length ys ≤ n → slice_get (map f xs) k ≡ None
mapped-past f xs ys n k same number past =
    slice_get_past (map f xs) k (omega (arith, length-map xs f, ap length same))

-- an element of a list with one more at the end is one of the list, or the last
pub got-push : {X : Type 0} (xs : List X) (x : X) (n : ℕ) (y : X) → slice_get (xs ++ x ∷ []) n ≡ Some y → (slice_get xs n ≡ Some y) ⊎ ((n ≡ length xs) × (x ≡ y))
got-push [] x zero y got = inr (refl, same_Some x y got)
got-push [] x (suc n) y got = absurd (none-some y got)
got-push (z ∷ xs) x zero y got = inl got
got-push (z ∷ xs) x (suc n) y got = ⊎_elim (λ there. inl there) (λ last. inr (ap suc last.0, last.1)) (got-push xs x n y got)
