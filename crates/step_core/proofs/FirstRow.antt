-- The first row of one element from each of some lists: it has the first element of each.
use Rattle.std.proofs.Common.{◌≡◌, ℕ, zero, suc, ◌+◌, ◌*◌, ◌<◌, refl, ◌∙◌, ap, List, [], ◌∷◌, ◌++◌, length, map, take, get_or, arith}
use Rattle.std.specs.Prelude.{Some, slice_get}
use Rattle.std.proofs.lemmas.List.{map-append, take_more}
use Rattle.std.proofs.lemmas.Option.{get_or_from_slice_get}
use Rattle.plant_model.specs.Choice.{combinations}
use Rattle.plant_model.proofs.Combinations.{length-rows, positive, rows}

module _ {X Y : Type 0} (f : X → List Y) (d : Y) where
  abbrev pub first : X → Y
  first x = get_or (f x) 0 d

  -- where there is a row, there is one of the later lists, and an element of the first
  some-later : (x : X) (xs : List X) → 0 < length (combinations (map f (x ∷ xs))) → 0 < length (combinations (map f xs))
  some-later x xs some =
      positive (length (f x)) (length (combinations (map f xs))) 0 (omega (arith, some, length-rows (combinations (map f xs)) (f x)))

  some-here : (x : X) (xs : List X) → 0 < length (combinations (map f (x ∷ xs))) → 0 < length (f x)
  some-here x xs some =
      at (f x) (omega (arith, some, length-rows (combinations (map f xs)) (f x)))
    where
      at : (ys : List Y) → 0 < length ys * length (combinations (map f xs)) → 0 < length ys
      at [] none = absurd (omega (arith, none))
      at (y ∷ ys) _ = omega arith

  -- then there is an element of each list
  pub some-each : (xs : List X) (k : ℕ) (x : X) → k < length xs → 0 < length (combinations (map f xs)) → 0 < length (f (get_or xs k x))
  some-each [] k x within some = absurd (omega (arith, within))
  some-each (y ∷ ys) zero x within some = some-here y ys some
  some-each (y ∷ ys) (suc k) x within some = some-each ys k x (omega (arith, within)) (some-later y ys some)

  -- and the first row has the first element of each
  first-of : (rest : List (List Y)) (ys : List Y) → 0 < length ys → 0 < length rest → get_or (rows rest ys) 0 [] ≡ get_or ys 0 d ∷ get_or rest 0 []
  first-of [] ys some later = absurd (omega (arith, later))
  first-of (r ∷ rs) [] some later = absurd (omega (arith, some))
  first-of (r ∷ rs) (y ∷ ys) some later = refl

  pub first-row : (xs : List X) → 0 < length (combinations (map f xs)) → get_or (combinations (map f xs)) 0 [] ≡ map first xs
  first-row [] some = refl
  first-row (x ∷ xs) some =
      first-of (combinations (map f xs)) (f x) (some-here x xs some) (some-later x xs some) ∙
      ap (λ ys. first x ∷ ys) (first-row xs (some-later x xs some))

  -- one list more
  pub first-more : (xs : List X) (k : ℕ) (x : X) (y : Y) → k < length xs → slice_get (f (get_or xs k x)) 0 ≡ Some y → map first (take (k + 1) xs) ≡ map first (take k xs) ++ y ∷ []
  first-more xs k x y within at =
      ap (map first) (take_more xs k x within) ∙ map-append first (take k xs) (get_or xs k x ∷ []) ∙
      ap (λ z. map first (take k xs) ++ z ∷ []) (get_or_from_slice_get (f (get_or xs k x)) 0 y d at)
