-- How many rows of one element from each of several lists there are, and which row has a place.
use Rattle.std.proofs.Common.{◌≡◌, ℕ, zero, suc, ◌+◌, ◌*◌, ◌/◌, ◌%◌, ◌<◌, ◌≤◌, ◌-◌, ◌^◌, refl, sym, ◌∙◌, ap, subst, List, [], ◌∷◌, ◌++◌, length, map, get_or, take, drop, arith, mul_comm, mul-div_cancel, div-add-mod', div-lt_iff_lt-mul, mod-lt, mul-zero, mul-le-mul, pow-add}
use Rattle.std.specs.Prelude.{Some, slice_get, flat_map, option_map}
use Rattle.std.proofs.Math.Nat.{mul_assoc}
use Rattle.std.proofs.lemmas.List.{length-append, length-map, take_all}
use Rattle.std.proofs.lemmas.Option.{slice_get-map, slice_get-get_or, slice_get_within, get_or_from_slice_get}
use Rattle.plant_model.specs.Choice.{combinations}

-- entries before and behind a seam
pub slice_get-left : {X : Type 0} (xs ys : List X) (i : ℕ) → i < length xs → slice_get (xs ++ ys) i ≡ slice_get xs i
slice_get-left [] ys i within = absurd (omega arith)
slice_get-left (x ∷ xs) ys zero within = refl
slice_get-left (x ∷ xs) ys (suc i) within = slice_get-left xs ys i (omega arith)

pub slice_get-right : {X : Type 0} (xs ys : List X) (i : ℕ) → slice_get (xs ++ ys) (length xs + i) ≡ slice_get ys i
slice_get-right [] ys i = ap (slice_get ys) (omega arith)
slice_get-right (x ∷ xs) ys i =
    let e : suc (length xs) + i ≡ suc (length xs + i) = omega arith in
    ap (slice_get (x ∷ xs ++ ys)) e ∙ slice_get-right xs ys i

-- a product that something is below has no factor 0
pub positive : (a b place : ℕ) → place < a * b → 0 < b
positive a zero place within = absurd (omega (arith, mul-zero a))
positive a (suc b) place within = omega arith

module _ {X : Type 0} (rest : List (List X)) where
  -- the rows of one element before each of some rows
  abbrev pub rows : List X → List (List X)
  rows xs = flat_map (λ x. map (λ row. x ∷ row) rest) xs

  pub length-rows : (xs : List X) → length (rows xs) ≡ length xs * length rest
  length-rows [] = omega arith
  length-rows (x ∷ xs) =
      length-append (map (λ row. x ∷ row) rest) (rows xs) ∙
      omega (arith, length-map rest (λ row. x ∷ row), length-rows xs)

  -- the element varies slowest
  pub rows-at : (xs : List X) (q r : ℕ) (x : X) (row : List X) → slice_get xs q ≡ Some x → slice_get rest r ≡ Some row → slice_get (rows xs) (q * length rest + r) ≡ Some (x ∷ row)
  rows-at [] q r x row first later = absurd (cc)
  rows-at (y ∷ ys) zero r x row first later =
      let long : length (map (λ row. y ∷ row) rest) ≡ length rest = length-map rest (λ row. y ∷ row) in
      let within : r < length (map (λ row. y ∷ row) rest) = omega (arith, long, slice_get_within rest r row later) in
      let same : y ≡ x = cc in
      ap (slice_get (rows (y ∷ ys))) (omega arith) ∙
      slice_get-left (map (λ row. y ∷ row) rest) (rows ys) r within ∙
      slice_get-map (λ row. y ∷ row) rest r ∙ ap (option_map (λ row. y ∷ row)) later ∙ ap (λ z. Some (z ∷ row)) same
  rows-at (y ∷ ys) (suc q) r x row first later =
      let long : length (map (λ row. y ∷ row) rest) ≡ length rest = length-map rest (λ row. y ∷ row) in
      let place : suc q * length rest + r ≡ length (map (λ row. y ∷ row) rest) + (q * length rest + r) = omega (arith, long) in
      ap (slice_get (rows (y ∷ ys))) place ∙
      slice_get-right (map (λ row. y ∷ row) rest) (rows ys) (q * length rest + r) ∙
      rows-at ys q r x row first later

  -- the element and the row of a place
  pub rows-of : (xs : List X) (place : ℕ) (x : X) → place < length xs * length rest → slice_get xs (place / length rest) ≡ Some x → slice_get (rows xs) place ≡ Some (x ∷ get_or rest (place % length rest) [])
  rows-of xs place x within first =
      let some : 0 < length rest = positive (length xs) (length rest) place within in
      let r = place % length rest in
      let below : r < length rest = mod-lt place some in
      ap (slice_get (rows xs)) (sym (div-add-mod' place (length rest))) ∙
      rows-at xs (place / length rest) r x (get_or rest r []) first (slice_get-get_or rest r [] below)

-- there are as many rows of lists behind one another as the product of those of each part
pub length-combinations-append : {X : Type 0} (xs ys : List (List X)) → length (combinations (xs ++ ys)) ≡ length (combinations xs) * length (combinations ys)
length-combinations-append [] ys = omega arith
length-combinations-append (x ∷ xs) ys =
    length-rows (combinations (xs ++ ys)) x ∙ ap (λ n. length x * n) (length-combinations-append xs ys)
    ∙ sym (mul_assoc (length x) (length (combinations xs)) (length (combinations ys)))
    ∙ ap (λ n. n * length (combinations ys)) (sym (length-rows (combinations xs) x))

-- powers of 2 that bound a product
pub product-bound : (a b k n : ℕ) → a ≤ 128 → b ≤ 2 ^ (7 * k) → n ≡ suc k → a * b ≤ 2 ^ (7 * n)
product-bound a b k n small few e =
    let sum : 7 * n ≡ 7 + 7 * k = omega arith in
    subst (λ x. a * b ≤ x) (sym (ap (λ m. 2 ^ m) sum ∙ pow-add 2 7 (7 * k))) (mul-le-mul small few)

pub parts-bound : (a b m n k : ℕ) → a ≤ 2 ^ (7 * m) → b ≤ 2 ^ (7 * n) → m + n ≡ k → a * b ≤ 2 ^ (7 * k)
parts-bound a b m n k few many e =
    let sum : 7 * k ≡ 7 * m + 7 * n = omega arith in
    subst (λ x. a * b ≤ x) (sym (ap (λ j. 2 ^ j) sum ∙ pow-add 2 (7 * m) (7 * n))) (mul-le-mul few many)

-- a list that is not empty, as its first element and the others
pub first-later : {X : Type 0} (xs : List X) (d : X) → 1 ≤ length xs → xs ≡ get_or xs 0 d ∷ take (length xs - 1) (drop 1 xs)
first-later [] d some = absurd (omega arith)
first-later (x ∷ xs) d some =
    let few : length xs ≤ length (x ∷ xs) - 1 = omega arith in
    ap (λ ys. x ∷ ys) (sym (take_all (length (x ∷ xs) - 1) xs few))

pub length-later : {X : Type 0} (xs : List X) → 1 ≤ length xs → length xs ≡ suc (length (take (length xs - 1) (drop 1 xs)))
length-later [] some = absurd (omega arith)
length-later (x ∷ xs) some = ap length (first-later (x ∷ xs) x some)

-- the rows of lists that are made of the elements of a list, by its first element and the others
module _ {X Y : Type 0} (f : X → List Y) (xs : List X) (d : X) (some : 1 ≤ length xs) where
  by-first : combinations (map f xs) ≡ rows (combinations (map f (take (length xs - 1) (drop 1 xs)))) (f (get_or xs 0 d))
  by-first = ap (λ ys. combinations (map f ys)) (first-later xs d some)

  pub count-by-first : (count below : ℕ) → count ≡ length (f (get_or xs 0 d)) → below ≡ length (combinations (map f (take (length xs - 1) (drop 1 xs)))) → count * below ≡ length (combinations (map f xs))
  count-by-first count below counted told =
      ap (λ n. n * below) counted ∙ ap (λ n. length (f (get_or xs 0 d)) * n) told ∙
      sym (ap length by-first ∙ length-rows (combinations (map f (take (length xs - 1) (drop 1 xs)))) (f (get_or xs 0 d)))

  -- where a place is in the rows, of which there are `total`
  module _ (total count place : ℕ) (told : total ≡ length (combinations (map f xs))) (counted : count ≡ length (f (get_or xs 0 d))) (within : place < total) where
    abbrev fewer : ℕ
    fewer = length (combinations (map f (take (length xs - 1) (drop 1 xs))))

    total-is : total ≡ count * fewer
    total-is = told ∙ sym (count-by-first count fewer counted refl)

    pub count-positive : 0 < count
    count-positive = positive fewer count place (subst (λ n. place < n) (total-is ∙ mul_comm count fewer) within)

    pub below-is : total / count ≡ length (combinations (map f (take (length xs - 1) (drop 1 xs))))
    below-is = ap (λ n. n / count) (total-is ∙ mul_comm count fewer) ∙ mul-div_cancel fewer count-positive

    fewer-positive : 0 < fewer
    fewer-positive = positive count fewer place (subst (λ n. place < n) total-is within)

    pub below-positive : 0 < total / count
    below-positive = subst (λ n. 0 < n) (sym below-is) fewer-positive

    pub first-within : place / (total / count) < length (f (get_or xs 0 d))
    first-within =
        subst (λ n. place / n < length (f (get_or xs 0 d))) (sym below-is)
        ((div-lt_iff_lt-mul fewer-positive).1 (subst (λ n. place < n) (total-is ∙ ap (λ n. n * fewer) counted) within))

    pub later-within : place % (total / count) < total / count
    later-within = mod-lt place below-positive

    pub row-by-first : (y : Y) → slice_get (f (get_or xs 0 d)) (place / (total / count)) ≡ Some y → get_or (combinations (map f xs)) place [] ≡ y ∷ get_or (combinations (map f (take (length xs - 1) (drop 1 xs)))) (place % (total / count)) []
    row-by-first y first =
        let rest = combinations (map f (take (length xs - 1) (drop 1 xs))) in
        ap (λ r. get_or r place []) by-first ∙
        get_or_from_slice_get (rows rest (f (get_or xs 0 d))) place (y ∷ get_or rest (place % fewer) []) []
        (rows-of rest (f (get_or xs 0 d)) place y (subst (λ n. place < n) (total-is ∙ ap (λ n. n * fewer) counted) within) (ap (λ n. slice_get (f (get_or xs 0 d)) (place / n)) (sym below-is) ∙ first)) ∙
        ap (λ n. y ∷ get_or rest (place % n) []) (sym below-is)
