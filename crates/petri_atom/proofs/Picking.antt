-- The number with a place in a set of 128, found in one of its two words of 64 bits.
use Rattle.std.proofs.Common.{◌≡◌, ℕ, zero, suc, ◌+◌, ◌-◌, ◌/◌, ◌%◌, ◌^◌, ◌<◌, ◌≤◌, Bool, true, false, cond, refl, sym, ◌∙◌, ap, arith, List, [], ◌∷◌, ◌++◌, length, map, filter, Some, None, get_or, ⊎_elim}
use Rattle.std.specs.Prelude.{option_map, slice_get}
use Rattle.std.specs.Int.Count.{ones}
use Rattle.std.specs.List.{range_with_len}
use Rattle.std.proofs.lemmas.Bool.{cases_lt}
use Rattle.std.proofs.lemmas.List.{length-map}
use Rattle.std.proofs.lemmas.List.Elements.{filter-append}
use Rattle.std.proofs.lemmas.Nat.{mod_below, pow_pos, shr_split}
use Rattle.std.proofs.lemmas.Option.{none-some, slice_get-get_or, slice_get-map, slice_get_past}
use Rattle.petri_atom.specs.Local.{has, numbers_below}
use Rattle.petri_atom.proofs.Halves.{has-rest, has-high}
use Rattle.petri_atom.proofs.Members.{filter-agree, nth-none}
use Rattle.petri_atom.proofs.PortSets.{ones-set_below}
use Rattle.petri_atom.proofs.Sets.{set_below-is}

-- the first places of two lists, one behind the other, are those of the first list
get-front : {X : Type 0} (xs ys : List X) (k : ℕ) → k < length xs → slice_get (xs ++ ys) k ≡ slice_get xs k
get-front [] ys k within = absurd (omega arith)
get-front (x ∷ xs) ys zero within = refl
get-front (x ∷ xs) ys (suc k) within = get-front xs ys k (omega arith)

-- and the others those of the second
get-behind : {X : Type 0} (xs ys : List X) (k : ℕ) → length xs ≤ k → slice_get (xs ++ ys) k ≡ slice_get ys (k - length xs)
get-behind [] ys k past = let e : k ≡ k - 0 = omega arith in ap (slice_get ys) e
get-behind (x ∷ xs) ys zero past = absurd (omega arith)
get-behind (x ∷ xs) ys (suc k) past =
    let e : k - length xs ≡ suc k - suc (length xs) = omega arith in get-behind xs ys k (omega arith) ∙ ap (slice_get ys) e

-- a range that is cut in two
range-cut : (a m n : ℕ) → range_with_len a (m + n) ≡ range_with_len a m ++ range_with_len (a + m) n
range-cut a zero n =
    let whole : 0 + n ≡ n = omega arith in
    let here : a ≡ a + 0 = omega arith in
    ap (range_with_len a) whole ∙ ap (λ k. range_with_len k n) here
range-cut a (suc m) n =
    let longer : suc m + n ≡ suc (m + n) = omega arith in
    let moved : a + 1 + m ≡ a + suc m = omega arith in
    ap (range_with_len a) longer ∙ ap (λ r. a ∷ r) (range-cut (a + 1) m n ∙ ap (λ k. range_with_len (a + 1) m ++ range_with_len k n) moved)

-- the numbers that pass a test in a range that stands further on
filter-moved : (f : ℕ → Bool) (a b n : ℕ) → filter f (range_with_len (a + b) n) ≡ map (λ k. a + k) (filter (λ k. f (a + k)) (range_with_len b n))
filter-moved f a b zero = refl
filter-moved f a b (suc n) =
    let rest = filter (λ k. f (a + k)) (range_with_len (b + 1) n) in
    let further : ℕ → ℕ = λ k. a + k in
    let next : a + b + 1 ≡ a + (b + 1) = omega arith in
    ap (λ r. cond (f (a + b)) ((a + b) ∷ r) r) (ap (λ k. filter f (range_with_len k n)) next ∙ filter-moved f a (b + 1) n) ∙
    elim (f (a + b)) as (λ t. cond t ((a + b) ∷ map further rest) (map further rest) ≡ map further (cond t (b ∷ rest) rest)) [ true ↦ refl | false ↦ refl ]

-- a set that is cut in two has the numbers of its lower part, and those of the other, each as so many further on
numbers-cut : (m n set low high : ℕ) → ((k : ℕ) → k < m → has set k ≡ has low k) → ((k : ℕ) → has set (m + k) ≡ has high k) → numbers_below (m + n) set ≡ numbers_below m low ++ map (λ k. m + k) (numbers_below n high)
unfolding numbers_below
numbers-cut m n set low high lower higher =
    let start : 0 + m ≡ m + 0 = omega arith in
    ap (filter (has set)) (range-cut 0 m n) ∙ filter-append (has set) (range_with_len 0 m) (range_with_len (0 + m) n) ∙
    ap (λ xs. xs ++ filter (has set) (range_with_len (0 + m) n)) (filter-agree (has set) (has low) 0 m (λ k from before. lower k (omega (arith, before)))) ∙
    ap (λ xs. filter (has low) (range_with_len 0 m) ++ xs) (ap (λ k. filter (has set) (range_with_len k n)) start ∙ filter-moved (has set) m 0 n ∙ ap (map (λ k. m + k)) (filter-agree (λ k. has set (m + k)) (has high) 0 n (λ k from before. higher k)))

-- a set has as many bits as numbers
pub ones-numbers : (n set : ℕ) → set < 2 ^ n → ones set ≡ length (numbers_below n set)
unfolding numbers_below
ones-numbers n set small = ap ones (set_below-is n set (has set) small (λ k below. refl)) ∙ ones-set_below n (has set)

-- where a word has a number with a place, what has the same one is not empty
pub some-left : (word place left k : ℕ) → word < 2 ^ 64 → place < ones word → slice_get (numbers_below 64 left) k ≡ slice_get (numbers_below 64 word) place → 0 < left
some-left word place left k small within same =
    let numbers = numbers_below 64 word in
    let there : slice_get numbers place ≡ Some (get_or numbers place 0) = slice_get-get_or numbers place 0 (omega (arith, within, ones-numbers 64 word small)) in
    ⊎_elim
    (λ none.
    let empty : left ≡ 0 = omega (arith, none) in
    absurd (none-some (get_or numbers place 0) (sym (ap (λ w. slice_get (numbers_below 64 w) k) empty ∙ nth-none 64 k) ∙ same ∙ there)))
    (λ some. omega (arith, some))
    (cases_lt left 1)

module _ (set low high place : ℕ) (low-is : low ≡ set % 2 ^ 64) (high-is : high ≡ set / 2 ^ 64) where
  halves : numbers_below 128 set ≡ numbers_below 64 low ++ map (λ k. 64 + k) (numbers_below 64 high)
  halves =
      numbers-cut 64 64 set low high (λ k below. sym (has-rest set k below) ∙ ap (λ x. has x k) (sym low-is))
      (λ k. sym (has-high set k) ∙ ap (λ x. has x k) (sym high-is))

  low-count : ones low ≡ length (numbers_below 64 low)
  low-count = ones-numbers 64 low (omega (arith, low-is, mod_below set (2 ^ 64) (pow_pos 64)))

  -- the first places are those of the lower word
  pub nth-low : (n : ℕ) → place < ones low → slice_get (numbers_below 64 low) place ≡ Some n → slice_get (numbers_below 128 set) place ≡ Some n
  nth-low n within found =
      ap (λ xs. slice_get xs place) halves ∙ get-front (numbers_below 64 low) (map (λ k. 64 + k) (numbers_below 64 high)) place (omega (arith, within, low-count)) ∙ found

  behind : ones low ≤ place → slice_get (numbers_below 128 set) place ≡ slice_get (map (λ k. 64 + k) (numbers_below 64 high)) (place - ones low)
  behind past =
      ap (λ xs. slice_get xs place) halves ∙ get-behind (numbers_below 64 low) (map (λ k. 64 + k) (numbers_below 64 high)) place (omega (arith, past, low-count)) ∙
      ap (λ n. slice_get (map (λ k. 64 + k) (numbers_below 64 high)) (place - n)) (sym low-count)

  -- and the next ones those of the higher
  pub nth-high : (n : ℕ) → ones low ≤ place → slice_get (numbers_below 64 high) (place - ones low) ≡ Some n → slice_get (numbers_below 128 set) place ≡ Some (64 + n)
  nth-high n past found =
      behind past ∙ slice_get-map (λ k. 64 + k) (numbers_below 64 high) (place - ones low) ∙ ap (option_map (λ k. 64 + k)) found

  -- and there are no more
  pub nth-past : set < 2 ^ 128 → ones low ≤ place → ones high ≤ place - ones low → slice_get (numbers_below 128 set) place ≡ None
  nth-past small past over =
      let fits : high < 2 ^ 64 = omega (arith, high-is, shr_split set 64, small) in
      let count : length (map (λ k. 64 + k) (numbers_below 64 high)) ≡ ones high = length-map (numbers_below 64 high) (λ k. 64 + k) ∙ sym (ones-numbers 64 high fits) in
      behind past ∙ slice_get_past (map (λ k. 64 + k) (numbers_below 64 high)) (place - ones low) (omega (arith, over, count))
