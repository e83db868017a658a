-- How the numbers of a connector's choices are told.
use Rattle.std.proofs.Common.{◌≡◌, ◌∙◌, ap, ℕ, zero, suc, ◌+◌, ◌-◌, ◌<◌, min, [], ◌∷◌, ◌++◌, length, take, drop, append-nil, arith}
use Rattle.std.specs.Prelude.{decimal, flat_map}
use Rattle.std.specs.List.{range_with_len}
use Rattle.std.proofs.lemmas.Grind.{flat_map-append}
use Rattle.std.proofs.lemmas.List.FromFn.{length-range_with_len}
use Rattle.run_text.specs.declared.choices.TheConstants.{MOST_LISTED}
use Rattle.step_session.specs.Numbers.{dots_text, later_number, told_numbers}

-- one more number
range-more : (a n j : ℕ) → a + n ≡ j → range_with_len a (n + 1) ≡ range_with_len a n ++ j ∷ []
range-more a zero j is = let same : a ≡ j = omega (arith, is) in ap (λ k. k ∷ []) same
range-more a (suc n) j is =
    let longer : suc n + 1 ≡ suc (n + 1) = omega arith in
    ap (range_with_len a) longer ∙ ap (λ ks. a ∷ ks) (range-more (a + 1) n j (omega (arith, is)))

-- and it is told after the others
pub told-more : (a n j : ℕ) → a + n ≡ j → flat_map later_number (range_with_len a (n + 1)) ≡ flat_map later_number (range_with_len a n) ++ later_number j
told-more a n j is =
    ap (flat_map later_number) (range-more a n j is) ∙ flat_map-append later_number (range_with_len a n) (j ∷ []) ∙
    ap (λ text. flat_map later_number (range_with_len a n) ++ text) (append-nil (later_number j))

-- the first of some numbers
take-range : (k a n m : ℕ) → m ≡ min k n → take k (range_with_len a n) ≡ range_with_len a m
take-range zero a n m is = let none : 0 ≡ m = omega (arith, is) in ap (range_with_len a) none
take-range (suc k) a zero m is = let none : 0 ≡ m = omega (arith, is) in ap (range_with_len a) none
take-range (suc k) a (suc n) zero is = absurd (omega (arith, is))
take-range (suc k) a (suc n) (suc m) is = ap (λ ks. a ∷ ks) (take-range k (a + 1) n m (omega (arith, is)))

-- how many there are
pub several-long : (first count : ℕ) → 1 < count → length (first ∷ drop 1 (range_with_len first count)) ≡ count
several-long first zero several = absurd (omega (arith, several))
several-long first (suc n) several = ap suc (length-range_with_len (first + 1) n)

-- those after the first that are told
pub told-first : (first count m : ℕ) → 1 < count → m + 1 ≡ min count MOST_LISTED
    → told_numbers first (drop 1 (range_with_len first count)) ≡ decimal first ++ flat_map later_number (range_with_len (first + 1) m) ++ dots_text count
told-first first zero m several is = absurd (omega (arith, several))
told-first first (suc n) m several is =
    let begun : m ≡ min (MOST_LISTED - 1) n = omega (arith, is) in
    ap (λ ks. decimal first ++ flat_map later_number ks ++ dots_text (suc (length (range_with_len (first + 1) n)))) (take-range (MOST_LISTED - 1) (first + 1) n m begun) ∙
    ap (λ k. decimal first ++ flat_map later_number (range_with_len (first + 1) m) ++ dots_text k) (several-long first (suc n) several)
