-- Two rows of words: what is in both, and what is in either.
use Rattle.std.proofs.Common.{◌≡◌, ◌≢◌, ℕ, ◌+◌, ◌*◌, ◌/◌, ◌%◌, ◌^◌, ◌<◌, ◌≤◌, min, max, false, not, ◌&&◌, ◌||◌, eqb, List, length, get_or, set, refl, sym, ap, ◌∙◌, subst, ⊎_elim, bit_and, bit_or, w64, arith, get_or-set_same, get_or-set_other, IsTrue}
use Rattle.std.specs.Int.{bit_at, bit_not, trailing_zeros}
use Rattle.std.specs.Cmp.{nat_cmp_total}
use Rattle.std.specs.FinSet as fin
use Rattle.std.proofs.lemmas.Bool.{cases_lt, cases_eq, eq-eqb, eqb-true, and_parts, not-true, not-false}
use Rattle.std.proofs.lemmas.Bool.Decides.{nat_tests}
use Rattle.std.proofs.lemmas.Nat.Bits.{bit_at-zero, bit_at_and, bit_at_or, bit_at-lt, bit_at-trailing_zeros}
use Rattle.priority_filter.specs.Members.{has_bit, holds, members_of}
use Rattle.priority_filter.proofs.Words.{bit-and, bit-not}
use Rattle.priority_filter.proofs.MemberLaws.{contains-members_of, members_of-same, holds_past}

-- the lowest bit that is set in both words with a place tells what is in both rows
pub in_both_from_word : (xs ys : List ℕ) (k : ℕ) → bit_and (get_or xs k 0) (get_or ys k 0) < 2 ^ 64 → bit_and (get_or xs k 0) (get_or ys k 0) ≢ 0 → (a : ℕ) × (a / 64 ≡ k) × IsTrue (holds xs a) × IsTrue (holds ys a)
in_both_from_word xs ys k fits some =
    let x : ℕ = get_or xs k 0 in
    let y : ℕ = get_or ys k 0 in
    let both : ℕ = bit_and x y in
    let found = bit_at-trailing_zeros w64 both (omega arith) fits in
    let t : ℕ = trailing_zeros w64 both in
    let lower : t < 64 = found.0 in
    let parts : min (bit_at x t) (bit_at y t) ≡ 1 = sym (bit_at_and x y t) ∙ found.1 in
    let x_bit : bit_at x t ≡ 1 = omega (arith, bit_at-lt x t) in
    let y_bit : bit_at y t ≡ 1 = omega (arith, bit_at-lt y t) in
    let word : (64 * k + t) / 64 ≡ k = omega arith in
    let place : (64 * k + t) % 64 ≡ t = omega arith in (
      64 * k + t,
      word,
      eq-eqb _ 1 (ap (λ j. bit_at (get_or xs j 0) ((64 * k + t) % 64)) word ∙ ap (bit_at x) place ∙ x_bit),
      eq-eqb _ 1 (ap (λ j. bit_at (get_or ys j 0) ((64 * k + t) % 64)) word ∙ ap (bit_at y) place ∙ y_bit),
    )

-- if the words with a place have no bit in common nothing of theirs is in both rows
pub none_in_both_at : (xs ys : List ℕ) (k : ℕ) → bit_and (get_or xs k 0) (get_or ys k 0) ≡ 0 → (a : ℕ) → a / 64 ≡ k → IsTrue (holds xs a) → IsTrue (holds ys a) → ⊥
none_in_both_at xs ys k none a here in_x in_y =
    let x : ℕ = get_or xs (a / 64) 0 in
    let y : ℕ = get_or ys (a / 64) 0 in
    let zero_bit : min (bit_at x (a % 64)) (bit_at y (a % 64)) ≡ 0 = sym (bit_at_and x y (a % 64)) ∙ ap (λ j. bit_at (bit_and (get_or xs j 0) (get_or ys j 0)) (a % 64)) here ∙ ap (λ w. bit_at w (a % 64)) none ∙ bit_at-zero (a % 64) in
    let x_bit : bit_at x (a % 64) ≡ 1 = eqb-true _ 1 in_x in
    let y_bit : bit_at y (a % 64) ≡ 1 = eqb-true _ 1 in_y in
    absurd (omega arith)

-- if no two of the first words have a bit in common nothing of theirs is in both rows
pub none_in_both : (xs ys : List ℕ) (n : ℕ) → ((j : ℕ) → j < n → bit_and (get_or xs j 0) (get_or ys j 0) ≡ 0) → (a : ℕ) → a < 64 * n → IsTrue (holds xs a) → IsTrue (holds ys a) → ⊥
none_in_both xs ys n none a within in_x in_y = none_in_both_at xs ys (a / 64) (none (a / 64) (omega arith)) a refl in_x in_y

-- ---- what is in one row and not in the other

-- the bits of a word without those of another
bit_without : (x y k : ℕ) → y < 2 ^ 64 → k < 64 → has_bit (bit_and x (bit_not w64 y)) k ≡ (has_bit x k && not (has_bit y k))
bit_without x y k small below = bit-and x (bit_not w64 y) k ∙ ap (λ b. has_bit x k && b) (bit-not y k small below)

-- the lowest bit of the first word that the other lacks
pub in_one_from_word : (xs ys : List ℕ) (k : ℕ) → get_or ys k 0 < 2 ^ 64 → bit_and (get_or xs k 0) (bit_not w64 (get_or ys k 0)) < 2 ^ 64 → bit_and (get_or xs k 0) (bit_not w64 (get_or ys k 0)) ≢ 0
    → (a : ℕ) × (a < 64 * (k + 1)) × IsTrue (holds xs a) × (holds ys a ≡ false)
in_one_from_word xs ys k small fits some =
    let x : ℕ = get_or xs k 0 in
    let y : ℕ = get_or ys k 0 in
    let more : ℕ = bit_and x (bit_not w64 y) in
    let found = bit_at-trailing_zeros w64 more (omega arith) fits in
    let t : ℕ = trailing_zeros w64 more in
    let lower : t < 64 = found.0 in
    let bits = and_parts (has_bit x t) (not (has_bit y t)) (sym (bit_without x y t small lower) ∙ eq-eqb _ 1 found.1) in
    let word : (64 * k + t) / 64 ≡ k = omega arith in
    let place : (64 * k + t) % 64 ≡ t = omega arith in (
      64 * k + t,
      omega arith,
      ap (λ j. has_bit (get_or xs j 0) ((64 * k + t) % 64)) word ∙ ap (has_bit x) place ∙ bits.0,
      ap (λ j. has_bit (get_or ys j 0) ((64 * k + t) % 64)) word ∙ ap (has_bit y) place ∙ not-true (has_bit y t) bits.1,
    )

-- if the first word has no bit that the other lacks
pub in_other_too : (xs ys : List ℕ) (k : ℕ) → get_or ys k 0 < 2 ^ 64 → bit_and (get_or xs k 0) (bit_not w64 (get_or ys k 0)) ≡ 0
    → ((a : ℕ) → a < 64 * k → IsTrue (holds xs a) → IsTrue (holds ys a)) → (a : ℕ) → a < 64 * (k + 1) → IsTrue (holds xs a) → IsTrue (holds ys a)
in_other_too xs ys k small none so_far a below in_x =
    ⊎_elim
    (λ here.
    let x : ℕ = get_or xs (a / 64) 0 in
    let y : ℕ = get_or ys (a / 64) 0 in
    let fits : y < 2 ^ 64 = subst (λ j. get_or ys j 0 < 2 ^ 64) (sym here) small in
    let blank : bit_and x (bit_not w64 y) ≡ 0 = ap (λ j. bit_and (get_or xs j 0) (bit_not w64 (get_or ys j 0))) here ∙ none in
    let bit : has_bit (bit_and x (bit_not w64 y)) (a % 64) ≡ false = ap (λ w. has_bit w (a % 64)) blank ∙ ap (λ b. eqb b 1) (bit_at-zero (a % 64)) in
    let neither : (has_bit x (a % 64) && not (has_bit y (a % 64))) ≡ false = sym (bit_without x y (a % 64) fits (omega arith)) ∙ bit in
    not-false (has_bit y (a % 64)) (sym (ap (λ b. b && not (has_bit y (a % 64))) in_x) ∙ neither))
    (λ other. so_far a (omega arith) in_x)
    (cases_eq (a / 64) k)

-- one more word without the bits of another
pub cleared_more : (old now new other : List ℕ) (k : ℕ) → k < length now → get_or other k 0 < 2 ^ 64
    → new ≡ set now k (bit_and (get_or now k 0) (bit_not w64 (get_or other k 0)))
    → ((n : ℕ) → n < 64 * k → holds now n ≡ (holds old n && not (holds other n)))
    → ((j : ℕ) → k ≤ j → get_or now j 0 ≡ get_or old j 0)
    → (n : ℕ) → n < 64 * (k + 1) → holds new n ≡ (holds old n && not (holds other n))
cleared_more old now new other k within small is so_far rest n below =
    let v : ℕ = bit_and (get_or now k 0) (bit_not w64 (get_or other k 0)) in
    ⊎_elim
    (λ here.
    ap (λ ws. holds ws n) is ∙
    ap (λ j. has_bit (get_or (set now k v) j 0) (n % 64)) here ∙
    ap (λ w. has_bit w (n % 64)) (get_or-set_same now k v 0 within) ∙
    bit_without (get_or now k 0) (get_or other k 0) (n % 64) small (omega arith) ∙
    ap (λ w. has_bit w (n % 64) && not (has_bit (get_or other k 0) (n % 64))) (rest k (omega arith)) ∙
    ap (λ j. has_bit (get_or old j 0) (n % 64) && not (has_bit (get_or other j 0) (n % 64))) (sym here))
    (λ apart.
    ap (λ ws. holds ws n) is ∙
    ap (λ w. has_bit w (n % 64)) (get_or-set_other now k (n / 64) v 0 apart) ∙
    so_far n (omega arith))
    (cases_eq (n / 64) k)

pub cleared_rest : (old now new other : List ℕ) (k : ℕ)
    → new ≡ set now k (bit_and (get_or now k 0) (bit_not w64 (get_or other k 0)))
    → ((j : ℕ) → k ≤ j → get_or now j 0 ≡ get_or old j 0)
    → (j : ℕ) → k + 1 ≤ j → get_or new j 0 ≡ get_or old j 0
cleared_rest old now new other k is rest j past =
    ap (λ ws. get_or ws j 0) is ∙ get_or-set_other now k j (bit_and (get_or now k 0) (bit_not w64 (get_or other k 0))) 0 (omega arith) ∙ rest j (omega arith)

-- a bit of `|`
or_bit : (x y i : ℕ) → eqb (bit_at (bit_or x y) i) 1 ≡ (eqb (bit_at x i) 1 || eqb (bit_at y i) 1)
or_bit x y i = ap (λ b. eqb b 1) (bit_at_or x y i) ∙ or_digits (bit_at x i) (bit_at y i) (bit_at-lt x i) (bit_at-lt y i)
  where
    or_digits : (a b : ℕ) → a < 2 → b < 2 → eqb (max a b) 1 ≡ (eqb a 1 || eqb b 1)
    or_digits a b a_digit b_digit = grind (arith, nat_tests)

-- rows whose words are united hold what either of them does
pub members_of-united : (xs ys zs : List ℕ) (n : ℕ) → length xs ≡ n → length ys ≡ n → length zs ≡ n
    → ((k : ℕ) → k < n → get_or zs k 0 ≡ bit_or (get_or xs k 0) (get_or ys k 0))
    → members_of zs ≡ fin.union (members_of xs) (members_of ys)
members_of-united xs ys zs n of_x of_y of_z united =
    members_of-same zs _ (λ q.
    ⊎_elim
    (λ within. ap (λ w. eqb (bit_at w (q % 64)) 1) (united (q / 64) within) ∙ or_bit (get_or xs (q / 64) 0) (get_or ys (q / 64) 0) (q % 64))
    (λ past. holds_past zs q (omega arith) ∙ sym (ap (λ b. b || holds ys q) (holds_past xs q (omega arith)) ∙ holds_past ys q (omega arith)))
    (cases_lt (q / 64) n)
    ∙ sym (fin.contains-union nat_cmp_total (members_of xs) (members_of ys) q ∙ ap (λ b. b || fin.contains (members_of ys) q) (contains-members_of xs q) ∙ ap (λ b. holds xs q || b) (contains-members_of ys q)))

-- if the first words are united, what is in either set is in, among the numbers of these words, and all else is as it was
module _ (xs ys zs : List ℕ) (count : ℕ) where
  pub united-within : ((k : ℕ) → k < count → get_or zs k 0 ≡ bit_or (get_or xs k 0) (get_or ys k 0)) → (n : ℕ) → n < 64 * count → fin.contains (members_of zs) n ≡ (fin.contains (members_of xs) n || fin.contains (members_of ys) n)
  united-within united n below =
      contains-members_of zs n ∙ ap (λ w. eqb (bit_at w (n % 64)) 1) (united (n / 64) (omega arith)) ∙
      or_bit (get_or xs (n / 64) 0) (get_or ys (n / 64) 0) (n % 64) ∙
      sym (ap (λ b. b || fin.contains (members_of ys) n) (contains-members_of xs n) ∙ ap (λ b. holds xs n || b) (contains-members_of ys n))

  pub united-past : ((k : ℕ) → count ≤ k → get_or zs k 0 ≡ get_or xs k 0) → (n : ℕ) → 64 * count ≤ n → fin.contains (members_of zs) n ≡ fin.contains (members_of xs) n
  united-past rest n past =
      contains-members_of zs n ∙ ap (λ w. eqb (bit_at w (n % 64)) 1) (rest (n / 64) (omega arith)) ∙ sym (contains-members_of xs n)
