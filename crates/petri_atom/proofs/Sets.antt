use Rattle.std.proofs.Common.{◌≡◌, ℕ, zero, suc, ◌+◌, ◌*◌, ◌%◌, ◌^◌, ◌<◌, ◌≤◌, ◌≢◌, Bool, true, false, cond, not, ◌&&◌, ◌||◌, eqb, refl, sym, ◌∙◌, ap, arith, lit<, pow-suc, add-one, mod-eq_of_lt, subst, List, [], ◌∷◌, ◌++◌, ⊎_elim}
use Rattle.std.specs.Prelude.{bit_and, bit_or, bit_xor}
use mir.Val.{bits}
use Rattle.std.specs.Int.{Width, bit_not, w64, from_bool}
use Rattle.std.proofs.lemmas.Bool.{cases_lt, cases_eq, or_left, or_right, eq-eqb, ne_eqb, and_left, and_right}
use Rattle.std.proofs.Math.Bool.{or-false, or-true, and-true}
use Rattle.std.proofs.lemmas.Bool.Decides.{nat_tests}
use Rattle.std.proofs.lemmas.List.Folds.{list_any-append}
use Rattle.std.proofs.lemmas.Nat.{or_lt, pow_pos, pow_below}
use Rattle.std.proofs.Math.Nat.{sub_self}
use Rattle.std.proofs.lemmas.Nat.Bits.{bit_at-lt, bit_at_cat_low, bit_at_cat_high, bit_at_above, bit_at_and, bit_at_or, bit_at_xor, bit_at_not, bit_at_set_same, bit_at_set_other, same_from_bits, same_from_bits_below}
use Rattle.petri_atom.specs.Local.{has, is_in, set_below}

-- two bits that answer alike are the same
same_bit : (x y : ℕ) → x < 2 → y < 2 → eqb x 1 ≡ eqb y 1 → x ≡ y
same_bit x y p q e = grind (arith, nat_tests)

-- a number is in both of two sets, in one of them, or not in a set
pub has-and : (a b k : ℕ) → has (bit_and a b) k ≡ (has a k && has b k)
has-and a b k = grind (arith, nat_tests, bit_at_and a b k, bit_at-lt a k, bit_at-lt b k)

pub has-or : (a b k : ℕ) → has (bit_or a b) k ≡ (has a k || has b k)
has-or a b k = grind (arith, nat_tests, bit_at_or a b k, bit_at-lt a k, bit_at-lt b k)

-- which is which of two sets a number is in alone
abbrev pub differs : Bool → Bool → Bool
differs a b = a && not b || not a && b

pub has-xor : (a b k : ℕ) → has (bit_xor a b) k ≡ differs (has a k) (has b k)
has-xor a b k = grind (arith, nat_tests, bit_at_xor a b k, bit_at-lt a k, bit_at-lt b k)

pub has-not : (w : Width) (a k : ℕ) → a < 2 ^ bits w → k < bits w → has (bit_not w a) k ≡ not (has a k)
has-not w a k p q = grind (arith, nat_tests, bit_at_not w a k p q, bit_at-lt a k)

-- a number of n bits has no number from n on
pub has-above : (a n k : ℕ) → a < 2 ^ n → n ≤ k → has a k ≡ false
has-above a n k p q = ap (λ x. eqb x 1) (bit_at_above a n k p q)

-- the numbers of one word that are not in another
pub has-minus : (w : Width) (a b k : ℕ) → a < 2 ^ bits w → b < 2 ^ bits w → has (bit_and a (bit_not w b)) k ≡ (has a k && not (has b k))
has-minus w a b k small other =
    has-and a (bit_not w b) k ∙
    ⊎_elim (λ low. ap (λ x. has a k && x) (has-not w b k other low))
    (λ past. let none : has a k ≡ false = has-above a (bits w) k small past in and_left _ _ none ∙ sym (and_left _ (not (has b k)) none))
    (cases_lt k (bits w))

-- one more number in a set, by a shift and an or in a word of any width
pub has-set : (w : Width) (a n k : ℕ) → n < bits w → has (bit_or a (1 * 2 ^ n % 2 ^ bits w)) k ≡ (has a k || eqb k n)
has-set w a n k below =
    ⊎_elim (λ same. ap (has (bit_or a (1 * 2 ^ n % 2 ^ bits w))) same ∙ ap (λ x. eqb x 1) (bit_at_set_same w a n below) ∙ sym (ap (λ b. has a k || b) (eq-eqb k n same) ∙ or-true (has a k)))
    (λ other. ap (λ x. eqb x 1) (bit_at_set_other w a n below k other) ∙ sym (ap (λ b. has a k || b) (ne_eqb k n other) ∙ or-false (has a k)))
    (cases_eq k n)

-- the same where a test says whether it is put there
pub has-put : (w : Width) (a n k : ℕ) (b : Bool) → n < bits w → has (bit_or a (from_bool b * 2 ^ n % 2 ^ bits w)) k ≡ (has a k || eqb k n && b)
has-put w a n k true below = has-set w a n k below ∙ ap (λ x. has a k || x) (sym (and-true (eqb k n)))
has-put w a n k false below =
    let nothing : 0 * 2 ^ n ≡ 0 = omega arith in
    ap (λ x. has (bit_or a x) k) (ap (λ y. y % 2 ^ bits w) nothing ∙ mod-eq_of_lt (pow_pos (bits w))) ∙
    has-or a 0 k ∙ ap (λ x. has a k || x) (has-above 0 0 k (pow_pos 0) (omega arith) ∙ sym (and_right (eqb k n) false refl))

-- a set of that number alone, or of none
pub has-bit : (w : Width) (n k : ℕ) (b : Bool) → n < bits w → has (from_bool b * 2 ^ n % 2 ^ bits w) k ≡ (eqb k n && b)
has-bit w n k b below =
    let none : has 0 k ≡ false = has-above 0 0 k (pow_pos 0) (omega arith) in
    let word = from_bool b * 2 ^ n % 2 ^ bits w in
    sym (ap (λ x. x || has word k) none) ∙ sym (has-or 0 word k) ∙ has-put w 0 n k b below ∙
    ap (λ x. x || (eqb k n && b)) none

-- two sets below n with the same numbers are the same
pub same_set : (n a b : ℕ) → a < 2 ^ n → b < 2 ^ n → ((k : ℕ) → k < n → has a k ≡ has b k) → a ≡ b
same_set n a b p q same =
    same_from_bits_below n a b p q (λ k h. same_bit _ _ (bit_at-lt a k) (bit_at-lt b k) (same k h))

-- so are any two
pub same_numbers : (a b : ℕ) → ((k : ℕ) → has a k ≡ has b k) → a ≡ b
same_numbers a b same =
    same_from_bits a b (λ k. same_bit _ _ (bit_at-lt a k) (bit_at-lt b k) (same k))

-- a set of numbers below n is a number below 2 ^ n
pub set_below-lt : (n : ℕ) (f : ℕ → Bool) → set_below n f < 2 ^ n
unfolding set_below
set_below-lt zero f = lit< tt
set_below-lt (suc n) f =
    let small = set_below-lt n f in
    rw pow-suc
    (elim (f n) as (λ b. set_below n f + cond b (2 ^ n) 0 < 2 ^ n * 2) [ true ↦ omega arith | false ↦ omega arith ])

-- one more number on top of a set says whether the top one is there, and leaves the ones below
top_number : (n x : ℕ) (b : Bool) → x < 2 ^ n → has (x + cond b (2 ^ n) 0) n ≡ b
top_number n x true small =
    let e : x + 2 ^ n ≡ 1 * 2 ^ n + x = omega arith in
    ap (λ y. has y n) e ∙ ap (λ y. eqb y 1) (bit_at_cat_high 1 n x n small (omega arith)) ∙
    ap (λ y. has 1 y) (sub_self n)
top_number n x false small =
    let e : x + 0 ≡ x = omega arith in
    ap (λ y. has y n) e ∙ has-above x n n small (omega arith)

lower_number : (n x k : ℕ) (b : Bool) → k < n → has (x + cond b (2 ^ n) 0) k ≡ has x k
lower_number n x k true below =
    let e : x + 2 ^ n ≡ 1 * 2 ^ n + x = omega arith in
    ap (λ y. has y k) e ∙ ap (λ y. eqb y 1) (bit_at_cat_low 1 n x k below)
lower_number n x k false below = let e : x + 0 ≡ x = omega arith in ap (λ y. has y k) e

-- the set of the numbers below n that pass a test has just those
pub has-set_below : (n : ℕ) (f : ℕ → Bool) (k : ℕ) → k < n → has (set_below n f) k ≡ f k
unfolding set_below
has-set_below zero f k below = absurd (omega arith)
has-set_below (suc n) f k below =
    let here : n ≡ k → has (set_below n f + cond (f n) (2 ^ n) 0) k ≡ f k =
    λ e. ap (has (set_below n f + cond (f n) (2 ^ n) 0)) (sym e) ∙ top_number n (set_below n f) (f n) (set_below-lt n f) ∙ ap f e in
    let lower : k < n → has (set_below n f + cond (f n) (2 ^ n) 0) k ≡ f k =
    λ h. lower_number n (set_below n f) k (f n) h ∙ has-set_below n f k h in
    ⊎_elim lower (λ h. let e : n ≡ k = omega arith in here e) (cases_lt k n)

-- and if none passes from n on, just those that pass
pub has-passing : (n : ℕ) (f : ℕ → Bool) (k : ℕ) → (n ≤ k → f k ≡ false) → has (set_below n f) k ≡ f k
has-passing n f k none =
    ⊎_elim (has-set_below n f k) (λ past. has-above (set_below n f) n k (set_below-lt n f) past ∙ sym (none past))
    (cases_lt k n)

-- a set below n that has just the numbers that pass a test
pub set_below-is : (n w : ℕ) (f : ℕ → Bool) → w < 2 ^ n → ((k : ℕ) → k < n → has w k ≡ f k) → w ≡ set_below n f
set_below-is n w f small same =
    same_set n w (set_below n f) small (set_below-lt n f) (λ k h. same k h ∙ sym (has-set_below n f k h))

-- a set that has no number from n on is a number below 2 ^ n
pub fits-below : (n set : ℕ) → ((k : ℕ) → n ≤ k → has set k ≡ false) → set < 2 ^ n
fits-below n set none =
    let same : set ≡ set_below n (has set) = same_numbers _ _ (λ k. sym (has-passing n (has set) k (none k))) in
    omega (arith, same, set_below-lt n (has set))

-- the empty set
pub set_below-zero : (f : ℕ → Bool) → 0 ≡ set_below 0 f
unfolding set_below
set_below-zero f = refl

pub set_below-none : (n : ℕ) → 0 ≡ set_below n (is_in [])
set_below-none n =
    set_below-is n 0 (is_in []) (pow_pos n) (λ k h. has-above 0 0 k (pow_pos 0) (omega arith))

-- the word 1 << p
abbrev bit_word : ℕ → ℕ
bit_word p = 1 * 2 ^ p % 2 ^ 64

-- one more number in the set, by a shift and an or
pub set_below-more : (w : ℕ) (ks : List ℕ) (p : ℕ) → w < 2 ^ 64 → p < 64 → w ≡ set_below 64 (is_in ks) → bit_or w (1 * 2 ^ p % 2 ^ 64) ≡ set_below 64 (is_in (ks ++ p ∷ []))
set_below-more w ks p small below e =
    let bit_small : bit_word p < 2 ^ 64 = omega arith in
    set_below-is 64 (bit_or w (bit_word p)) (is_in (ks ++ p ∷ [])) (or_lt 64 w (bit_word p) small bit_small) each
  where
    before : (k : ℕ) → k < 64 → has w k ≡ is_in ks k
    before k h = ap (λ x. has x k) e ∙ has-set_below 64 (is_in ks) k h

    after : (k : ℕ) → is_in (ks ++ p ∷ []) k ≡ (is_in ks k || (eqb p k || false))
    after k = list_any-append (λ j. eqb j k) ks (p ∷ [])

    here : (k : ℕ) → k < 64 → k ≡ p → has (bit_or w (bit_word p)) k ≡ is_in (ks ++ p ∷ []) k
    here k h same =
        ap (has (bit_or w (bit_word p))) same ∙ ap (λ x. eqb x 1) (bit_at_set_same w64 w p below) ∙
        sym (after k ∙ or_right (is_in ks k) (eqb p k || false) (or_left (eqb p k) false (eq-eqb p k (sym same))))

    elsewhere : (k : ℕ) → k < 64 → k ≢ p → has (bit_or w (bit_word p)) k ≡ is_in (ks ++ p ∷ []) k
    elsewhere k h other =
        ap (λ x. eqb x 1) (bit_at_set_other w64 w p below k other) ∙ before k h ∙
        sym (after k ∙ ap (λ b. is_in ks k || (b || false)) (ne_eqb p k (λ q. other (sym q))) ∙ or-false (is_in ks k))

    each : (k : ℕ) → k < 64 → has (bit_or w (bit_word p)) k ≡ is_in (ks ++ p ∷ []) k
    each k h = ⊎_elim (here k h) (elsewhere k h) (cases_eq k p)

-- one more number that fails a test leaves its set the same
pub set_below-skip : (n x : ℕ) (f : ℕ → Bool) → x ≡ set_below n f → f n ≡ false → x ≡ set_below (n + 1) f
unfolding set_below
set_below-skip n x f e fails =
    let none : set_below n f ≡ set_below n f + 0 = omega arith in
    e ∙ none ∙ ap (λ b. set_below n f + cond b (2 ^ n) 0) (sym fails) ∙ ap (λ k. set_below k f) (sym (add-one n))

-- the set of the numbers up to n that pass a test, from the set of those below n, by a shift and an or in a word of any width
pub set_below-next : (w : Width) (n x : ℕ) (f : ℕ → Bool) (b : Bool) → n < bits w → x ≡ set_below n f → f n ≡ b → bit_or x (from_bool b * 2 ^ n % 2 ^ bits w) ≡ set_below (n + 1) f
set_below-next w n x f b below e passes =
    set_below-is (n + 1) (bit_or x (bit b)) f (or_lt (n + 1) x (bit b) word_small (bit_small b)) each
  where
    bit : Bool → ℕ
    bit b = from_bool b * 2 ^ n % 2 ^ bits w

    power : 2 ^ (n + 1) ≡ 2 ^ n * 2
    power = rw (add-one, pow-suc) refl

    before : x < 2 ^ n
    before = rw e (set_below-lt n f)

    word_small : x < 2 ^ (n + 1)
    word_small = omega (arith, power, before)

    nothing : 0 * 2 ^ n % 2 ^ bits w ≡ 0
    nothing =
        let none : 0 * 2 ^ n ≡ 0 = omega arith in
        ap (λ y. y % 2 ^ bits w) none ∙ mod-eq_of_lt (pow_pos (bits w))

    one : 1 * 2 ^ n % 2 ^ bits w ≡ 2 ^ n
    one =
        let plain : 1 * 2 ^ n ≡ 2 ^ n = omega arith in
        ap (λ y. y % 2 ^ bits w) plain ∙ mod-eq_of_lt (pow_below n (bits w) below)

    bit_small : (b : Bool) → from_bool b * 2 ^ n % 2 ^ bits w < 2 ^ (n + 1)
    bit_small true = omega (arith, one, pow_pos n, power)
    bit_small false = omega (arith, nothing, pow_pos (n + 1))

    here : (b : Bool) → f n ≡ b → has (bit_or x (from_bool b * 2 ^ n % 2 ^ bits w)) n ≡ f n
    here true passes = ap (λ y. eqb y 1) (bit_at_set_same w x n below) ∙ sym passes
    here false fails = ap (λ y. has (bit_or x y) n) nothing ∙ has-or x 0 n ∙ ap (λ b. b || has 0 n) (has-above x n n before (omega arith)) ∙ has-above 0 0 n (pow_pos 0) (omega arith) ∙ sym fails

    lower : (b : Bool) (k : ℕ) → k < n → has (bit_or x (from_bool b * 2 ^ n % 2 ^ bits w)) k ≡ f k
    lower true k h =
        ap (λ y. eqb y 1) (bit_at_set_other w x n below k (λ same. absurd (omega arith))) ∙ ap (λ y. has y k) e ∙
        has-set_below n f k h
    lower false k h =
        ap (λ y. has (bit_or x y) k) nothing ∙ has-or x 0 k ∙ ap (λ b. has x k || b) (has-above 0 0 k (pow_pos 0) (omega arith)) ∙ or-false (has x k) ∙
        ap (λ y. has y k) e ∙ has-set_below n f k h

    each : (k : ℕ) → k < n + 1 → has (bit_or x (bit b)) k ≡ f k
    each k h =
        ⊎_elim (lower b k)
        (λ past. let same : n ≡ k = omega arith in subst (λ j. has (bit_or x (bit b)) j ≡ f j) same (here b passes))
        (cases_lt k n)
