-- A set of 128 numbers as two words of 64 bits.
use Rattle.std.proofs.Common.{◌≡◌, ℕ, ◌+◌, ◌-◌, ◌*◌, ◌/◌, ◌%◌, ◌^◌, ◌<◌, ◌≤◌, Bool, true, false, ◌&&◌, ◌||◌, eqb, sym, ◌∙◌, ap, arith, mod-eq_of_lt, ⊎_elim}
use Rattle.std.specs.Prelude.{bit_and, bit_or}
use Rattle.std.proofs.Math.Bool.{and-true, or-false}
use Rattle.std.proofs.lemmas.Bool.{cases_lt, and_parts}
use Rattle.std.proofs.lemmas.Nat.{or_lt, pow_pos, mod_below, shr_split}
use Rattle.std.proofs.lemmas.Nat.Bits.{bit_at_cat_low, bit_at_cat_high, bit_at_ones}
use Rattle.petri_atom.specs.Local.{has, set_below}
use Rattle.petri_atom.proofs.Sets.{has-and, has-or, has-above, set_below-lt, has-set_below, set_below-is}

-- the lower word has the numbers below 64
has-low : (set n : ℕ) → n < 64 → has (bit_and set (2 ^ 64 - 1)) n ≡ has set n
has-low set n below =
    has-and set (2 ^ 64 - 1) n ∙ ap (λ x. has set n && eqb x 1) (bit_at_ones 64 n below) ∙ and-true (has set n)

-- and no others
pub low-within : (set n : ℕ) → has (bit_and set (2 ^ 64 - 1)) n ≡ true → has set n ≡ true
low-within set n inside = (and_parts _ _ (sym (has-and set (2 ^ 64 - 1) n) ∙ inside)).0

-- and so has what is left of the set modulo 2 ^ 64
pub has-rest : (set n : ℕ) → n < 64 → has (set % 2 ^ 64) n ≡ has set n
has-rest set n below =
    sym (ap (λ x. eqb x 1) (bit_at_cat_low (set / 2 ^ 64) 64 (set % 2 ^ 64) n below)) ∙ ap (λ x. has x n) (shr_split set 64)

-- a word that is moved down has the numbers past those that are moved out
has-past : (set first n : ℕ) → has (set / 2 ^ first) n ≡ has set (first + n)
has-past set first n =
    let back : first + n - first ≡ n = omega arith in
    sym (sym (ap (λ x. has x (first + n)) (shr_split set first)) ∙ ap (λ x. eqb x 1) (bit_at_cat_high (set / 2 ^ first) first (set % 2 ^ first) (first + n) (mod_below set (2 ^ first) (pow_pos first)) (omega arith)) ∙ ap (has (set / 2 ^ first)) back)

-- so has 64 of them
pub has-from : (set first n : ℕ) → n < 64 → has (bit_and (set / 2 ^ first) (2 ^ 64 - 1)) n ≡ has set (first + n)
has-from set first n below = has-low (set / 2 ^ first) n below ∙ has-past set first n

-- the higher word has the others, each as so many past 64
pub has-high : (set n : ℕ) → has (set / 2 ^ 64) n ≡ has set (64 + n)
has-high set n = has-past set 64 n

-- the numbers of both that pass a test are those of the set that do
pub joined : (set low high : ℕ) (f : ℕ → Bool) → low ≡ set_below 64 (λ n. has (bit_and set (2 ^ 64 - 1)) n && f (0 + n)) → high ≡ set_below 64 (λ n. has (set / 2 ^ 64) n && f (64 + n)) → bit_or (high * 2 ^ 64 % 2 ^ 128) low ≡ set_below 128 (λ n. has set n && f n)
joined set low high f lower higher =
    set_below-is 128 _ (λ n. has set n && f n) (or_lt 128 _ _ (mod_below (high * 2 ^ 64) (2 ^ 128) (pow_pos 128)) (omega (arith, low_small)))
    (λ k below. has-or _ low k ∙ ⊎_elim (λ h. ap (λ b. b || has low k) (under k h) ∙ lows k h) (λ past. ap (λ b. has (high * 2 ^ 64 % 2 ^ 128) k || b) (has-above low 64 k low_small past) ∙ or-false _ ∙ over k past below) (cases_lt k 64))
  where
    low_small : low < 2 ^ 64
    low_small = rw lower (set_below-lt 64 _)

    high_small : high < 2 ^ 64
    high_small = rw higher (set_below-lt 64 _)

    shifted : high * 2 ^ 64 % 2 ^ 128 ≡ high * 2 ^ 64 + 0
    shifted = let small : high * 2 ^ 64 < 2 ^ 128 = omega (arith, high_small) in mod-eq_of_lt small ∙ omega arith

    under : (k : ℕ) → k < 64 → has (high * 2 ^ 64 % 2 ^ 128) k ≡ false
    under k h =
        ap (λ x. has x k) shifted ∙ ap (λ x. eqb x 1) (bit_at_cat_low high 64 0 k h) ∙ has-above 0 0 k (pow_pos 0) (omega arith)

    lows : (k : ℕ) → k < 64 → has low k ≡ (has set k && f k)
    lows k h =
        let same : 0 + k ≡ k = omega arith in
        ap (λ x. has x k) lower ∙ has-set_below 64 (λ n. has (bit_and set (2 ^ 64 - 1)) n && f (0 + n)) k h ∙
        ap (λ b. b && f (0 + k)) (has-low set k h) ∙ ap (λ j. has set k && f j) same

    over : (k : ℕ) → 64 ≤ k → k < 128 → has (high * 2 ^ 64 % 2 ^ 128) k ≡ (has set k && f k)
    over k past below =
        let same : 64 + (k - 64) ≡ k = omega arith in
        let rest : k - 64 < 64 = omega arith in
        ap (λ x. has x k) shifted ∙ ap (λ x. eqb x 1) (bit_at_cat_high high 64 0 k (pow_pos 64) past) ∙
        ap (λ x. has x (k - 64)) higher ∙ has-set_below 64 (λ n. has (set / 2 ^ 64) n && f (64 + n)) (k - 64) rest ∙
        ap (λ b. b && f (64 + (k - 64))) (has-high set (k - 64)) ∙ ap (λ j. has set j && f j) same
