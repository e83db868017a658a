-- Words of 64 bits as sets: which bits two of them have together, and what is left of one without its lowest.
use Rattle.std.proofs.Common.{◌≡◌, ℕ, ◌*◌, ◌%◌, ◌^◌, ◌<◌, ◌≤◌, Bool, true, false, not, ◌&&◌, ◌||◌, eqb, refl, sym, ap, ◌∙◌, ⊎_elim, w64, arith}
use Rattle.std.specs.Prelude.{bit_and, bit_or}
use Rattle.std.specs.Int.{bit_at, bit_not, trailing_zeros}
use Rattle.std.proofs.Math.Bool.{and-false}
use Rattle.std.proofs.Math.Nat.{div-eq_of_lt, pow-le-pow_right}
use Rattle.std.proofs.lemmas.Bool.{cases_eq}
use Rattle.std.proofs.lemmas.Bool.Decides.{nat_tests}
use Rattle.std.proofs.lemmas.Nat.{and_le_l}
use Rattle.std.proofs.lemmas.Nat.Bits.{bit_at_and, bit_at_or, bit_at_not, bit_at-lt, bit_at_clear_same, bit_at_clear_other, bit_at-trailing_zeros}
use Rattle.priority_filter.specs.Members.{has_bit}

pub bit-and : (a b k : ℕ) → has_bit (bit_and a b) k ≡ (has_bit a k && has_bit b k)
bit-and a b k = grind (arith, nat_tests, bit_at_and a b k, bit_at-lt a k, bit_at-lt b k)

bit-or : (a b k : ℕ) → has_bit (bit_or a b) k ≡ (has_bit a k || has_bit b k)
bit-or a b k = grind (arith, nat_tests, bit_at_or a b k, bit_at-lt a k, bit_at-lt b k)

pub bit-not : (a k : ℕ) → a < 2 ^ 64 → k < 64 → has_bit (bit_not w64 a) k ≡ not (has_bit a k)
bit-not a k p q = grind (arith, nat_tests, bit_at_not w64 a k p q, bit_at-lt a k)

-- a word of 64 bits has no bit past them
pub no-bit-past : (a k : ℕ) → a < 2 ^ 64 → 64 ≤ k → has_bit a k ≡ false
no-bit-past a k small past =
    let more : 2 ^ 64 ≤ 2 ^ k = pow-le-pow_right (omega arith) past in
    let larger : a < 2 ^ k = omega arith in
    ap (λ n. eqb (n % 2) 1) (div-eq_of_lt larger)

-- what is kept unasked, and what is kept of the others
picked : (here unasked over : Bool) → (unasked ≡ true → over ≡ false) → (here && unasked || (here && not (here && unasked)) && not over) ≡ (here && not over)
picked false unasked over never = refl
picked true false over never = refl
picked true true over never = sym (ap not (never refl))

pub word-picked : (here free rest k : ℕ) (over : Bool) → here < 2 ^ 64 → bit_and here free < 2 ^ 64 → k < 64 → (has_bit free k ≡ true → over ≡ false) → has_bit rest k ≡ (has_bit (bit_and here (bit_not w64 (bit_and here free))) k && not over) → has_bit (bit_or (bit_and here free) rest) k ≡ (has_bit here k && not over)
word-picked here free rest k over small low below never answer =
    bit-or (bit_and here free) rest k ∙
    ap (λ b. has_bit (bit_and here free) k || b) (answer ∙ ap (λ b. b && not over) (bit-and here (bit_not w64 (bit_and here free)) k ∙ ap (λ b. has_bit here k && b) (bit-not (bit_and here free) k low below))) ∙
    ap (λ b. b || (has_bit here k && not b) && not over) (bit-and here free k) ∙
    picked (has_bit here k) (has_bit free k) over never

-- the lowest bit of a word, and the word without it
module _ (left : ℕ) (some : 0 < left) (small : left < 2 ^ 64) where
  abbrev lowest : ℕ
  lowest = trailing_zeros w64 left

  abbrev rest : ℕ
  rest = bit_and left (bit_not w64 (1 * 2 ^ lowest % 2 ^ 64))

  pub lowest-below : lowest < 64
  lowest-below = (bit_at-trailing_zeros w64 left some small).0

  there : bit_at left lowest ≡ 1
  there = (bit_at-trailing_zeros w64 left some small).1

  pub rest-less : rest < left
  rest-less =
      ⊎_elim (λ same. absurd (omega (arith, sym (ap (λ w. bit_at w lowest) same) ∙ bit_at_clear_same w64 left lowest lowest-below, there)))
      (λ other. omega (arith, and_le_l left (bit_not w64 (1 * 2 ^ lowest % 2 ^ 64)), other)) (cases_eq rest left)

  -- one more is asked of, and kept or not
  module _ (over : ℕ → Bool) (set kept : ℕ) (so_far : (k : ℕ) → k < 64 → has_bit kept k ≡ (has_bit set k && (has_bit left k || not (over k)))) where
    past_lowest : (k : ℕ) → k < 64 → (has_bit left k ≡ true → lowest ≡ k → over k ≡ false) → (has_bit set k && (has_bit left k || not (over k))) ≡ (has_bit set k && (has_bit rest k || not (over k)))
    past_lowest k below holds =
        ⊎_elim
        (λ same. ap (λ b. has_bit set k && (b || not (over k))) (ap (has_bit left) same ∙ ap (λ x. eqb x 1) there) ∙
        sym (ap (λ b. has_bit set k && (has_bit rest k || not b)) (holds (ap (has_bit left) same ∙ ap (λ x. eqb x 1) there) (sym same)) ∙ ap (λ b. has_bit set k && b) (or_true (has_bit rest k))))
        (λ other. ap (λ x. has_bit set k && (eqb x 1 || not (over k))) (sym (bit_at_clear_other w64 left lowest lowest-below k below other)))
        (cases_eq k lowest)
      where
        or_true : (b : Bool) → (b || true) ≡ true
        or_true true = refl
        or_true false = refl

    pub asked-kept : over lowest ≡ false → (k : ℕ) → k < 64 → has_bit kept k ≡ (has_bit set k && (has_bit rest k || not (over k)))
    asked-kept answer k below = so_far k below ∙ past_lowest k below (λ _ same. ap over (sym same) ∙ answer)

    pub asked-left : over lowest ≡ true → (k : ℕ) → k < 64 → has_bit (bit_and kept (bit_not w64 (1 * 2 ^ lowest % 2 ^ 64))) k ≡ (has_bit set k && (has_bit rest k || not (over k)))
    asked-left answer k below =
        ⊎_elim
        (λ same. ap (has_bit (bit_and kept (bit_not w64 (1 * 2 ^ lowest % 2 ^ 64)))) same ∙ ap (λ x. eqb x 1) (bit_at_clear_same w64 kept lowest lowest-below) ∙
        sym (ap (λ j. has_bit set j && (has_bit rest j || not (over j))) same ∙
        ap (λ x. has_bit set lowest && (eqb x 1 || not (over lowest))) (bit_at_clear_same w64 left lowest lowest-below) ∙
        ap (λ b. has_bit set lowest && not b) answer ∙ and-false (has_bit set lowest)))
        (λ other. ap (λ x. eqb x 1) (bit_at_clear_other w64 kept lowest lowest-below k below other) ∙ so_far k below ∙
        ap (λ x. has_bit set k && (eqb x 1 || not (over k))) (sym (bit_at_clear_other w64 left lowest lowest-below k below other)))
        (cases_eq k lowest)
