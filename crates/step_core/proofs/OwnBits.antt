-- Words in which the bits at some places are replaced, what two words have in common, and the highest bit of a word.
use Rattle.std.proofs.Common.{◌≡◌, ℕ, ◌+◌, ◌-◌, ◌*◌, ◌/◌, ◌%◌, ◌^◌, ◌<◌, ◌≤◌, sym, ◌∙◌, ap, arith, Bool, true, false, ◌||◌, eqb, suc, ⊎_elim, w64}
use Rattle.std.specs.Prelude.{bit_and, bit_or}
use Rattle.std.specs.Int.{bit_at, leading_zeros, trailing_zeros}
use Rattle.std.specs.Int.Bits.{bit_xor}
use Rattle.std.proofs.Math.Nat.{pow-succ'}
use Rattle.std.proofs.lemmas.Bool.{and_parts, cases_lt, false≢true}
use Rattle.std.proofs.lemmas.Bool.Decides.{nat_tests}
use Rattle.std.proofs.lemmas.Nat.{and_le_l, leading_top}
use Rattle.std.proofs.lemmas.Nat.Bits.{bit_at-lt, bit_at_cat_high, bit_at_set_other, bit_at_set_same, bit_at_xor}
use Rattle.petri_atom.proofs.Sets.{has-or}
use Rattle.priority_filter.specs.Members.{has_bit}
use Rattle.priority_filter.proofs.Words.{bit-and}
use Rattle.plant_model.proofs.BitsLeft.{lowest-below, lowest-set, no-bit}

-- a word with a bit that is set is not 0, and one that is not 0 has one
pub not-zero : (word k : ℕ) → has_bit word k ≡ true → 0 < word
not-zero word k set =
    ⊎_elim
    (λ some. some)
    (λ none. let zero : word ≡ 0 = omega (arith, none) in absurd (false≢true (sym (ap (λ w. has_bit w k) zero ∙ no-bit k) ∙ set)))
    (cases_lt 0 word)

-- one bit more
pub bit-set : (word k : ℕ) → k < 64 → has_bit (bit_or word (1 * 2 ^ k % 2 ^ 64)) k ≡ true
bit-set word k low = ap (λ x. eqb x 1) (bit_at_set_same w64 word k low)

pub bit-unset : (word k j : ℕ) → k < 64 → (j ≡ k → ⊥) → has_bit (bit_or word (1 * 2 ^ k % 2 ^ 64)) j ≡ has_bit word j
bit-unset word k j low other = ap (λ x. eqb x 1) (bit_at_set_other w64 word k low j other)

-- one bit alone
abbrev alone : ℕ → ℕ
alone k = 1 * 2 ^ k % 2 ^ 64

alone-is : (k j : ℕ) → has_bit (alone k) j ≡ has_bit (bit_or 0 (alone k)) j
alone-is k j = ap (λ b. b || has_bit (alone k) j) (sym (no-bit j)) ∙ sym (has-or 0 (alone k) j)

pub alone-here : (k : ℕ) → k < 64 → has_bit (alone k) k ≡ true
alone-here k low = alone-is k k ∙ bit-set 0 k low

pub alone-other : (k j : ℕ) → k < 64 → (j ≡ k → ⊥) → has_bit (alone k) j ≡ false
alone-other k j low other = alone-is k j ∙ bit-unset 0 k j low other ∙ no-bit j

-- the highest bit of a word
module _ (left : ℕ) (some : 0 < left) (small : left < 2 ^ 64) where
  abbrev pub highest : ℕ
  highest = 63 - leading_zeros w64 left

  top : (j : ℕ) × (leading_zeros w64 left + suc j ≡ 64) × (2 ^ j ≤ left) × (left < 2 ^ suc j)
  top = leading_top 64 left some small

  highest-is : highest ≡ top.0
  highest-is = omega (arith, top.1)

  pub highest-below : highest < 64
  highest-below = omega arith

  set-at : (j : ℕ) → 2 ^ j ≤ left → left < 2 ^ suc j → has_bit left j ≡ true
  set-at j from below =
      let rest : ℕ = left - 2 ^ j in
      let twice : 2 ^ suc j ≡ 2 * 2 ^ j = pow-succ' 2 j in
      let parts : left ≡ 1 * 2 ^ j + rest = omega (arith, from) in
      let less : rest < 2 ^ j = omega (arith, from, below, twice) in
      let none : j - j ≡ 0 = omega arith in
      ap (λ w. has_bit w j) parts ∙ ap (λ x. eqb x 1) (bit_at_cat_high 1 j rest j less (omega arith) ∙ ap (bit_at 1) none)

  pub highest-set : has_bit left highest ≡ true
  highest-set = ap (has_bit left) highest-is ∙ set-at top.0 top.2 top.3

-- a bit in which two words do not differ
pub no-difference : (a b k : ℕ) → has_bit (bit_xor a b) k ≡ false → has_bit a k ≡ has_bit b k
no-difference a b k = grind (arith, nat_tests, bit_at_xor a b k, bit_at-lt a k, bit_at-lt b k)

-- a bit that two words do not have is none in which they differ
pub no-bit-differs : (a b k : ℕ) → has_bit a k ≡ false → has_bit b k ≡ false → has_bit (bit_xor a b) k ≡ false
no-bit-differs a b k none no_other = grind (arith, nat_tests, bit_at_xor a b k, bit_at-lt a k, bit_at-lt b k, none, no_other)

-- two words that have a common bit, and stand for sets of numbers
pub common-in : (place a b : ℕ) (p q : ℕ → Bool) → ((n : ℕ) → n / 64 ≡ place → has_bit a (n % 64) ≡ p n) → ((n : ℕ) → n / 64 ≡ place → has_bit b (n % 64) ≡ q n) → a < 2 ^ 64 → 0 < bit_and a b
    → (n : ℕ) × (n / 64 ≡ place) × (p n ≡ true) × (q n ≡ true)
common-in place a b p q one other small some =
    let both : ℕ = bit_and a b in
    let fits : both < 2 ^ 64 = omega (arith, small, and_le_l a b) in
    let low = lowest-below both some fits in
    let bit : ℕ = trailing_zeros w64 both in
    let n : ℕ = 64 * place + bit in
    let here : n / 64 ≡ place = omega (arith, low) in
    let at : n % 64 ≡ bit = omega (arith, low) in
    let parts = and_parts (has_bit a bit) (has_bit b bit) (sym (bit-and a b bit) ∙ lowest-set both some fits) in
    (n, here, sym (one n here) ∙ ap (has_bit a) at ∙ parts.0, sym (other n here) ∙ ap (has_bit b) at ∙ parts.1)
