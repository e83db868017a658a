-- How many bits of a word are set below a place.
use Rattle.std.proofs.Common.{◌≡◌, ℕ, zero, suc, ◌+◌, ◌-◌, ◌%◌, ◌^◌, ◌<◌, ◌≤◌, sym, ◌∙◌, ap, arith, true, false, refl, mod-eq_of_lt, ⊎_elim}
use Rattle.std.specs.Prelude.{count_ones}
use Rattle.std.specs.Int.{bit_at, trailing_zeros, w64}
use Rattle.std.specs.Int.Count.{ones-ones}
use Rattle.std.proofs.lemmas.Bool.{cases_Bool, cases_eq, eqb-true, eqb-false}
use Rattle.std.proofs.lemmas.Nat.{mod-pow-add, mod_below, ones_cat, pow_pos}
use Rattle.std.proofs.lemmas.Nat.Bits.{bit_at-lt}
use Rattle.priority_filter.specs.Members.{has_bit}
use Rattle.step_core.proofs.LowestBits.{IsRest, bit-from, bit-passes, none-between, none-left}

-- ---- counted from the lowest bit on

-- how many bits below a place are set
abbrev pub ones_below : ℕ → ℕ → ℕ
ones_below word k = count_ones (word % 2 ^ k)

bit-count : (b : ℕ) → b < 2 → count_ones b ≡ b
bit-count zero small = ones-ones 0
bit-count (suc zero) small = ones-ones 1
bit-count (suc (suc b)) small = absurd (omega arith)

-- at first none
pub ones-start : (word : ℕ) → ones_below word 0 ≡ 0
ones-start word = let none : word % 2 ^ 0 ≡ 0 = omega arith in ap count_ones none ∙ ones-ones 0

-- one bit more
pub ones-more : (word k : ℕ) → ones_below word (k + 1) ≡ bit_at word k + ones_below word k
ones-more word k =
    let e : k + 1 ≡ 1 + k = omega arith in
    ap (ones_below word) e ∙ ap count_ones (mod-pow-add word 1 k) ∙ ones_cat k (bit_at word k) (word % 2 ^ k) (mod_below word (2 ^ k) (pow_pos k)) ∙
    ap (λ n. n + ones_below word k) (bit-count (bit_at word k) (bit_at-lt word k))

pub ones-set : (word k : ℕ) → has_bit word k ≡ true → ones_below word (k + 1) ≡ ones_below word k + 1
ones-set word k set = omega (arith, ones-more word k, eqb-true (bit_at word k) 1 set)

pub ones-unset : (word k : ℕ) → has_bit word k ≡ false → ones_below word (k + 1) ≡ ones_below word k
ones-unset word k unset =
    ⊎_elim (λ is. absurd (eqb-false (bit_at word k) 1 unset is)) (λ other. omega (arith, ones-more word k, bit_at-lt word k, other)) (cases_eq (bit_at word k) 1)

-- bits that are not set add nothing
pub ones-skip : (word i e : ℕ) → ((j : ℕ) → i ≤ j → j < i + e → has_bit word j ≡ false) → ones_below word (i + e) ≡ ones_below word i
ones-skip word i zero none = let e : i + 0 ≡ i = omega arith in ap (ones_below word) e
ones-skip word i (suc e) none =
    let next : i + suc e ≡ (i + e) + 1 = omega arith in
    ap (ones_below word) next ∙ ones-unset word (i + e) (none (i + e) (omega arith) (omega arith)) ∙ ones-skip word i e (λ j from below. none j from (omega (arith, below)))

-- all of a word
pub ones-all : (word : ℕ) → word < 2 ^ 64 → ones_below word 64 ≡ count_ones word
ones-all word small = ap count_ones (mod-eq_of_lt small)

-- a word has no more than it has places
ones-few : (word k : ℕ) → ones_below word k ≤ k
ones-few word zero = omega (arith, ones-start word)
ones-few word (suc k) =
    let more : suc k ≡ k + 1 = omega arith in
    ⊎_elim
    (λ set. omega (arith, ap (ones_below word) more, ones-set word k set, ones-few word k))
    (λ unset. omega (arith, ap (ones_below word) more, ones-unset word k unset, ones-few word k))
    (cases_Bool (has_bit word k))

pub few-ones : (word : ℕ) → word < 2 ^ 64 → count_ones word ≤ 64
few-ones word small = omega (arith, ones-all word small, ones-few word 64)

-- ---- the bits of a word that are left from a place on

pub all-rest : (word : ℕ) → IsRest (has_bit word) word 0
all-rest word = (λ j _ _. refl, λ j below. absurd (omega (arith, below)))

module _ (word left k : ℕ) (rest : IsRest (has_bit word) left k) where
  -- where none is left, all are counted
  pub counted-all : k ≤ 64 → word < 2 ^ 64 → left ≡ 0 → count_ones word ≡ ones_below word k
  counted-all within small none =
      let end : k + (64 - k) ≡ 64 = omega (arith, within) in
      sym (ones-all word small) ∙ ap (ones_below word) (sym end) ∙
      ones-skip word k (64 - k) (λ j from below. none-left (has_bit word) left k rest none j from (omega (arith, below, within)))

  -- else the lowest of them has the place of those that are counted
  module _ (some : 0 < left) (small : left < 2 ^ 64) where
    pub lowest-set : has_bit word (trailing_zeros w64 left) ≡ true
    lowest-set = bit-passes (has_bit word) left k some small rest

    pub lowest-place : ones_below word (trailing_zeros w64 left) ≡ ones_below word k
    lowest-place =
        let from : k ≤ trailing_zeros w64 left = bit-from (has_bit word) left k some small rest in
        let end : k + (trailing_zeros w64 left - k) ≡ trailing_zeros w64 left = omega (arith, from) in
        ap (ones_below word) (sym end) ∙
        ones-skip word k (trailing_zeros w64 left - k) (λ j after below. none-between (has_bit word) left k some small rest j after (omega (arith, below, from)))

    pub counted-next : ones_below word (trailing_zeros w64 left + 1) ≡ ones_below word k + 1
    counted-next = ones-set word (trailing_zeros w64 left) lowest-set ∙ ap (λ n. n + 1) lowest-place
