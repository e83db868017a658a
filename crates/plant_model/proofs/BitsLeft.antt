-- The bits of a word from the lowest on: what is taken, and what is left.
use Rattle.std.proofs.Common.{◌≡◌, ℕ, ◌-◌, ◌%◌, ◌*◌, ◌^◌, ◌<◌, ◌≤◌, sym, ◌∙◌, ap, true, false, eqb, ⊎_elim, w64}
use Rattle.std.specs.Prelude.{bit_and}
use Rattle.std.specs.Int.{bit_not, trailing_zeros}
use Rattle.std.proofs.lemmas.Bool.{and_parts, cases_lt, false≢true}
use Rattle.std.proofs.lemmas.Nat.Bits.{bit_at-trailing_zeros, bit_at-zero, bit_at_clear_other}
use Rattle.priority_filter.specs.Members.{has_bit}
use Rattle.priority_filter.proofs.Words.{bit-and, no-bit-past}
use Rattle.plant_model.proofs.WithoutLowest.{same-rest}

-- no bit of 0 is set
pub no-bit : (k : ℕ) → has_bit 0 k ≡ false
no-bit k = ap (λ x. eqb x 1) (bit_at-zero k)

module _ (left : ℕ) (some : 0 < left) (small : left < 2 ^ 64) where
  abbrev pub lowest : ℕ
  lowest = trailing_zeros w64 left

  abbrev pub rest : ℕ
  rest = bit_and left (bit_not w64 (1 * 2 ^ lowest % 2 ^ 64))

  pub lowest-below : lowest < 64
  lowest-below = (bit_at-trailing_zeros w64 left some small).0

  pub lowest-set : has_bit left lowest ≡ true
  lowest-set = ap (λ x. eqb x 1) (bit_at-trailing_zeros w64 left some small).1

  -- what is left was there, and what was there and is not left is the lowest
  pub rest-in : (k : ℕ) → has_bit rest k ≡ true → has_bit left k ≡ true
  rest-in k inside = (and_parts (has_bit left k) _ (sym (bit-and left (bit_not w64 (1 * 2 ^ lowest % 2 ^ 64)) k) ∙ inside)).0

  pub rest-out : (k : ℕ) → (k ≡ lowest → ⊥) → has_bit rest k ≡ false → has_bit left k ≡ false
  rest-out k other out =
      ⊎_elim
      (λ low. sym (ap (λ x. eqb x 1) (bit_at_clear_other w64 left lowest lowest-below k low other)) ∙ out)
      (λ past. no-bit-past left k small past)
      (cases_lt k 64)

  -- where no bit of a word from one on is set, and what is left is of the word, the lowest is below that
  pub lowest-there : (bound word : ℕ) → ((k : ℕ) → bound ≤ k → has_bit word k ≡ false) → ((k : ℕ) → has_bit left k ≡ true → has_bit word k ≡ true) → lowest < bound
  lowest-there bound word within part =
      ⊎_elim (λ below. below) (λ past. absurd (false≢true (sym (within lowest past) ∙ part lowest lowest-set))) (cases_lt lowest bound)

  -- what the word has together with the one that is less by 1 is the same
  abbrev pub fewer : ℕ
  fewer = bit_and left (left - 1)

  pub fewer-same : (k : ℕ) → has_bit fewer k ≡ has_bit rest k
  fewer-same k = ap (λ w. has_bit w k) (same-rest w64 left some small)

  pub fewer-in : (k : ℕ) → has_bit fewer k ≡ true → has_bit left k ≡ true
  fewer-in k inside = rest-in k (sym (fewer-same k) ∙ inside)

  pub fewer-out : (k : ℕ) → (k ≡ lowest → ⊥) → has_bit fewer k ≡ false → has_bit left k ≡ false
  fewer-out k other out = rest-out k other (sym (fewer-same k) ∙ out)
