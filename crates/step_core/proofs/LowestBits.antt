-- The bits of a word one after the other, from the lowest on: what is left of them.
use Rattle.std.proofs.Common.{◌≡◌, ℕ, ◌+◌, ◌*◌, ◌-◌, ◌%◌, ◌^◌, ◌<◌, ◌≤◌, sym, ◌∙◌, ap, subst, arith, Bool, true, false, eqb, ⊎_elim, w64}
use Rattle.std.specs.Prelude.{bit_and}
use Rattle.std.specs.Int.{bit_not, trailing_zeros}
use Rattle.std.proofs.lemmas.Bool.{cases_eq, cases_lt, false≢true}
use Rattle.std.proofs.lemmas.Nat.Bits.{bit_at-zero, bit_at_clear_same, bit_at_clear_other, bit_at-trailing_zeros}
use Rattle.priority_filter.specs.Members.{has_bit}
use Rattle.plant_model.proofs.WithoutLowest.{same-rest}

-- what is left are the bits from a number on for which a test is passed
abbrev pub IsRest : (ℕ → Bool) → ℕ → ℕ → Type 0
IsRest test left k = ((j : ℕ) → k ≤ j → j < 64 → has_bit left j ≡ test j) × ((j : ℕ) → j < k → has_bit left j ≡ false)

module _ (test : ℕ → Bool) (left k : ℕ) (some : 0 < left) (small : left < 2 ^ 64) (is_rest : IsRest test left k) where
  abbrev lowest : ℕ
  lowest = trailing_zeros w64 left

  abbrev rest : ℕ
  rest = bit_and left (bit_not w64 (1 * 2 ^ lowest % 2 ^ 64))

  pub bit-below : lowest < 64
  bit-below = (bit_at-trailing_zeros w64 left some small).0

  bit-there : has_bit left lowest ≡ true
  bit-there = ap (λ x. eqb x 1) (bit_at-trailing_zeros w64 left some small).1

  none-lower : (j : ℕ) → j < lowest → has_bit left j ≡ false
  none-lower j lower = ap (λ x. eqb x 1) ((bit_at-trailing_zeros w64 left some small).2 j lower)

  -- the lowest bit passes the test, and none from the number on that is before it does
  pub bit-from : k ≤ lowest
  bit-from = ⊎_elim (λ lower. absurd (false≢true (sym (is_rest.1 lowest lower) ∙ bit-there))) (λ from. from) (cases_lt lowest k)

  pub bit-passes : test lowest ≡ true
  bit-passes = sym (is_rest.0 lowest bit-from bit-below) ∙ bit-there

  pub none-between : (j : ℕ) → k ≤ j → j < lowest → test j ≡ false
  none-between j from lower = sym (is_rest.0 j from (omega (arith, lower, bit-below))) ∙ none-lower j lower

  -- without it, what is left are the bits behind it
  pub rest-next : IsRest test rest (lowest + 1)
  rest-next = (
    λ j from low. ap (λ x. eqb x 1) (bit_at_clear_other w64 left lowest bit-below j low (λ same. absurd (omega (arith, from, same)))) ∙ is_rest.0 j (omega (arith, from, bit-from)) low,
    λ j lower. ⊎_elim
        (λ same. ap (has_bit rest) same ∙ ap (λ x. eqb x 1) (bit_at_clear_same w64 left lowest bit-below))
        (λ other. ap (λ x. eqb x 1) (bit_at_clear_other w64 left lowest bit-below j (omega (arith, lower, bit-below)) other) ∙ none-lower j (omega (arith, lower, other)))
        (cases_eq j lowest),
  )

  -- what it has together with the word that is less by 1 is the same
  pub fewer-next : IsRest test (bit_and left (left - 1)) (lowest + 1)
  fewer-next = subst (λ w. IsRest test w (lowest + 1)) (sym (same-rest w64 left some small)) rest-next

-- where nothing is left, none from the number on passes
pub none-left : (test : ℕ → Bool) (left k : ℕ) → IsRest test left k → left ≡ 0 → (j : ℕ) → k ≤ j → j < 64 → test j ≡ false
none-left test left k is_rest none j from low = sym (is_rest.0 j from low) ∙ ap (λ w. has_bit w j) none ∙ ap (λ x. eqb x 1) (bit_at-zero j)
