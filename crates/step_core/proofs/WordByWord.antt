-- What is made right 64 numbers at a time, and in these one after the other from the lowest bit of a word on, with some that are
-- known at once.
use Rattle.std.proofs.Common.{◌≡◌, ◌≢◌, ℕ, ◌+◌, ◌*◌, ◌/◌, ◌%◌, ◌^◌, ◌<◌, refl, sym, ◌∙◌, ap, subst, arith, not, Bool, true, false, ◌&&◌, ◌==◌, eqb, ⊎_elim, w64}
use Rattle.std.specs.Prelude.{bit_and}
use Rattle.std.specs.Int.{bit_not, trailing_zeros}
use Rattle.std.proofs.lemmas.Bool.{cases_eq, cases_Bool, false≢true, eq-eqb, eqb-true, ne_eqb, and_parts, and_from}
use Rattle.std.proofs.lemmas.Nat.{and_le_l}
use Rattle.std.proofs.lemmas.Nat.Bits.{bit_at-zero, bit_at_clear_same, bit_at_clear_other, bit_at-trailing_zeros}
use Rattle.priority_filter.specs.Members.{has_bit}
use Rattle.priority_filter.proofs.Words.{bit-and, bit-not, rest-less}
use Rattle.plant_model.proofs.Noting.{IsRightTo, IsRightBut}
use Rattle.step_core.specs.Words.{in_word, IsRightIn}

module _ (place left : ℕ) (some : 0 < left) (small : left < 2 ^ 64) where
  abbrev lowest : ℕ
  lowest = trailing_zeros w64 left

  abbrev rest : ℕ
  rest = bit_and left (bit_not w64 (1 * 2 ^ lowest % 2 ^ 64))

  abbrev number : ℕ
  number = 64 * place + lowest

  below : lowest < 64
  below = (bit_at-trailing_zeros w64 left some small).0

  its-place : number / 64 ≡ place
  its-place = omega (arith, below)

  its-bit : number % 64 ≡ lowest
  its-bit = omega (arith, below)

  pub lowest-inside : in_word place left number ≡ true
  lowest-inside =
      ap (λ b. b && has_bit left (number % 64)) (eq-eqb (number / 64) place its-place) ∙ ap (has_bit left) its-bit ∙
      ap (λ x. eqb x 1) (bit_at-trailing_zeros w64 left some small).1

  lowest-outside : in_word place rest number ≡ false
  lowest-outside =
      ap (λ b. b && has_bit rest (number % 64)) (eq-eqb (number / 64) place its-place) ∙ ap (has_bit rest) its-bit ∙
      ap (λ x. eqb x 1) (bit_at_clear_same w64 left lowest below)

  pub others-inside : (n : ℕ) → n ≢ number → in_word place rest n ≡ in_word place left n
  others-inside n other =
      ⊎_elim
      (λ here. ap (λ x. n / 64 == place && eqb x 1) (bit_at_clear_other w64 left lowest below (n % 64) (omega arith) (λ same. other (omega (arith, here, same)))))
      (λ apart. ap (λ b. b && has_bit rest (n % 64)) (ne_eqb (n / 64) place apart) ∙ sym (ap (λ b. b && has_bit left (n % 64)) (ne_eqb (n / 64) place apart)))
      (cases_eq (n / 64) place)

  pub rest-inside : (n : ℕ) → in_word place rest n ≡ true → in_word place left n ≡ true
  rest-inside n inside =
      ⊎_elim (λ same. absurd (false≢true (sym (ap (in_word place rest) same ∙ lowest-outside) ∙ inside)))
      (λ other. sym (others-inside n other) ∙ inside) (cases_eq n number)

  -- some more bits are taken out
  module _ (ruled : ℕ) (fits : ruled < 2 ^ 64) where
    abbrev fewer : ℕ
    fewer = bit_and rest (bit_not w64 ruled)

    fewer-bit : (k : ℕ) → k < 64 → has_bit fewer k ≡ (has_bit rest k && not (has_bit ruled k))
    fewer-bit k low = bit-and rest (bit_not w64 ruled) k ∙ ap (λ b. has_bit rest k && b) (bit-not ruled k fits low)

    pub fewer-less : fewer < left
    fewer-less = omega (arith, and_le_l rest (bit_not w64 ruled), rest-less left some small)

    pub fewer-inside : (n : ℕ) → in_word place fewer n ≡ true → in_word place rest n ≡ true
    fewer-inside n inside =
        let parts = and_parts (n / 64 == place) (has_bit fewer (n % 64)) inside in
        and_from (n / 64 == place) (has_bit rest (n % 64)) parts.0
        (and_parts (has_bit rest (n % 64)) (not (has_bit ruled (n % 64))) (sym (fewer-bit (n % 64) (omega arith)) ∙ parts.1)).0

    -- what was left and is not any more was looked at, or taken out
    taken : (n : ℕ) → n ≢ number → in_word place left n ≡ true → in_word place fewer n ≡ false → has_bit ruled (n % 64) ≡ true
    taken n other inside outside =
        let parts = and_parts (n / 64 == place) (has_bit rest (n % 64)) (others-inside n other ∙ inside) in
        ⊎_elim (λ yes_. yes_)
        (λ no. absurd (false≢true (sym outside ∙
        and_from (n / 64 == place) (has_bit fewer (n % 64)) parts.0 (fewer-bit (n % 64) (omega arith) ∙ and_from (has_bit rest (n % 64)) (not (has_bit ruled (n % 64))) parts.1 (ap not no)))))
        (cases_Bool (has_bit ruled (n % 64)))

    number-outside : in_word place fewer number ≡ false
    number-outside = ⊎_elim
        (λ inside. absurd (false≢true (sym lowest-outside ∙ fewer-inside number inside)))
        (λ outside. outside)
        (cases_Bool (in_word place fewer number))

    -- those that are taken out are not possible
    module _ (is : ℕ → Bool) (never : (k : ℕ) → k < 64 → has_bit ruled k ≡ true → is (64 * place + k) ≡ false) where
      taken-never : (n : ℕ) → n ≢ number → in_word place left n ≡ true → in_word place fewer n ≡ false → is n ≡ false
      taken-never n other inside outside =
          let here = eqb-true (n / 64) place (and_parts (n / 64 == place) (has_bit left (n % 64)) inside).0 in
          ap is (omega (arith, here)) ∙ never (n % 64) (omega arith) (taken n other inside outside)

      -- what is in the set once one more is judged
      pub judged-next : (word : ℕ) (old new : ℕ → Bool) → new number ≡ is number → ((n : ℕ) → n ≢ number → new n ≡ old n) →
          ((n : ℕ) → in_word place word n ≡ true → old n ≡ (not (in_word place left n) && is n)) → (n : ℕ) → in_word place word n ≡ true → new n ≡ (not (in_word place fewer n) && is n)
      judged-next word old new here others before n inside =
          ⊎_elim
          (λ same. ap new same ∙ here ∙ sym (ap (λ k. not (in_word place fewer k) && is k) same ∙ ap (λ b. not b && is number) number-outside))
          (λ other. others n other ∙ before n inside ∙ kept n other) (cases_eq n number)
        where
          kept : (n : ℕ) → n ≢ number → (not (in_word place left n) && is n) ≡ (not (in_word place fewer n) && is n)
          kept n other = ⊎_elim
              (λ still. ap (λ b. not b && is n) (sym (others-inside n other) ∙ fewer-inside n still) ∙ sym (ap (λ b. not b && is n) still))
              (λ out. ⊎_elim
              (λ was. ap (λ b. not b && is n) was ∙ sym (ap (λ b. not b && is n) out ∙ taken-never n other was out))
              (λ was. ap (λ b. not b && is n) was ∙ sym (ap (λ b. not b && is n) out))
              (cases_Bool (in_word place left n)))
              (cases_Bool (in_word place fewer n))

      -- and what is right of those that are not left
      pub right-next : {X : Type 0} (Right : ℕ → X → Type 0) (word : ℕ) (old new : ℕ → X) → Right number (new number) → ((n : ℕ) → n ≢ number → new n ≡ old n) → ((n : ℕ) (x : X) → is n ≡ false → Right n x) →
          ((n : ℕ) → in_word place word n ≡ true → in_word place left n ≡ false → Right n (old n)) → (n : ℕ) → in_word place word n ≡ true → in_word place fewer n ≡ false → Right n (new n)
      right-next Right word old new here others free before n inside outside =
          ⊎_elim
          (λ same. subst (λ k. Right k (new k)) (sym same) here)
          (λ other. ⊎_elim
          (λ was. free n (new n) (taken-never n other was outside))
          (λ was. subst (Right n) (sym (others n other)) (before n inside was))
          (cases_Bool (in_word place left n)))
          (cases_eq n number)

-- where no bit is left, none is in the word
pub none-inside : (place left n : ℕ) → left ≡ 0 → in_word place left n ≡ false
none-inside place left n none = ap (λ w. n / 64 == place && has_bit w (n % 64)) none ∙ zero-out (n / 64 == place) (n % 64)
  where
    and_false : (b : Bool) → (b && false) ≡ false
    and_false true = refl
    and_false false = refl

    zero-out : (b : Bool) (k : ℕ) → (b && has_bit 0 k) ≡ false
    zero-out b k = ap (λ x. b && eqb x 1) (bit_at-zero k) ∙ and_false b

-- the bits of a word are taken out of a set, word by word
module _ (place word before : ℕ) (fits : word < 2 ^ 64) (old new : ℕ → Bool) (same : (n : ℕ) → n / 64 ≡ place → has_bit before (n % 64) ≡ old n)
    (here : (n : ℕ) → n / 64 ≡ place → new n ≡ has_bit (bit_and before (bit_not w64 word)) (n % 64)) (others : (n : ℕ) → n / 64 ≢ place → new n ≡ old n) where
  left-bit : (n : ℕ) → n / 64 ≡ place → new n ≡ (old n && not (has_bit word (n % 64)))
  left-bit n at = here n at ∙ bit-and before (bit_not w64 word) (n % 64) ∙ ap (λ b. has_bit before (n % 64) && b) (bit-not word (n % 64) fits (omega arith)) ∙ ap (λ b. b && not (has_bit word (n % 64))) (same n at)

  pub taken-out : (n : ℕ) → in_word place word n ≡ true → new n ≡ false
  taken-out n inside =
      let parts = and_parts (n / 64 == place) (has_bit word (n % 64)) inside in
      left-bit n (eqb-true (n / 64) place parts.0) ∙ ap (λ b. old n && not b) parts.1 ∙ and_false (old n)
    where
      and_false : (b : Bool) → (b && false) ≡ false
      and_false true = refl
      and_false false = refl

  pub stays-in : (n : ℕ) → in_word place word n ≡ false → new n ≡ old n
  stays-in n outside = ⊎_elim
      (λ at. left-bit n at ∙ ap (λ b. old n && not b) (sym (ap (λ b. b && has_bit word (n % 64)) (eq-eqb (n / 64) place at)) ∙ outside) ∙ and_true (old n))
      (others n) (cases_eq (n / 64) place)
    where
      and_true : (b : Bool) → (b && true) ≡ b
      and_true true = refl
      and_true false = refl

-- one word more of a set is judged
module _ {X : Type 0} (Right : ℕ → X → Type 0) (touched : ℕ → Bool) (count place word : ℕ) (same : (n : ℕ) → n / 64 ≡ place → has_bit word (n % 64) ≡ touched n) (old new : ℕ → X) (judged : IsRightIn (in_word place word) Right old new) (but : IsRightBut Right touched count old) where
  inside : (n : ℕ) → n / 64 ≡ place → in_word place word n ≡ touched n
  inside n here = ap (λ b. b && has_bit word (n % 64)) (eq-eqb (n / 64) place here) ∙ same n here

  elsewhere : (n : ℕ) → n / 64 ≢ place → in_word place word n ≡ false
  elsewhere n apart = ap (λ b. b && has_bit word (n % 64)) (ne_eqb (n / 64) place apart)

  unjudged : (n : ℕ) → in_word place word n ≡ false → Right n (old n) → Right n (new n)
  unjudged n out right = subst (Right n) (sym (judged.1 n out)) right

  pub word-but : IsRightBut Right touched count new
  word-but n outside = ⊎_elim (judged.0 n) (λ out. unjudged n out (but n outside)) (cases_Bool (in_word place word n))

  pub word-next : IsRightTo Right touched count (64 * place) old → IsRightTo Right touched count (64 * (place + 1)) new
  word-next before n below =
      ⊎_elim
      (λ here. ⊎_elim (judged.0 n)
      (λ out. word-but n (λ _. sym (inside n here) ∙ out))
      (cases_Bool (in_word place word n)))
      (λ apart. unjudged n (elsewhere n apart) (before n (omega (arith, below, apart))))
      (cases_eq (n / 64) place)
