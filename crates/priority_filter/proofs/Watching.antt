-- A row of words to which one bit is added.
use Rattle.std.proofs.Common.{◌≡◌, ℕ, ◌*◌, ◌%◌, ◌^◌, ◌<◌, true, eqb, List, length, get_or, set, sym, ap, ◌∙◌, ⊎_elim, bit_or, w64, get_or-set_same, get_or-set_other}
use Rattle.std.proofs.lemmas.Bool.{cases_eq}
use Rattle.std.proofs.lemmas.Nat.Bits.{bit_at_set_same, bit_at_set_other}
use Rattle.priority_filter.specs.Members.{has_bit}

module _ (row : List ℕ) (i k : ℕ) (within : i < length row) (below : k < 64) where
  abbrev added : ℕ
  added = bit_or (get_or row i 0) (1 * 2 ^ k % 2 ^ 64)

  pub bit-there : (a : ℕ) → a ≡ i → has_bit (get_or (set row i added) a 0) k ≡ true
  bit-there a same =
      ap (λ j. has_bit (get_or (set row i added) j 0) k) same ∙
      ap (λ w. has_bit w k) (get_or-set_same row i added 0 within) ∙
      ap (λ b. eqb b 1) (bit_at_set_same w64 (get_or row i 0) k below)

  pub bits-stay : (a j : ℕ) → has_bit (get_or row a 0) j ≡ true → has_bit (get_or (set row i added) a 0) j ≡ true
  bits-stay a j was =
      ⊎_elim
      (λ here. ⊎_elim
      (λ same. ap (has_bit (get_or (set row i added) a 0)) same ∙ bit-there a here)
      (λ other.
      ap (λ n. has_bit (get_or (set row i added) n 0) j) here ∙
      ap (λ w. has_bit w j) (get_or-set_same row i added 0 within) ∙
      ap (λ b. eqb b 1) (bit_at_set_other w64 (get_or row i 0) k below j other) ∙
      ap (λ n. has_bit (get_or row n 0) j) (sym here) ∙ was)
      (cases_eq j k))
      (λ apart. ap (λ w. has_bit w j) (get_or-set_other row i a added 0 apart) ∙ was)
      (cases_eq a i)
