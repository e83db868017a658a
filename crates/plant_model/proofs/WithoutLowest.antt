-- A word without its lowest bit: what it has together with the word that is one less is what it has without that bit.
use Rattle.std.proofs.Common.{◌≡◌, ℕ, suc, ◌+◌, ◌*◌, ◌-◌, ◌/◌, ◌%◌, ◌^◌, ◌<◌, sym, ◌∙◌, ap, arith, false, eqb, pow-suc, ⊎_elim}
use Rattle.std.specs.Prelude.{bit_and}
use mir.Val.{bits}
use Rattle.std.specs.Int.{Width, bit_not, trailing_zeros}
use Rattle.std.specs.Int.Bits.{and_self}
use Rattle.std.proofs.lemmas.Bool.{cases_eq, cases_lt}
use Rattle.std.proofs.lemmas.Nat.{and_block, and_le_l, and_le_r, and_mask, mod-pow-add, mod_below, mod_low, pow_pos, shr_split}
use Rattle.std.proofs.lemmas.Nat.Bits.{bit_at-trailing_zeros, bit_at-zero, bit_at_cat_high, bit_at_cat_low, bit_at_clear_other, bit_at_clear_same}
use Rattle.petri_atom.proofs.Sets.{same_set}
use Rattle.priority_filter.specs.Members.{has_bit}

module _ (width : Width) (left : ℕ) (some : 0 < left) (small : left < 2 ^ bits width) where
  abbrev t : ℕ
  t = trailing_zeros width left

  abbrev high : ℕ
  high = left / 2 ^ (t + 1)

  abbrev rest : ℕ
  rest = bit_and left (left - 1)

  abbrev other : ℕ
  other = bit_and left (bit_not width (1 * 2 ^ t % 2 ^ bits width))

  low : t < bits width
  low = (bit_at-trailing_zeros width left some small).0

  -- the word ends with its lowest bit and nothing below it
  none-under : left % 2 ^ t ≡ 0
  none-under =
      same_set t (left % 2 ^ t) 0 (mod_below left (2 ^ t) (pow_pos t)) (pow_pos t)
      (λ k under.
      sym (ap (λ x. eqb x 1) (bit_at_cat_low (left / 2 ^ t) t (left % 2 ^ t) k under)) ∙ ap (λ w. has_bit w k) (shr_split left t) ∙
      ap (λ x. eqb x 1) ((bit_at-trailing_zeros width left some small).2 k under) ∙ sym (ap (λ x. eqb x 1) (bit_at-zero k)))

  low-is : left % 2 ^ (t + 1) ≡ 2 ^ t
  low-is =
      let e : t + 1 ≡ 1 + t = omega arith in
      let split = mod-pow-add left 1 t in
      let one = ap (λ b. b * 2 ^ t) (bit_at-trailing_zeros width left some small).1 in
      ap (λ k. left % 2 ^ k) e ∙ omega (arith, split, one, none-under)

  whole : left ≡ high * 2 ^ (t + 1) + 2 ^ t
  whole = omega (arith, shr_split left (t + 1), low-is)

  less : left - 1 ≡ high * 2 ^ (t + 1) + (2 ^ t - 1)
  less = omega (arith, whole, pow_pos t)

  power : 2 ^ t < 2 ^ (t + 1)
  power = let e : t + 1 ≡ suc t = omega arith in omega (arith, ap (λ k. 2 ^ k) e, pow-suc 2 t, pow_pos t)

  -- the word that is one less has the same bits above it, so these are what both have
  rest-is : rest ≡ high * 2 ^ (t + 1) + 0
  rest-is =
      let alone : 2 ^ t ≡ 1 * 2 ^ t + 0 = omega arith in
      let none : bit_and (2 ^ t) (2 ^ t - 1) ≡ 0 = and_mask (2 ^ t) t ∙ ap (λ n. n % 2 ^ t) alone ∙ mod_low 1 t 0 (pow_pos t) in
      ap (λ w. bit_and w (left - 1)) whole ∙ ap (bit_and (high * 2 ^ (t + 1) + 2 ^ t)) less ∙
      and_block (t + 1) high high (2 ^ t) (2 ^ t - 1) power (omega (arith, power)) ∙
      ap (λ n. n * 2 ^ (t + 1) + bit_and (2 ^ t) (2 ^ t - 1)) (and_self high) ∙ ap (λ n. high * 2 ^ (t + 1) + n) none

  rest-above : (j : ℕ) → t < j → has_bit rest j ≡ has_bit left j
  rest-above j above =
      ap (λ w. has_bit w j) rest-is ∙ ap (λ x. eqb x 1) (bit_at_cat_high high (t + 1) 0 j (pow_pos (t + 1)) (omega (arith, above))) ∙
      sym (ap (λ w. has_bit w j) whole ∙ ap (λ x. eqb x 1) (bit_at_cat_high high (t + 1) (2 ^ t) j power (omega (arith, above))))

  rest-below : (j : ℕ) → j < t + 1 → has_bit rest j ≡ false
  rest-below j below =
      ap (λ w. has_bit w j) rest-is ∙ ap (λ x. eqb x 1) (bit_at_cat_low high (t + 1) 0 j below) ∙ ap (λ x. eqb x 1) (bit_at-zero j)

  other-below : (j : ℕ) → j < t + 1 → j < bits width → has_bit other j ≡ false
  other-below j below within =
      ⊎_elim
      (λ same. ap (has_bit other) same ∙ ap (λ x. eqb x 1) (bit_at_clear_same width left t low))
      (λ apart. ap (λ x. eqb x 1) (bit_at_clear_other width left t low j within apart) ∙ ap (λ x. eqb x 1) ((bit_at-trailing_zeros width left some small).2 j (omega (arith, below, apart))))
      (cases_eq j t)

  pub same-rest : bit_and left (left - 1) ≡ bit_and left (bit_not width (1 * 2 ^ trailing_zeros width left % 2 ^ bits width))
  same-rest =
      same_set (bits width) rest other (omega (arith, and_le_l left (left - 1), small)) (omega (arith, and_le_l left (bit_not width (1 * 2 ^ t % 2 ^ bits width)), small))
      (λ j within. ⊎_elim
      (λ below. rest-below j below ∙ sym (other-below j below within))
      (λ above. rest-above j (omega (arith, above)) ∙ sym (ap (λ x. eqb x 1) (bit_at_clear_other width left t low j within (λ same. absurd (omega (arith, same, above))))))
      (cases_lt j (t + 1)))

  -- it is less than the word
  pub fewer-less : bit_and left (left - 1) < left
  fewer-less = omega (arith, some, and_le_r left (left - 1))
