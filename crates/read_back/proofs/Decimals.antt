-- Numbers as they are written, and what reading says of them.
use Rattle.std.proofs.Common.{◌≡◌, ◌∙◌, refl, ap, ℕ, suc, ℤ, pos, negsuc, neg_ℤ, ◌+◌, ◌^◌, ◌<◌, Bool, true, false, not, if◌then◌else◌, List, [], ◌∷◌, length, drop, Option, Some, None, option_map, nat_lt, decimal, ltb-true, lt-ltb, le-leb, arith}
use Rattle.std.specs.Fmt.{signed_decimal}
use Rattle.std.specs.List.{list_all}
use Rattle.std.proofs.lemmas.Bool.{and_parts, and_from}
use Rattle.std.proofs.lemmas.Fmt.{digits_decimal, digits_value-decimal, decimal_nonempty, length-decimal-le}
use Rattle.plant_words.specs.Numbers.{is_digit, has_digits_alone, is_numeric, decimal_value, decimal_in, below, pick_in, magnitude_in, int_in}
use Rattle.plant_words.specs.Words.{is_blank, is_filled, begins_with}
use Rattle.plant_words.proofs.Decimals.{own}
use Rattle.read_back.specs.Expressions.{is_in_range}
use Rattle.read_back.proofs.Words.{is_one_word}
use Rattle.read_back.proofs.Bytes.{other_byte, none_blank}

-- ---- digits

filled : (word : List ℕ) → 0 < length word → is_filled word ≡ true
filled [] some = absurd (omega (arith, some))
filled (byte ∷ bytes) some = refl

module _ (n : ℕ) (small : n < 2 ^ 64) where
  -- a number is written by digits, and one at least
  pub all_digits : list_all is_digit (decimal n) ≡ true
  all_digits = digits_decimal own n small

  pub some_digit : is_filled (decimal n) ≡ true
  some_digit = filled (decimal n) (decimal_nonempty n small)

  pub digits_alone : has_digits_alone (decimal n) ≡ true
  digits_alone = and_from (is_filled (decimal n)) (list_all is_digit (decimal n)) some_digit all_digits

  -- they are one word
  pub digits_are_one_word : is_one_word (decimal n) ≡ true
  digits_are_one_word =
      and_from (is_filled (decimal n)) (list_all (λ byte. not (is_blank byte)) (decimal n)) some_digit (none_blank is_digit (decimal n) all_digits refl refl)

  -- and write the number
  decimal_read : decimal_in (decimal n) ≡ Some n
  decimal_read =
      ap (λ (alone : Bool). if alone then Some (decimal_value (decimal n)) else None) digits_alone
      ∙ ap (λ (m : ℕ). Some m) (digits_value-decimal own n small)

below_bound : (bound n : ℕ) → n < bound → below bound (Some n) ≡ Some n
below_bound bound n small = ap (λ (b : Bool). if b then Some n else None) (lt-ltb n bound small)

-- a mask is read back
pub pick_read : (n : ℕ) → n < 2 ^ 64 → pick_in (decimal n) ≡ Some n
pick_read n small = ap (below (2 ^ 64)) (decimal_read n small) ∙ below_bound (2 ^ 64) n small

-- a number of at most 19 digits
magnitude_read : (n : ℕ) → n < 2 ^ 63 + 1 → magnitude_in (decimal n) ≡ Some n
magnitude_read n small =
    let within : n < 2 ^ 64 = omega (arith, small) in
    let low : n < 10 ^ 19 = omega (arith, small) in
    let some : 0 < 19 = omega arith in
    ap (λ (short : Bool). if short then decimal_in (decimal n) else None) (le-leb (length (decimal n)) 19 (length-decimal-le 19 n some low within))
    ∙ decimal_read n within

-- ---- signed numbers

-- digits have no sign
no_minus : (word : List ℕ) → list_all is_digit word ≡ true → begins_with 45 word ≡ false
no_minus [] digits = refl
no_minus (byte ∷ bytes) digits = other_byte is_digit byte 45 (and_parts (is_digit byte) (list_all is_digit bytes) digits).0 refl

module _ (n : ℕ) (fits : nat_lt n (2 ^ 63) ≡ true) where
  small : n < 2 ^ 63
  small = ltb-true n (2 ^ 63) fits

  pub within : n < 2 ^ 64
  within = omega (arith, small)

  pub next_within : suc n < 2 ^ 64
  next_within = omega (arith, small)

  at_most : n < 2 ^ 63 + 1
  at_most = omega (arith, small)

  next_at_most : suc n < 2 ^ 63 + 1
  next_at_most = omega (arith, small)

-- a number is read back
pub number_read : (z : ℤ) → is_in_range z ≡ true → int_in (signed_decimal z) ≡ Some z
number_read (pos n) fits =
    let negative : List ℕ → Option ℤ = λ word. option_map (λ m. neg_ℤ (pos m)) (below (2 ^ 63 + 1) (magnitude_in (drop 1 word))) in
    ap (λ (minus : Bool). if minus then negative (decimal n) else option_map pos (below (2 ^ 63) (magnitude_in (decimal n)))) (no_minus (decimal n) (all_digits n (within n fits)))
    ∙ ap (λ (read : Option ℕ). option_map pos (below (2 ^ 63) read)) (magnitude_read n (at_most n fits))
    ∙ ap (option_map pos) (below_bound (2 ^ 63) n (small n fits))
number_read (negsuc n) fits =
    ap (λ (read : Option ℕ). option_map (λ m. neg_ℤ (pos m)) (below (2 ^ 63 + 1) read)) (magnitude_read (suc n) (next_at_most n fits))
    ∙ ap (option_map (λ m. neg_ℤ (pos m))) (below_bound (2 ^ 63 + 1) (suc n) (next_at_most n fits))

-- it is written as numbers are
pub number_is_numeric : (z : ℤ) → is_in_range z ≡ true → is_numeric (signed_decimal z) ≡ true
number_is_numeric (pos n) fits =
    ap (λ (minus : Bool). has_digits_alone (if minus then drop 1 (decimal n) else decimal n)) (no_minus (decimal n) (all_digits n (within n fits)))
    ∙ digits_alone n (within n fits)
number_is_numeric (negsuc n) fits = digits_alone (suc n) (next_within n fits)

-- and is one word
pub number_is_one_word : (z : ℤ) → is_in_range z ≡ true → is_one_word (signed_decimal z) ≡ true
number_is_one_word (pos n) fits = digits_are_one_word n (within n fits)
number_is_one_word (negsuc n) fits = none_blank is_digit (decimal (suc n)) (all_digits (suc n) (next_within n fits)) refl refl
