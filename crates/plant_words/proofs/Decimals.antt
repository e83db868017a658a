-- Digits and what they write, as std's `parse` reads them.
use Rattle.std.proofs.Common.{◌≡◌, ℕ, ◌^◌, ◌<◌, ◌≤◌, Bool, true, false, List, [], ◌∷◌, length, Some, None, Result, Ok, Err, MatchResult, refl, sym, ap, ◌∙◌, rules, arith, lit≤, Bor, ◌&&◌, if◌then◌else◌}
use Rattle.std.specs.List.{list_all}
use Rattle.std.specs.Result.{OkIff, result_ok}
use Rattle.std.specs.Str.{IsUtf8}
use Rattle.std.proofs.lemmas.Bool.{lt-ltb, le-ltb, le-leb}
use Rattle.std.proofs.lemmas.Fmt.{IsAscii-from_digits}
use Rattle.std.proofs.lemmas.Str.{IsUtf8-from_ascii}
use Rattle.std.proofs.lemmas.Str.Parse.{IsNumeralModel, numerals_by_weight, digits_value_short}
use Rattle.plant_words.specs.Words.{is_filled}
use Rattle.plant_words.specs.Numbers.{is_digit, decimal_value, decimal_in, pick_in, magnitude_in, below}

-- digits and their value are std's
pub own : IsNumeralModel (λ ds. list_all is_digit ds ≡ true) decimal_value
own = numerals_by_weight _ (search rules) decimal_value (search rules)

-- digits are text
digits-IsUtf8 : (word : List ℕ) → list_all is_digit word ≡ true → IsUtf8 word
digits-IsUtf8 word digits = IsUtf8-from_ascii word (IsAscii-from_digits word (own.to word digits))

-- what the bytes of digits are as text, they are
pub text_of_digits : {T E : Type 0} (word : List ℕ) (P : T → Type 0) (Q : E → Type 0) (r : Result T E) → list_all is_digit word ≡ true →
    MatchResult r P (λ e. (¬ (IsUtf8 word)) × Q e) → result_ok r ≡ None → ⊥
text_of_digits word P Q (Ok x) digits cases none = cc
text_of_digits word P Q (Err e) digits cases none = cases.0 (digits-IsUtf8 word digits)

-- the text that bytes are has these bytes
pub bytes_of_text : {E : Type 0} (word : List ℕ) (P : Type 0) (Q : E → Type 0) (r : Result (Bor (List ℕ)) E) (text : Bor (List ℕ)) →
    MatchResult r (λ s. (s.now ≡ word) × P) Q → result_ok r ≡ Some text → text.now ≡ word
bytes_of_text word P Q (Ok s) text cases is = let same : s ≡ text = cc in sym (ap (λ (t : Bor (List ℕ)). t.now) same) ∙ cases.0
bytes_of_text word P Q (Err e) text cases is = cc

-- a number that is not below the bound
below-not : (bound n : ℕ) → ¬ (n < bound) → below bound (Some n) ≡ None
below-not bound n large = ap (λ (b : Bool). if b then Some n else None) (le-ltb n bound (omega (arith, large)))

below-yes : (bound n : ℕ) → n < bound → below bound (Some n) ≡ Some n
below-yes bound n small = ap (λ (b : Bool). if b then Some n else None) (lt-ltb n bound small)

-- a number of digits, as `parse` reads it
pub parsed : {E : Type 0} (word : List ℕ) (r : Result ℕ E) → list_all is_digit word ≡ true → OkIff r ((0 < length word) × (decimal_value word < 2 ^ 64)) (decimal_value word) → result_ok r ≡ pick_in word
parsed [] (Ok x) digits h = absurd (omega (arith, h.0.0))
parsed [] (Err e) digits h = refl
parsed (byte ∷ bytes) (Ok x) digits h =
    sym (ap (λ (b : Bool). below (2 ^ 64) (if b then Some (decimal_value (byte ∷ bytes)) else None)) digits ∙ below-yes (2 ^ 64) (decimal_value (byte ∷ bytes)) h.0.1 ∙ ap (λ (n : ℕ). Some n) (sym h.1))
parsed (byte ∷ bytes) (Err e) digits h =
    sym (ap (λ (b : Bool). below (2 ^ 64) (if b then Some (decimal_value (byte ∷ bytes)) else None)) digits ∙ below-not (2 ^ 64) (decimal_value (byte ∷ bytes)) (λ small. h (omega arith, small)))

within-bound : (n bound : ℕ) (filled all : Bool) → (all ≡ true → n < bound) → (if filled && all then Some n else None) ≡ below bound (if filled && all then Some n else None)
within-bound n bound false all small = refl
within-bound n bound true false small = refl
within-bound n bound true true small = sym (below-yes bound n (small refl))

-- 1 to 19 digits are within 64 bits
pub magnitude-short : (digits : List ℕ) → length digits ≤ 19 → magnitude_in digits ≡ pick_in digits
magnitude-short digits short =
    let small : list_all is_digit digits ≡ true → decimal_value digits < 2 ^ 64 =
    λ ds. let least = digits_value_short own digits 19 ds short in let room : 10 ^ 19 ≤ 2 ^ 64 = lit≤ tt in omega (arith, least, room) in
    ap (λ (b : Bool). if b then decimal_in digits else None) (le-leb (length digits) 19 short)
    ∙ within-bound (decimal_value digits) (2 ^ 64) (is_filled digits) (list_all is_digit digits) small
