-- The bytes of names and of numbers are letters, digits and `_`: none of them stands between words or between the parts of a word.
use Rattle.std.proofs.Common.{◌≡◌, ℕ, ◌+◌, ◌<◌, ◌≤◌, ◌==◌, ◌^◌, Bool, true, false, not, cond, ◌&&◌, ◌||◌, refl, sym, ◌∙◌, ap, List, [], ◌∷◌, ◌++◌, length, take, drop, All, arith}
use Rattle.std.specs.Prelude.{Some, None, decimal, nat_le}
use Rattle.std.specs.List.{after_first, before_first, list_all, position_or_len}
use Rattle.std.proofs.lemmas.Bool.{and_from, and_parts, false≢true, leb-true, lt-ltb, ne_eqb, not-true, not_from_false, or_from, or_left, or_right}
use Rattle.std.proofs.lemmas.Fmt.{decimal_nonempty, digits_decimal, digits_value-decimal}
use Rattle.std.proofs.lemmas.List.{drop-drop, drop_at, take_at}
use Rattle.std.proofs.lemmas.List.Elements.{All-weaker}
use Rattle.std.proofs.lemmas.List.Sums.{AllPass-from_list_all}
use Rattle.petri_atom.specs.Name.{begins_with_letter, has_word_bytes, is_letter, is_letter_or_digit, is_name, is_reserved, is_word}
use Rattle.petri_atom.specs.declared.name.TheConstants.{MAX_NAME}
use Rattle.plant_words.specs.Numbers.{below, decimal_value, has_digits_alone, is_digit, pick_in}
use Rattle.plant_words.specs.Words.{begins_with, is_blank, is_filled}
use Rattle.plant_words.proofs.Decimals.{own}

-- no byte passes a test
abbrev pub none_is : (ℕ → Bool) → List ℕ → Bool
none_is p bytes = list_all (λ b. not (p b)) bytes

-- the same by place
pub none-at : (p : ℕ → Bool) (bytes : List ℕ) → none_is p bytes ≡ true → All (λ b. p b ≡ false) bytes
none-at p bytes none = All-weaker (λ b. not (p b) ≡ true) (λ b. p b ≡ false) (λ b fails. not-true (p b) fails) bytes (AllPass-from_list_all (λ b. not (p b)) bytes none)

-- where what passes one test passes another, so does each of some bytes
all-weaker : (f g : ℕ → Bool) → ((b : ℕ) → f b ≡ true → g b ≡ true) → (bytes : List ℕ) → list_all f bytes ≡ true → list_all g bytes ≡ true
all-weaker f g weaker [] all = refl
all-weaker f g weaker (b ∷ bs) all =
    let parts = and_parts (f b) (list_all f bs) all in
    and_from (g b) (list_all g bs) (weaker b parts.0) (all-weaker f g weaker bs parts.1)

-- a byte that passes a test is none that fails it
other : (f : ℕ → Bool) (b k : ℕ) → f b ≡ true → f k ≡ false → (b == k) ≡ false
other f b k passes fails = ne_eqb b k (λ is. false≢true (sym fails ∙ ap f (sym is) ∙ passes))

-- a test that no letter, no digit and no `_` passes
pub record Spares (p : ℕ → Bool) : Type 0 where
  pub spared : (b : ℕ) → is_letter_or_digit b ≡ true → p b ≡ false

-- so is one of a single other byte, and that of blanks
pub spares-byte : (k : ℕ) → is_letter_or_digit k ≡ false → Spares (λ b. b == k)
spares-byte k sign = record { spared = λ b word. other is_letter_or_digit b k word sign }

pub spares-blanks : Spares is_blank
spares-blanks = record { spared = λ b word. or_from (b == 32) (b == 9) (other is_letter_or_digit b 32 word refl) (other is_letter_or_digit b 9 word refl) }

module _ (p : ℕ → Bool) (spares : Spares p) (bytes : List ℕ) (all : list_all is_letter_or_digit bytes ≡ true) where
  none-passes : none_is p bytes ≡ true
  none-passes = all-weaker is_letter_or_digit (λ b. not (p b)) (λ b word. not_from_false (p b) (spares.spared b word)) bytes all

-- ---- names

module _ (name : List ℕ) (is : is_name name ≡ true) where
  short-word : (nat_le (length name) MAX_NAME && is_word name) ≡ true
  short-word = (and_parts (nat_le (length name) MAX_NAME && is_word name) (not (is_reserved name)) is).0

  a-word : (begins_with_letter name && has_word_bytes name) ≡ true
  a-word = (and_parts (nat_le (length name) MAX_NAME) (is_word name) short-word).1

  pub name-short : length name ≤ MAX_NAME
  name-short = leb-true (length name) MAX_NAME (and_parts (nat_le (length name) MAX_NAME) (is_word name) short-word).0

  first-letter : begins_with_letter name ≡ true
  first-letter = (and_parts (begins_with_letter name) (has_word_bytes name) a-word).0

  -- none of its bytes passes such a test
  pub name-none : (p : ℕ → Bool) → Spares p → none_is p name ≡ true
  name-none p spares = none-passes p spares name (and_parts (begins_with_letter name) (has_word_bytes name) a-word).1

-- it has a byte, and does not begin a comment
pub name-filled : (name : List ℕ) → is_name name ≡ true → is_filled name ≡ true
name-filled [] is = absurd (false≢true (first-letter [] is))
name-filled (b ∷ bs) is = refl

pub name-no-comment : (name : List ℕ) → is_name name ≡ true → begins_with 35 name ≡ false
name-no-comment [] is = refl
name-no-comment (b ∷ bs) is = other is_letter b 35 (first-letter (b ∷ bs) is) refl

-- ---- numbers

some-filled : (bs : List ℕ) → 0 < length bs → is_filled bs ≡ true
some-filled [] some = absurd (omega (arith, some))
some-filled (b ∷ bs) some = refl

module _ (n : ℕ) (small : n < 2 ^ 64) where
  all-digits : list_all is_digit (decimal n) ≡ true
  all-digits = digits_decimal own n small

  -- none of its digits passes such a test
  pub decimal-none : (p : ℕ → Bool) → Spares p → none_is p (decimal n) ≡ true
  decimal-none p spares =
      none-passes p spares (decimal n)
      (all-weaker is_digit is_letter_or_digit (λ b digit. or_left (is_letter b || is_digit b) (b == 95) (or_right (is_letter b) (is_digit b) digit)) (decimal n) all-digits)

  -- what a number writes is read as the number
  pub decimal-read : pick_in (decimal n) ≡ Some n
  decimal-read =
      let alone : has_digits_alone (decimal n) ≡ true = and_from (is_filled (decimal n)) (list_all is_digit (decimal n)) (some-filled (decimal n) (decimal_nonempty n small)) all-digits in
      ap (λ b. below (2 ^ 64) (cond b (Some (decimal_value (decimal n))) None)) alone
      ∙ ap (λ v. below (2 ^ 64) (Some v)) (digits_value-decimal own n small)
      ∙ ap (λ b. cond b (Some n) None) (lt-ltb n (2 ^ 64) small)

-- ---- where a byte stands that is the first of its kind

pub place-of-first : (p : ℕ → Bool) (u v : List ℕ) (y : ℕ) → none_is p u ≡ true → p y ≡ true → position_or_len p (u ++ y ∷ v) ≡ length u
place-of-first p [] v y none passes = ap (λ b. cond (not b) (1 + position_or_len p v) 0) passes
place-of-first p (b ∷ u) v y none passes =
    let parts = and_parts (not (p b)) (none_is p u) none in
    let rest = place-of-first p u v y parts.1 passes in
    ap (λ t. cond t (1 + position_or_len p (u ++ y ∷ v)) 0) parts.0 ∙ omega (arith, rest)

module _ (p : ℕ → Bool) (u v : List ℕ) (y : ℕ) (none : none_is p u ≡ true) (passes : p y ≡ true) where
  pub before-it : before_first p (u ++ y ∷ v) ≡ u
  before-it = ap (λ n. take n (u ++ y ∷ v)) (place-of-first p u v y none passes) ∙ take_at u (y ∷ v) (length u) refl

  pub after-it : after_first p (u ++ y ∷ v) ≡ v
  after-it =
      ap (λ n. drop (n + 1) (u ++ y ∷ v)) (place-of-first p u v y none passes)
      ∙ sym (drop-drop 1 (length u) (u ++ y ∷ v)) ∙ ap (drop 1) (drop_at u (y ∷ v) (length u) refl)
