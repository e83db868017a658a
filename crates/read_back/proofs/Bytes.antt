-- What bytes are that pass a test, and what words of such bytes are not.
use Rattle.std.proofs.Common.{◌≡◌, ◌∙◌, refl, sym, ap, ⊎_elim, ℕ, Bool, true, false, not, ◌&&◌, ◌||◌, List, [], ◌∷◌, ◌++◌, nat_le, ◌==◌, ne_eqb, eqb-true, leb-true, le-leb, ◌≤◌, arith}
use Rattle.std.specs.List.{list_all}
use Rattle.std.proofs.lemmas.Bool.{and_parts, and_from, and_left, or_cases, or_from, or_left, not-true, not_from_false, false_from_ne_true, false≢true}
use Rattle.std.proofs.lemmas.Slice.Eq.{bytes_eq-Decides}
use Rattle.petri_atom.specs.Name.{is_letter, is_letter_or_digit, is_reserved, is_same_text, begins_with_letter, has_word_bytes, is_name}
use Rattle.petri_atom.proofs.Fitting.{all_weaker}
use Rattle.plant_words.specs.Lines.{is_legal_byte, is_legal_line}
use Rattle.plant_words.specs.Numbers.{is_digit}
use Rattle.plant_words.specs.Words.{is_blank, is_filled}
use Rattle.read_back.proofs.Words.{is_one_word}

-- ---- bytes

-- a byte that passes a test is none that fails it
pub other_byte : (test : ℕ → Bool) (byte other : ℕ) → test byte ≡ true → test other ≡ false → (byte == other) ≡ false
other_byte test byte other passes fails = ne_eqb byte other (λ same. false≢true (sym fails ∙ ap test (sym same) ∙ passes))

-- so no byte of a list is, where all pass
pub none_is : (test : ℕ → Bool) (other : ℕ) (bytes : List ℕ) → list_all test bytes ≡ true → test other ≡ false → list_all (λ b. not (b == other)) bytes ≡ true
none_is test other bytes all fails =
    all_weaker test (λ b. not (b == other)) (λ b passes. not_from_false (b == other) (other_byte test b other passes fails)) bytes all

-- and where spaces and tabs fail, none is a blank
pub none_blank : (test : ℕ → Bool) (bytes : List ℕ) → list_all test bytes ≡ true → test 32 ≡ false → test 9 ≡ false → list_all (λ b. not (is_blank b)) bytes ≡ true
none_blank test bytes all space tab =
    all_weaker test (λ b. not (is_blank b))
    (λ b passes. not_from_false (is_blank b) (or_from (b == 32) (b == 9) (other_byte test b 32 passes space) (other_byte test b 9 passes tab))) bytes all

-- a letter is no digit
pub letter_is_no_digit : (byte : ℕ) → is_letter byte ≡ true → is_digit byte ≡ false
letter_is_no_digit byte letter =
    false_from_ne_true (is_digit byte) (λ digit.
    let last = leb-true byte 57 (and_parts (nat_le 48 byte) (nat_le byte 57) digit).1 in
    ⊎_elim
    (λ upper. let from = leb-true 65 byte (and_parts (nat_le 65 byte) (nat_le byte 90) upper).0 in absurd (omega (arith, last, from)))
    (λ lower. let from = leb-true 97 byte (and_parts (nat_le 97 byte) (nat_le byte 122) lower).0 in absurd (omega (arith, last, from)))
    (or_cases (nat_le 65 byte && nat_le byte 90) (nat_le 97 byte && nat_le byte 122) letter))

-- ---- bytes that may stand in a text

printed_is_legal : (byte : ℕ) → 32 ≤ byte → byte ≤ 126 → is_legal_byte byte ≡ true
printed_is_legal byte from to = or_left (nat_le 32 byte && nat_le byte 126) (byte == 9) (and_from (nat_le 32 byte) (nat_le byte 126) (le-leb 32 byte from) (le-leb byte 126 to))

-- what lies between two printed bytes
between_is_legal : (low high byte : ℕ) → 32 ≤ low → high ≤ 126 → (nat_le low byte && nat_le byte high) ≡ true → is_legal_byte byte ≡ true
between_is_legal low high byte above below inside =
    let parts = and_parts (nat_le low byte) (nat_le byte high) inside in
    let from = leb-true low byte parts.0 in
    let to = leb-true byte high parts.1 in
    printed_is_legal byte (omega (arith, above, from)) (omega (arith, below, to))

letter_is_legal : (byte : ℕ) → is_letter byte ≡ true → is_legal_byte byte ≡ true
letter_is_legal byte letter =
    ⊎_elim (between_is_legal 65 90 byte (omega arith) (omega arith)) (between_is_legal 97 122 byte (omega arith) (omega arith))
    (or_cases (nat_le 65 byte && nat_le byte 90) (nat_le 97 byte && nat_le byte 122) letter)

digit_is_legal : (byte : ℕ) → is_digit byte ≡ true → is_legal_byte byte ≡ true
digit_is_legal byte digit = between_is_legal 48 57 byte (omega arith) (omega arith) digit

-- one byte alone
same_is_legal : (byte other : ℕ) → is_legal_byte other ≡ true → (byte == other) ≡ true → is_legal_byte byte ≡ true
same_is_legal byte other legal same = ap is_legal_byte (eqb-true byte other same) ∙ legal

pub name_byte_is_legal : (byte : ℕ) → is_letter_or_digit byte ≡ true → is_legal_byte byte ≡ true
name_byte_is_legal byte passes =
    ⊎_elim (λ first. ⊎_elim (letter_is_legal byte) (digit_is_legal byte) (or_cases (is_letter byte) (is_digit byte) first)) (same_is_legal byte 95 refl)
    (or_cases (is_letter byte || is_digit byte) (byte == 95) passes)

-- and with one byte more beside such bytes
pub byte_or_is_legal : (other : ℕ) → is_legal_byte other ≡ true → (byte : ℕ) → (is_letter_or_digit byte || byte == other) ≡ true → is_legal_byte byte ≡ true
byte_or_is_legal other legal byte passes =
    ⊎_elim (name_byte_is_legal byte) (same_is_legal byte other legal) (or_cases (is_letter_or_digit byte) (byte == other) passes)

-- so digits may
pub digits_are_legal : (bytes : List ℕ) → list_all is_digit bytes ≡ true → is_legal_line bytes ≡ true
digits_are_legal bytes all = all_weaker is_digit is_legal_byte digit_is_legal bytes all

-- ---- first bytes

-- the first byte passes the test
abbrev pub begins_by : (ℕ → Bool) → List ℕ → Bool
begins_by test [] = false
begins_by test (byte ∷ bytes) = test byte

pub begins_filled : (test : ℕ → Bool) (word : List ℕ) → begins_by test word ≡ true → is_filled word ≡ true
begins_filled test [] begins = absurd (false≢true begins)
begins_filled test (byte ∷ bytes) begins = refl

pub begins_more : (test : ℕ → Bool) (word more : List ℕ) → begins_by test word ≡ true → begins_by test (word ++ more) ≡ true
begins_more test [] more begins = absurd (false≢true begins)
begins_more test (byte ∷ bytes) more begins = begins

-- a word of bytes that pass begins by one
pub begins_by_all : (test : ℕ → Bool) (word : List ℕ) → list_all test word ≡ true → is_filled word ≡ true → begins_by test word ≡ true
begins_by_all test [] all some = absurd (false≢true some)
begins_by_all test (byte ∷ bytes) all some = (and_parts (test byte) (list_all test bytes) all).0

-- a word is none whose first byte fails a test that its own passes
pub other_first : (test : ℕ → Bool) (word : List ℕ) (byte : ℕ) (bytes : List ℕ) → begins_by test word ≡ true → test byte ≡ false → is_same_text word (byte ∷ bytes) ≡ false
other_first test [] byte bytes begins fails = refl
other_first test (first ∷ rest) byte bytes begins fails = and_left (first == byte) (is_same_text rest bytes) (other_byte test first byte begins fails)

-- nor is it one whose bytes all pass a test, where some of its own fails
pub not_all : (test : ℕ → Bool) (word other : List ℕ) → list_all test word ≡ false → list_all test other ≡ true → is_same_text word other ≡ false
not_all test word other fails passes =
    false_from_ne_true (is_same_text word other) (λ same. false≢true (sym fails ∙ ap (list_all test) ((bytes_eq-Decides word other).0 same) ∙ passes))

-- ---- names

-- what a name is made of
pub record IsOfName (text : List ℕ) : Type 0 where
  pub begins : begins_by is_letter text ≡ true
  pub bytes : list_all is_letter_or_digit text ≡ true
  pub free : is_reserved text ≡ false

letter_first : (text : List ℕ) → begins_with_letter text ≡ begins_by is_letter text
letter_first [] = refl
letter_first (byte ∷ bytes) = refl

pub name_parts : (text : List ℕ) → is_name text ≡ true → IsOfName text
name_parts text named =
    let rules = and_parts _ _ named in
    let word = and_parts _ _ rules.0 in
    let bytes = and_parts (begins_with_letter text) (has_word_bytes text) word.1 in
    record {
      begins = sym (letter_first text) ∙ bytes.0;
      bytes = bytes.1;
      free = not-true (is_reserved text) rules.1;
    }

-- a name is one word
pub name_is_one_word : (text : List ℕ) → IsOfName text → is_one_word text ≡ true
name_is_one_word text name =
    and_from (is_filled text) (list_all (λ byte. not (is_blank byte)) text) (begins_filled is_letter text name.begins) (none_blank is_letter_or_digit text name.bytes refl refl)

-- and may stand in a text
pub name_is_legal : (text : List ℕ) → IsOfName text → is_legal_line text ≡ true
name_is_legal text name = all_weaker is_letter_or_digit is_legal_byte name_byte_is_legal text name.bytes
