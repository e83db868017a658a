-- What each word of an expression says that is written: an operator, a number or a variable.
use Rattle.std.proofs.Common.{◌≡◌, ◌∙◌, refl, ap, true≢false, ℕ, ℤ, pos, negsuc, suc, Bool, true, false, if◌then◌else◌, List, [], ◌∷◌, drop, codes, Option, Some, None, Err, decimal, ◌<◌, ◌^◌}
use Rattle.std.specs.Fmt.{signed_decimal}
use Rattle.std.specs.List.{list_all}
use Rattle.std.specs.Option.{option_map_or}
use Rattle.std.proofs.lemmas.Bool.{and_left, false≢true}
use Rattle.petri_atom.specs.Name.{is_letter, is_same_text}
use Rattle.petri_atom.specs.declared.expression.Operator.{Operator}
use Rattle.petri_atom.specs.declared.expression.Operator.TheVariants.{Add, Subtract, Multiply, Min, Max, Less, LessOrEqual, Equal, NotEqual, And, Or}
use Rattle.plant_words.specs.declared.expression_fault.ExpressionFault.TheVariants.{NotAscii}
use Rattle.plant_words.specs.ExpressionWords.{operator_in, could_be_variable, number_in, variable_found, legal_word_in, word_in}
use Rattle.plant_words.specs.Lines.{is_legal_line}
use Rattle.plant_words.specs.Numbers.{is_digit, has_digits_alone, is_numeric, int_in}
use Rattle.plant_words.specs.Words.{is_filled}
use Rattle.part_text.specs.Expression.{operator_word}
use Rattle.read_back.specs.Expressions.{is_in_range}
use Rattle.read_back.proofs.Words.{is_one_word}
use Rattle.read_back.proofs.Bytes.{other_byte, letter_is_no_digit, begins_by, begins_by_all, other_first, digits_are_legal}
use Rattle.read_back.proofs.Decimals.{all_digits, some_digit, within, next_within, number_read, number_is_numeric}

-- ---- operators

pub operator_is_one_word : (o : Operator) → is_one_word (operator_word o) ≡ true
operator_is_one_word Add = refl
operator_is_one_word Subtract = refl
operator_is_one_word Multiply = refl
operator_is_one_word Min = refl
operator_is_one_word Max = refl
operator_is_one_word Less = refl
operator_is_one_word LessOrEqual = refl
operator_is_one_word Equal = refl
operator_is_one_word NotEqual = refl
operator_is_one_word And = refl
operator_is_one_word Or = refl

-- ---- words that are no operator

-- a test that fails leads on
pub passed_by : {X : Type 0} (test : Bool) (x : X) (rest : Option X) → test ≡ false → rest ≡ None → (if test then Some x else rest) ≡ None
passed_by true x rest fails none = absurd (true≢false fails)
passed_by false x rest fails none = none

-- a word that is the word of no operator
abbrev IsOther : List ℕ → Type 0
IsOther word = (o : Operator) → is_same_text word (operator_word o) ≡ false

no_operator : (word : List ℕ) → IsOther word → operator_in word ≡ None
no_operator word other =
    passed_by (is_same_text word (codes "+")) Add _ (other Add)
    (passed_by (is_same_text word (codes "-")) Subtract _ (other Subtract)
    (passed_by (is_same_text word (codes "*")) Multiply _ (other Multiply)
    (passed_by (is_same_text word (codes "min")) Min _ (other Min)
    (passed_by (is_same_text word (codes "max")) Max _ (other Max)
    (passed_by (is_same_text word (codes "<")) Less _ (other Less)
    (passed_by (is_same_text word (codes "<=")) LessOrEqual _ (other LessOrEqual)
    (passed_by (is_same_text word (codes "==")) Equal _ (other Equal)
    (passed_by (is_same_text word (codes "!=")) NotEqual _ (other NotEqual)
    (passed_by (is_same_text word (codes "&&")) And _ (other And)
    (passed_by (is_same_text word (codes "||")) Or None (other Or) refl))))))))))

-- a word of legal bytes is read by what it says
legal_says : {V : Type 0} (named : List ℕ → Option V) (word : List ℕ) → is_legal_line word ≡ true → word_in named word ≡ legal_word_in named word
legal_says named word legal = ap (λ (b : Bool). if b then legal_word_in named word else Err NotAscii) legal

-- ---- numbers

-- what a word says that is no operator: a number if it is numeric, and else what other words say
as_operand : {S : Type 0} (negation digits others : S) (operation : Operator → S) (negates : Bool) (operator : Option Operator) (numeric is : Bool) →
    negates ≡ false → operator ≡ None → numeric ≡ is →
    (if negates then negation else option_map_or operation operator (if numeric then digits else others)) ≡ (if is then digits else others)
as_operand negation digits others operation true operator numeric is n o u = absurd (true≢false n)
as_operand negation digits others operation false (Some other) numeric is n o u = absurd (cc)
as_operand negation digits others operation false None numeric is n o u = ap (λ (b : Bool). if b then digits else others) u

-- digits are no operator
digits_other : (word : List ℕ) → begins_by is_digit word ≡ true → IsOther word
digits_other word begins Add = other_first is_digit word 43 [] begins refl
digits_other word begins Subtract = other_first is_digit word 45 [] begins refl
digits_other word begins Multiply = other_first is_digit word 42 [] begins refl
digits_other word begins Min = other_first is_digit word 109 (codes "in") begins refl
digits_other word begins Max = other_first is_digit word 109 (codes "ax") begins refl
digits_other word begins Less = other_first is_digit word 60 [] begins refl
digits_other word begins LessOrEqual = other_first is_digit word 60 (codes "=") begins refl
digits_other word begins Equal = other_first is_digit word 61 (codes "=") begins refl
digits_other word begins NotEqual = other_first is_digit word 33 (codes "=") begins refl
digits_other word begins And = other_first is_digit word 38 (codes "&") begins refl
digits_other word begins Or = other_first is_digit word 124 (codes "|") begins refl

-- nor are digits after a sign
no_end : (bytes : List ℕ) → is_filled bytes ≡ true → is_same_text bytes [] ≡ false
no_end [] some = absurd (false≢true some)
no_end (byte ∷ bytes) some = refl

negative_other : (bytes : List ℕ) → is_filled bytes ≡ true → IsOther (45 ∷ bytes)
negative_other bytes some Add = refl
negative_other bytes some Subtract = no_end bytes some
negative_other bytes some Multiply = refl
negative_other bytes some Min = refl
negative_other bytes some Max = refl
negative_other bytes some Less = refl
negative_other bytes some LessOrEqual = refl
negative_other bytes some Equal = refl
negative_other bytes some NotEqual = refl
negative_other bytes some And = refl
negative_other bytes some Or = refl

first_digit : (n : ℕ) → n < 2 ^ 64 → begins_by is_digit (decimal n) ≡ true
first_digit n small = begins_by_all is_digit (decimal n) (all_digits n small) (some_digit n small)

number_other : (z : ℤ) → is_in_range z ≡ true → IsOther (signed_decimal z)
number_other (pos n) fits = digits_other (decimal n) (first_digit n (within n fits))
number_other (negsuc n) fits = negative_other (decimal (suc n)) (some_digit (suc n) (next_within n fits))

number_negates_none : (z : ℤ) → is_in_range z ≡ true → is_same_text (signed_decimal z) (codes "!") ≡ false
number_negates_none (pos n) fits = other_first is_digit (decimal n) 33 [] (first_digit n (within n fits)) refl
number_negates_none (negsuc n) fits = refl

number_is_legal : (z : ℤ) → is_in_range z ≡ true → is_legal_line (signed_decimal z) ≡ true
number_is_legal (pos n) fits = digits_are_legal (decimal n) (all_digits n (within n fits))
number_is_legal (negsuc n) fits = digits_are_legal (decimal (suc n)) (all_digits (suc n) (next_within n fits))

pub number_reads : {V : Type 0} (named : List ℕ → Option V) (z : ℤ) → is_in_range z ≡ true → word_in named (signed_decimal z) ≡ number_in (Some z)
number_reads named z fits =
    let word : List ℕ = signed_decimal z in
    legal_says named word (number_is_legal z fits)
    ∙ as_operand _ (number_in (int_in word)) (variable_found (could_be_variable word) (named word)) _ (is_same_text word (codes "!")) (operator_in word) (is_numeric word) true (number_negates_none z fits) (no_operator word (number_other z fits)) (number_is_numeric z fits)
    ∙ ap number_in (number_read z fits)

-- ---- variables

-- a word that can only be a variable's: it begins with a letter, is no operator, and may stand in a text
pub record IsPlain (word : List ℕ) : Type 0 where
  pub begins : begins_by is_letter word ≡ true
  pub least : is_same_text word (codes "min") ≡ false
  pub most : is_same_text word (codes "max") ≡ false
  pub legal : is_legal_line word ≡ true

plain_other : (word : List ℕ) → IsPlain word → IsOther word
plain_other word plain Add = other_first is_letter word 43 [] plain.begins refl
plain_other word plain Subtract = other_first is_letter word 45 [] plain.begins refl
plain_other word plain Multiply = other_first is_letter word 42 [] plain.begins refl
plain_other word plain Min = plain.least
plain_other word plain Max = plain.most
plain_other word plain Less = other_first is_letter word 60 [] plain.begins refl
plain_other word plain LessOrEqual = other_first is_letter word 60 (codes "=") plain.begins refl
plain_other word plain Equal = other_first is_letter word 61 (codes "=") plain.begins refl
plain_other word plain NotEqual = other_first is_letter word 33 (codes "=") plain.begins refl
plain_other word plain And = other_first is_letter word 38 (codes "&") plain.begins refl
plain_other word plain Or = other_first is_letter word 124 (codes "|") plain.begins refl

no_number : (word : List ℕ) → begins_by is_letter word ≡ true → is_numeric word ≡ false
no_number [] begins = absurd (false≢true begins)
no_number (byte ∷ bytes) begins =
    ap (λ (minus : Bool). has_digits_alone (if minus then drop 1 (byte ∷ bytes) else byte ∷ bytes)) (other_byte is_letter byte 45 begins refl)
    ∙ and_left (is_digit byte) (list_all is_digit bytes) (letter_is_no_digit byte begins)

pub variable_reads : {V : Type 0} (named : List ℕ → Option V) (word : List ℕ) (v : V) → IsPlain word → named word ≡ Some v → word_in named word ≡ variable_found true (Some v)
variable_reads named word v plain found =
    legal_says named word plain.legal
    ∙ as_operand _ (number_in (int_in word)) (variable_found (could_be_variable word) (named word)) _ (is_same_text word (codes "!")) (operator_in word) (is_numeric word) false
    (other_first is_letter word 33 [] plain.begins refl) (no_operator word (plain_other word plain)) (no_number word plain.begins)
    ∙ ap (variable_found (could_be_variable word)) found
