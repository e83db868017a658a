-- The words of the line of a place or of a variable, with another first state.
use Rattle.std.proofs.Common.{◌≡◌, ◌∙◌, refl, sym, ap, subst, ℕ, suc, ℤ, pos, negsuc, Bool, true, false, not, ◌&&◌, if◌then◌else◌, List, [], ◌∷◌, ◌++◌, append_assoc, codes, decimal, Option, Some, None}
use Rattle.std.specs.Fmt.{signed_decimal}
use Rattle.std.specs.List.{list_all}
use Rattle.std.specs.Option.{option_map_or}
use Rattle.std.specs.Ordering.{int_eq}
use Rattle.std.proofs.lemmas.Bool.{and_parts, not-true, false≢true}
use Rattle.std.proofs.lemmas.Bool.Decides.{Decides-int_eq}
use Rattle.plant_words.specs.Lines.{is_legal_line}
use Rattle.plant_words.specs.Numbers.{int_in}
use Rattle.plant_words.specs.Words.{is_blank, is_filled, words_of}
use Rattle.read_back.specs.Expressions.{is_in_range}
use Rattle.read_back.proofs.Words.{is_one_word}
use Rattle.read_back.proofs.Bytes.{digits_are_legal}
use Rattle.read_back.proofs.Decimals.{number_read, number_is_one_word, all_digits, within, next_within}
use Rattle.restated_text.specs.Cuts.{blanks_before, from_word, word_at, behind_word, behind_name, up_to_name}
use Rattle.restated_text.specs.Lines.{says_marked, unmarked_line, marked_line, place_line, says_value, valued_line, variable_line}
use Rattle.restated_text.proofs.Words.{prefix_passes, is_apart, behind_is_apart, line_in_parts, blank_first, words_after_blanks, word_then, first_word, no_word, words_up_to_name}

-- what stands behind the second word
behind_two : (line keyword name : List ℕ) (words : List (List ℕ)) → words_of line ≡ keyword ∷ name ∷ words → words_of (behind_name line) ≡ words
behind_two line keyword name words are =
    let first = first_word line keyword (name ∷ words) are in
    (first_word (behind_word line) name words first.more).more

-- ---- places

-- the words behind the name of a place that is marked, or is not
abbrev pub mark_words : Bool → List (List ℕ)
mark_words true = codes "init" ∷ []
mark_words false = []

-- the line says what its words say
says : (line : List ℕ) (marked : Bool) → words_of (behind_name line) ≡ mark_words marked → says_marked line ≡ marked
says line true are = (first_word (behind_name line) (codes "init") [] are).some
says line false are = no_word (behind_name line) are

-- the words of the line of a place that is marked, or is not
pub place_line_words : (line keyword name : List ℕ) (said marked : Bool) → words_of line ≡ keyword ∷ name ∷ mark_words said →
    words_of (place_line marked line) ≡ keyword ∷ name ∷ mark_words marked
place_line_words line keyword name said marked are =
    let behind = behind_two line keyword name (mark_words said) are in
    ap (λ (b : Bool). words_of (if b then (if marked then line else unmarked_line line) else (if marked then marked_line line else line))) (says line said behind) ∙
    each said marked are behind
  where
    each : (said marked : Bool) → words_of line ≡ keyword ∷ name ∷ mark_words said → words_of (behind_name line) ≡ mark_words said →
        words_of (if said then (if marked then line else unmarked_line line) else (if marked then marked_line line else line)) ≡ keyword ∷ name ∷ mark_words marked
    each true true are behind = are
    each true false are behind =
        words_up_to_name line keyword name (behind_word (behind_name line)) (mark_words true) are (behind_is_apart (behind_name line)) ∙
        ap (λ (words : List (List ℕ)). keyword ∷ name ∷ words) (first_word (behind_name line) (codes "init") [] behind).more
    each false true are behind =
        words_up_to_name line keyword name (codes " init" ++ behind_name line) [] are refl ∙
        ap (λ (words : List (List ℕ)). keyword ∷ name ∷ words)
        (blank_first 32 (codes "init" ++ behind_name line) refl ∙ word_then (codes "init") (behind_name line) refl (behind_is_apart (behind_word line)) ∙
        ap (λ (words : List (List ℕ)). codes "init" ∷ words) behind)
    each false false are behind = are

-- ---- variables

-- a value is written by bytes that may stand in a text
pub value_is_legal : (value : ℤ) → is_in_range value ≡ true → is_legal_line (signed_decimal value) ≡ true
value_is_legal (pos n) fits = digits_are_legal (decimal n) (all_digits n (within n fits))
value_is_legal (negsuc n) fits = digits_are_legal (decimal (suc n)) (all_digits (suc n) (next_within n fits))

-- a word that says a value
pub record SaysValue (value : ℤ) (word : List ℕ) : Type 0 where
  pub legal : is_legal_line word ≡ true
  pub read : int_in word ≡ Some value

-- words of which the third says a value
pub record ValueWords (value : ℤ) (keyword name : List ℕ) (words : List (List ℕ)) : Type 0 where
  pub word : List ℕ
  pub are : words ≡ keyword ∷ name ∷ word ∷ []
  pub says : SaysValue value word

said : (value : ℤ) (read : Option ℤ) → option_map_or (λ number. int_eq number value) read false ≡ true → read ≡ Some value
said value None says = absurd (false≢true says)
said value (Some number) says = ap (λ (z : ℤ). Some z) ((Decides-int_eq number value).0 says)

-- blanks before a word, which does not stand apart by itself
blanks_stay : (blanks word rest other : List ℕ) → is_one_word word ≡ true → is_apart (blanks ++ (word ++ rest)) ≡ true → is_apart (blanks ++ other) ≡ true
blanks_stay (byte ∷ bytes) word rest other one apart = apart
blanks_stay [] [] rest other one apart = absurd (false≢true one)
blanks_stay [] (byte ∷ bytes) rest other one apart =
    let blank = not-true (is_blank byte) (and_parts (not (is_blank byte)) (list_all (λ b. not (is_blank b)) bytes) one).0 in
    absurd (false≢true (sym blank ∙ apart))

-- the words of the line of a variable with the value
pub variable_line_words : (value : ℤ) (line keyword name word : List ℕ) → is_in_range value ≡ true → words_of line ≡ keyword ∷ name ∷ word ∷ [] →
    is_legal_line word ≡ true → ValueWords value keyword name (words_of (variable_line value line))
variable_line_words value line keyword name word fits are legal = by (says_value value (word_at (behind_name line))) refl
  where
    behind : words_of (behind_name line) ≡ word ∷ []
    behind = behind_two line keyword name (word ∷ []) are

    goes : (b : Bool) → says_value value (word_at (behind_name line)) ≡ b → variable_line value line ≡ (if b then line else valued_line value line)
    goes b is = ap (λ (c : Bool). if c then line else valued_line value line) is

    by : (b : Bool) → says_value value (word_at (behind_name line)) ≡ b → ValueWords value keyword name (words_of (variable_line value line))
    by true is = record {
      word = word;
      are = ap words_of (goes true is) ∙ are;
      says = record { legal = legal; read = said value (int_in word) (ap (says_value value) (sym (first_word (behind_name line) word [] behind).is) ∙ is) };
    }
    by false is =
        let third = first_word (behind_name line) word [] behind in
        let blanks = blanks_before (behind_name line) in
        let rest = behind_word (behind_name line) in
        let apart : is_apart (blanks ++ (signed_decimal value ++ rest)) ≡ true =
        blanks_stay blanks (word_at (behind_name line)) rest (signed_decimal value ++ rest) third.one (ap is_apart (line_in_parts (behind_name line)) ∙ behind_is_apart (behind_word line)) in
        record {
          word = signed_decimal value;
          are =
              ap words_of (goes false is) ∙ words_up_to_name line keyword name (blanks ++ (signed_decimal value ++ rest)) (word ∷ []) are apart ∙
              ap (λ (words : List (List ℕ)). keyword ∷ name ∷ words)
              (words_after_blanks blanks (signed_decimal value ++ rest) (prefix_passes is_blank (behind_name line)) ∙
              word_then (signed_decimal value) rest (number_is_one_word value fits) (behind_is_apart (behind_name line)) ∙
              ap (λ (words : List (List ℕ)). signed_decimal value ∷ words) third.more);
          says = record { legal = value_is_legal value fits; read = number_read value fits };
        }
