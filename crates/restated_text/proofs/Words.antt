-- The words of a line, and of a line of which what stands behind the second word is another.
use Rattle.std.proofs.Common.{◌≡◌, ◌∙◌, refl, sym, ap, subst, ℕ, suc, ◌+◌, ◌-◌, ◌<◌, ◌≤◌, arith, Bool, true, false, not, cond, List, [], ◌∷◌, ◌++◌, append-nil, append_assoc, length, take, drop}
use Rattle.std.specs.Prelude.{filter}
use Rattle.std.specs.List.{list_all, prefix_len, position_or_len}
use Rattle.std.proofs.lemmas.List.Splits.{slice_split-cons_yes}
use Rattle.std.proofs.lemmas.Bool.{and_parts, and_from, not-true, false≢true}
use Rattle.std.proofs.lemmas.List.{length-append, take-append-drop}
use Rattle.std.proofs.Math.Seq.{take-append_seam}
use Rattle.plant_words.specs.Words.{is_blank, is_filled, words_of}
use Rattle.plant_words.proofs.Cuts as cuts
use Rattle.read_back.proofs.Words.{is_one_word, cut_at, word_alone}
use Rattle.restated_text.specs.Cuts.{blanks_before, from_word, word_at, behind_word, behind_name, up_to_name}

-- ---- cuts

-- the elements before the first that fails a test pass it
pub prefix_passes : {X : Type 0} (p : X → Bool) (xs : List X) → list_all p (take (prefix_len p xs) xs) ≡ true
prefix_passes p [] = refl
prefix_passes p (x ∷ xs) =
    let n = prefix_len p xs in
    (elim (p x) as (λ b. p x ≡ b → list_all p (take (cond b (1 + n) 0) (x ∷ xs)) ≡ true) [
      | true ↦ λ passes. let one : 1 + n ≡ suc n = omega arith in ap (λ (k : ℕ). list_all p (take k (x ∷ xs))) one ∙ and_from (p x) (list_all p (take n xs)) passes (prefix_passes p xs)
      | false ↦ λ fails. refl
    ]) refl

-- the list begins with a blank, or is empty
abbrev pub is_apart : List ℕ → Bool
is_apart [] = true
is_apart (byte ∷ bytes) = is_blank byte

-- what stands from the first blank on
apart_from_blank : (line : List ℕ) → is_apart (drop (position_or_len is_blank line) line) ≡ true
apart_from_blank [] = refl
apart_from_blank (byte ∷ bytes) =
    let n = position_or_len is_blank bytes in
    (elim (is_blank byte) as (λ b. is_blank byte ≡ b → is_apart (drop (cond (not b) (1 + n) 0) (byte ∷ bytes)) ≡ true) [
      | true ↦ λ blank. blank
      | false ↦ λ other. let one : 1 + n ≡ suc n = omega arith in ap (λ (k : ℕ). is_apart (drop k (byte ∷ bytes))) one ∙ apart_from_blank bytes
    ]) refl

pub behind_is_apart : (line : List ℕ) → is_apart (behind_word line) ≡ true
behind_is_apart line = apart_from_blank (from_word line)

-- a line is its first blanks, its first word and what stands behind
pub line_in_parts : (line : List ℕ) → blanks_before line ++ (word_at line ++ behind_word line) ≡ line
line_in_parts line =
    ap (λ (rest : List ℕ). blanks_before line ++ rest) (take-append-drop (position_or_len is_blank (from_word line)) (from_word line)) ∙
    take-append-drop (prefix_len is_blank line) line

-- ---- words

-- a blank in front changes no word
pub blank_first : (byte : ℕ) (bytes : List ℕ) → is_blank byte ≡ true → words_of (byte ∷ bytes) ≡ words_of bytes
blank_first byte bytes blank = ap (filter is_filled) (slice_split-cons_yes is_blank byte bytes blank)

-- nor do blanks
pub words_after_blanks : (blanks rest : List ℕ) → list_all is_blank blanks ≡ true → words_of (blanks ++ rest) ≡ words_of rest
words_after_blanks [] rest all = refl
words_after_blanks (byte ∷ bytes) rest all =
    let parts = and_parts (is_blank byte) (list_all is_blank bytes) all in
    blank_first byte (bytes ++ rest) parts.0 ∙ words_after_blanks bytes rest parts.1

-- a word before a blank, or at the end, is the first one
pub word_then : (word rest : List ℕ) → is_one_word word ≡ true → is_apart rest ≡ true → words_of (word ++ rest) ≡ word ∷ words_of rest
word_then word [] one apart = ap words_of (append-nil word) ∙ word_alone word one
word_then word (byte ∷ bytes) one apart =
    let parts = and_parts (is_filled word) (list_all (λ byte. not (is_blank byte)) word) one in
    ap (filter is_filled) (cut_at is_blank word byte bytes parts.1 apart) ∙
    ap (λ (b : Bool). cond b (word ∷ words_of bytes) (words_of bytes)) parts.0 ∙
    ap (λ (words : List (List ℕ)). word ∷ words) (sym (blank_first byte bytes apart))

-- the first word of a line with words, and those behind it
pub record FirstWord (line word : List ℕ) (words : List (List ℕ)) : Type 0 where
  pub is : word_at line ≡ word
  pub more : words_of (behind_word line) ≡ words
  pub one : is_one_word (word_at line) ≡ true
  pub some : is_filled (from_word line) ≡ true

long : (bytes : List ℕ) → is_filled bytes ≡ true → 0 < length bytes
long [] some = absurd (false≢true some)
long (byte ∷ bytes) some = omega arith

filled : (bytes : List ℕ) → 0 < length bytes → is_filled bytes ≡ true
filled [] some = absurd (omega (arith, some))
filled (byte ∷ bytes) some = refl

-- a word stands there
one_word_at : (line : List ℕ) → 0 < length (from_word line) → is_one_word (word_at line) ≡ true
one_word_at line some =
    let begins : 0 < position_or_len is_blank (from_word line) = cuts.word-after_blanks line some in
    and_from (is_filled (word_at line)) (list_all (λ byte. not (is_blank byte)) (word_at line)) (filled (word_at line) (taken (from_word line) begins))
    (prefix_passes (λ byte. not (is_blank byte)) (from_word line))
  where
    taken : (rest : List ℕ) → 0 < position_or_len is_blank rest → 0 < length (take (position_or_len is_blank rest) rest)
    taken [] begins = begins
    taken (byte ∷ bytes) begins =
        (elim (is_blank byte) as (λ b. 0 < cond (not b) (1 + position_or_len is_blank bytes) 0 → 0 < length (take (cond (not b) (1 + position_or_len is_blank bytes) 0) (byte ∷ bytes))) [
          | true ↦ λ h. absurd (omega (arith, h))
          | false ↦ λ h. let one : 1 + position_or_len is_blank bytes ≡ suc (position_or_len is_blank bytes) = omega arith in subst (λ (k : ℕ). 0 < length (take k (byte ∷ bytes))) (sym one) (omega arith)
        ]) begins

cut_words : (line : List ℕ) → 0 < length (from_word line) → words_of line ≡ word_at line ∷ words_of (behind_word line)
cut_words line some =
    cuts.first_word line (from_word line) (word_at line) (behind_word line) (prefix_len is_blank line) (position_or_len is_blank (from_word line)) refl refl some refl refl refl

same_head : {X : Type 0} (x y : X) (xs ys : List X) → x ∷ xs ≡ y ∷ ys → (x ≡ y) × (xs ≡ ys)
same_head x y xs ys same = (cc, cc)

pub first_word : (line word : List ℕ) (words : List (List ℕ)) → words_of line ≡ word ∷ words → FirstWord line word words
first_word line word words are = by (from_word line) refl
  where
    by : (rest : List ℕ) → from_word line ≡ rest → FirstWord line word words
    by [] none =
        let no : words_of line ≡ [] = cuts.no_words line [] (prefix_len is_blank line) refl (sym none) refl in
        absurd (cc)
    by (byte ∷ bytes) is =
        let some : 0 < length (from_word line) = subst (λ (r : List ℕ). 0 < length r) (sym is) (omega arith) in
        let same = same_head (word_at line) word (words_of (behind_word line)) words (sym (cut_words line some) ∙ are) in
        record { is = same.0; more = same.1; one = one_word_at line some; some = filled (from_word line) some }

-- a line without words has nothing from its first word on
pub no_word : (line : List ℕ) → words_of line ≡ [] → is_filled (from_word line) ≡ false
no_word line none = by (from_word line) refl
  where
    by : (rest : List ℕ) → from_word line ≡ rest → is_filled (from_word line) ≡ false
    by [] is = ap is_filled is
    by (byte ∷ bytes) is =
        let some : 0 < length (from_word line) = subst (λ (r : List ℕ). 0 < length r) (sym is) (omega arith) in
        let cut = cut_words line some in
        absurd (cc)

-- ---- behind the second word

-- the first two words, and the blanks before them
abbrev front_of : List ℕ → List ℕ
front_of line = (blanks_before line ++ word_at line) ++ (blanks_before (behind_word line) ++ word_at (behind_word line))

front_and_behind : (line : List ℕ) → front_of line ++ behind_name line ≡ line
front_and_behind line =
    let second = blanks_before (behind_word line) ++ word_at (behind_word line) in
    append_assoc (blanks_before line ++ word_at line) second (behind_name line) ∙
    ap (λ (rest : List ℕ). (blanks_before line ++ word_at line) ++ rest)
    (append_assoc (blanks_before (behind_word line)) (word_at (behind_word line)) (behind_name line) ∙ line_in_parts (behind_word line)) ∙
    append_assoc (blanks_before line) (word_at line) (behind_word line) ∙ line_in_parts line

taken_front : (front behind line : List ℕ) → front ++ behind ≡ line → take (length line - length behind) line ≡ front
taken_front front behind line is =
    let count : length (front ++ behind) ≡ length front + length behind = length-append front behind in
    let total : length (front ++ behind) ≡ length line = ap length is in
    let n : length line - length behind ≡ length front = omega (arith, count, total) in
    ap (λ (k : ℕ). take k line) n ∙ sym (ap (take (length front)) is) ∙ take-append_seam front behind

pub up_to_name_is : (line : List ℕ) → up_to_name line ≡ front_of line
up_to_name_is line = taken_front (front_of line) (behind_name line) line (front_and_behind line)

-- what begins apart does so before anything else
apart_before : (front one other : List ℕ) → is_filled front ≡ true → is_apart (front ++ one) ≡ true → is_apart (front ++ other) ≡ true
apart_before [] one other some apart = absurd (false≢true some)
apart_before (byte ∷ bytes) one other some apart = apart

filled_after : (front word : List ℕ) → is_filled word ≡ true → is_filled (front ++ word) ≡ true
filled_after [] word some = some
filled_after (byte ∷ bytes) word some = refl

-- the first two words stay, whatever else stands behind them
pub words_up_to_name : (line keyword name rest : List ℕ) (words : List (List ℕ)) → words_of line ≡ keyword ∷ name ∷ words → is_apart rest ≡ true →
    words_of (up_to_name line ++ rest) ≡ keyword ∷ name ∷ words_of rest
words_up_to_name line keyword name rest words are apart =
    let first = first_word line keyword (name ∷ words) are in
    let second = first_word (behind_word line) name words first.more in
    let blanks = blanks_before (behind_word line) in
    let word = word_at (behind_word line) in
    let filled_second : is_filled (blanks ++ word) ≡ true = filled_after blanks word (and_parts (is_filled word) (list_all (λ byte. not (is_blank byte)) word) second.one).0 in
    let before : is_apart ((blanks ++ word) ++ behind_name line) ≡ true =
    ap is_apart (append_assoc blanks word (behind_name line) ∙ line_in_parts (behind_word line)) ∙ behind_is_apart line in
    let after : is_apart ((blanks ++ word) ++ rest) ≡ true = apart_before (blanks ++ word) (behind_name line) rest filled_second before in
    let inner : words_of ((blanks ++ word) ++ rest) ≡ name ∷ words_of rest =
    ap words_of (append_assoc blanks word rest) ∙ words_after_blanks blanks (word ++ rest) (prefix_passes is_blank (behind_word line)) ∙
    word_then word rest second.one apart ∙ ap (λ (w : List ℕ). w ∷ words_of rest) second.is in
    ap (λ (front : List ℕ). words_of (front ++ rest)) (up_to_name_is line) ∙
    ap words_of (append_assoc (blanks_before line ++ word_at line) (blanks ++ word) rest ∙ append_assoc (blanks_before line) (word_at line) ((blanks ++ word) ++ rest)) ∙
    words_after_blanks (blanks_before line) (word_at line ++ ((blanks ++ word) ++ rest)) (prefix_passes is_blank line) ∙
    word_then (word_at line) ((blanks ++ word) ++ rest) first.one after ∙
    ap (λ (w : List ℕ). w ∷ words_of ((blanks ++ word) ++ rest)) first.is ∙
    ap (λ (ws : List (List ℕ)). keyword ∷ ws) inner
