-- A line that is made blank says nothing, and what stands before it stays.
use Rattle.std.proofs.Common.{◌≡◌, ◌≢◌, ◌∙◌, refl, ap, ℕ, zero, suc, ◌-◌, ◌<◌, arith, Bool, true, false, not, List, [], ◌∷◌, ◌++◌, take, length, replicate, inl, inr, ◌==◌, ◌⊎◌, get_or, Ok}
use Rattle.std.specs.Prelude.{◌&&◌, if◌then◌else◌, filter}
use Rattle.std.specs.List.{slice_split, onto_first}
use Rattle.std.specs.Str.Lines.{lines_of_parts, strip_carriage_return}
use Rattle.std.proofs.lemmas.Bool.{eqb-true, ne_eqb}
use Rattle.std.proofs.lemmas.List.Splits.{slice_split-cons_yes, slice_split-cons_no, length-slice_split}
use Rattle.plant_words.specs.Lines.{lines_of, is_legal_line}
use Rattle.plant_words.specs.Reading.{◌>>=◌, check}
use Rattle.plant_words.specs.Words.{is_blank, is_filled, is_comment, words_of}
use Rattle.plant_text.specs.Text.{PlantText}
use Rattle.plant_text.specs.Rows.{line_row, passed_row, words_row}
use Rattle.plant_text.specs.declared.fault.Fault.TheVariants.{NotAscii}
use Rattle.line_faults.specs.Blank.{blanked, left_after, without_line}

-- ---- a text, cut at its first line feed

abbrev is_line_feed : ℕ → Bool
is_line_feed byte = byte == 10

-- bytes without a line feed
abbrev pub IsOneLine : List ℕ → Type 0
IsOneLine [] = Unit {0}
IsOneLine (byte ∷ line) = (is_line_feed byte ≡ false) × IsOneLine line

-- nothing, or a line feed and a text
abbrev pub IsTail : List ℕ → Type 0
IsTail tail = (tail ≡ []) ⊎ ((rest : List ℕ) × (tail ≡ 10 ∷ rest))

-- a text is a line and its tail
pub record Cut (text : List ℕ) : Type 0 where
  pub line : List ℕ
  pub tail : List ℕ
  pub is_line : IsOneLine line
  pub is_tail : IsTail tail
  pub whole : text ≡ line ++ tail

pub cut_of : (text : List ℕ) → Cut text
cut_of [] = record { line = []; tail = []; is_line = tt; is_tail = inl refl; whole = refl }
cut_of (byte ∷ text) =
    let behind = cut_of text in
    (elim (is_line_feed byte) as (λ b. is_line_feed byte ≡ b → Cut (byte ∷ text)) [
      | true ↦ λ feed. record { line = []; tail = byte ∷ text; is_line = tt; is_tail = inr (text, ap (λ b. b ∷ text) (eqb-true byte 10 feed)); whole = refl }
      | false ↦ λ other. record {
        line = byte ∷ behind.line;
        tail = behind.tail;
        is_line = (other, behind.is_line);
        is_tail = behind.is_tail;
        whole = ap (λ bytes. byte ∷ bytes) behind.whole;
      }
    ]) refl

-- ---- the lines of a text that is cut

-- a line before a line feed
before_line_feed : (line : List ℕ) (parts : List (List ℕ)) → 0 < length parts → lines_of_parts (line ∷ parts) ≡ strip_carriage_return line ∷ lines_of_parts parts
before_line_feed line [] some = absurd (omega (arith, some))
before_line_feed line (part ∷ parts) some = refl

-- the parts of a line, and of what follows its line feed
split_at_feed : (line rest : List ℕ) → IsOneLine line → slice_split is_line_feed (line ++ 10 ∷ rest) ≡ line ∷ slice_split is_line_feed rest
split_at_feed [] rest one = refl
split_at_feed (byte ∷ line) rest one =
    slice_split-cons_no is_line_feed byte (line ++ 10 ∷ rest) one.0 ∙ ap (onto_first byte) (split_at_feed line rest one.1)

-- a line alone is one part
split_whole : (line : List ℕ) → IsOneLine line → slice_split is_line_feed (line ++ []) ≡ line ∷ []
split_whole [] one = refl
split_whole (byte ∷ line) one = slice_split-cons_no is_line_feed byte (line ++ []) one.0 ∙ ap (onto_first byte) (split_whole line one.1)

-- the lines of a text with a line feed
pub lines_of-first : (line rest : List ℕ) → IsOneLine line → lines_of (line ++ 10 ∷ rest) ≡ strip_carriage_return line ∷ lines_of rest
lines_of-first line rest one =
    ap lines_of_parts (split_at_feed line rest one) ∙
    before_line_feed line (slice_split is_line_feed rest) (omega (arith, length-slice_split is_line_feed rest))

-- the lines of a text without one
pub lines_of-last : (byte : ℕ) (line : List ℕ) → IsOneLine (byte ∷ line) → lines_of ((byte ∷ line) ++ []) ≡ (byte ∷ line) ∷ []
lines_of-last byte line one = ap lines_of_parts (split_whole (byte ∷ line) one) ∙ grind arith

-- ---- a text that is cut, with a blank line

-- a byte before the blank line
stays : (number byte : ℕ) → number ≢ 1 → blanked number byte ≡ byte
stays number byte other = ap (λ b. if b && not (byte == 10) then 32 else byte) (ne_eqb number 1 other)

-- a byte of the blank line
blanks : (byte : ℕ) → is_line_feed byte ≡ false → blanked 1 byte ≡ 32
blanks byte plain = ap (λ b. if not b then 32 else byte) plain

-- a line feed stays
feed_stays : (number : ℕ) → blanked number 10 ≡ 10
feed_stays number =
    let feed : ℕ = 10 in
    elim (number == 1) as (λ b. (if b && not (feed == 10) then 32 else feed) ≡ feed) [ true ↦ refl | false ↦ refl ]

-- a byte that is no line feed ends no line
same_line : (number byte : ℕ) → is_line_feed byte ≡ false → left_after number byte ≡ number
same_line number byte plain = ap (λ b. if b then number - 1 else number) plain

-- a line that is not the blank one stays
pub line_stays : (number : ℕ) (line tail : List ℕ) → number ≢ 1 → IsOneLine line → without_line number (line ++ tail) ≡ line ++ without_line number tail
line_stays number [] tail other one = refl
line_stays number (byte ∷ line) tail other one =
    ap (λ b. b ∷ without_line (left_after number byte) (line ++ tail)) (stays number byte other) ∙
    ap (λ n. byte ∷ without_line n (line ++ tail)) (same_line number byte one.0) ∙
    ap (λ bytes. byte ∷ bytes) (line_stays number line tail other one.1)

-- the blank line is one of spaces
pub line_blanks : (line tail : List ℕ) → IsOneLine line → without_line 1 (line ++ tail) ≡ replicate (length line) 32 ++ without_line 1 tail
line_blanks [] tail one = refl
line_blanks (byte ∷ line) tail one =
    ap (λ b. b ∷ without_line (left_after 1 byte) (line ++ tail)) (blanks byte one.0) ∙
    ap (λ n. 32 ∷ without_line n (line ++ tail)) (same_line 1 byte one.0) ∙
    ap (λ bytes. 32 ∷ bytes) (line_blanks line tail one.1)

-- behind a line feed the blank line is one line nearer
pub feed_counts : (number : ℕ) (rest : List ℕ) → without_line (suc number) (10 ∷ rest) ≡ 10 ∷ without_line number rest
feed_counts number rest =
    let nearer : suc number - 1 ≡ number = omega arith in
    ap (λ b. b ∷ without_line (suc number - 1) rest) (feed_stays (suc number)) ∙ ap (λ n. 10 ∷ without_line n rest) nearer

-- ---- a line of spaces

pub spaces_are_one_line : (n : ℕ) → IsOneLine (replicate n 32)
spaces_are_one_line zero = tt
spaces_are_one_line (suc n) = (refl, spaces_are_one_line n)

-- no byte of it is a carriage return
no_return : (n k : ℕ) → (get_or (replicate n 32) k 0 == 13) ≡ false
no_return zero k = refl
no_return (suc n) zero = refl
no_return (suc n) (suc k) = no_return n k

-- so none is taken from its end
pub spaces_stay : (n : ℕ) → strip_carriage_return (replicate n 32) ≡ replicate n 32
spaces_stay n =
    let line = replicate n 32 in
    ap (λ b. if b then take (length line - 1) line else line) (no_return n (length line - 1))

-- it has no word
no_words : (n : ℕ) → words_of (replicate n 32) ≡ []
no_words zero = refl
no_words (suc n) = ap (filter is_filled) (slice_split-cons_yes is_blank 32 (replicate n 32) refl) ∙ no_words n

-- each byte of it is legal
spaces_are_legal : (n : ℕ) → is_legal_line (replicate n 32) ≡ true
spaces_are_legal zero = refl
spaces_are_legal (suc n) = spaces_are_legal n

-- it says nothing
pub spaces_say_nothing : (n : ℕ) (plant : PlantText) → line_row (replicate n 32) plant ≡ Ok plant
spaces_say_nothing n plant =
    let line = replicate n 32 in
    ap (λ words. if is_comment words then passed_row line plant else words_row words plant) (no_words n) ∙
    ap (λ b. check b NotAscii >>= λ checked. Ok plant) (spaces_are_legal n)
