-- The first part of a list that is cut at the elements that pass a test, and what that says of lines and words.
use Rattle.std.proofs.Common.{◌≡◌, ℕ, suc, ◌+◌, ◌<◌, ◌≤◌, Bool, true, false, not, cond, List, [], ◌∷◌, length, take, drop, inl, inr, refl, sym, ap, ◌∙◌, arith, ◌==◌}
use Rattle.std.specs.List.{slice_split, onto_first, prefix_len, position_or_len}
use Rattle.std.specs.Str.Lines.{lines_of_parts, strip_carriage_return}
use Rattle.std.proofs.Math.Nat.{eq-or-lt_of_le}
use Rattle.std.proofs.Math.Seq.{take-length, drop-length, drop-cons}
use Rattle.std.proofs.Math.ListN.{get_or}
use Rattle.std.proofs.lemmas.List.Sums.{passes_at_first}
use Rattle.std.proofs.lemmas.List.{length-take, length-drop, drop-drop}
use Rattle.std.proofs.lemmas.List.Splits.{slice_split_first, slice_split-cons_yes, length-slice_split}
use Rattle.plant_words.specs.Lines.{lines_of}
use Rattle.plant_words.specs.Words.{is_blank, is_filled, words_of}
use Rattle.std.specs.Prelude.{filter}

-- a first part is no longer than the list
pub prefix_len-le : {X : Type 0} (p : X → Bool) → (xs : List X) → prefix_len p xs ≤ length xs
prefix_len-le p [] = omega arith
prefix_len-le p (x ∷ xs) =
    let rest = prefix_len-le p xs in
    elim (p x) as (λ b. cond b (1 + prefix_len p xs) 0 ≤ length (x ∷ xs)) [ true ↦ omega (arith, rest) | false ↦ omega arith ]

-- a list of which no element passes is one part
pub uncut : {X : Type 0} (p : X → Bool) → (xs : List X) → position_or_len p xs ≡ length xs → slice_split p xs ≡ xs ∷ []
uncut p [] whole = refl
uncut p (x ∷ xs) whole =
    (elim (p x) as (λ b. cond (not b) (1 + position_or_len p xs) 0 ≡ length (x ∷ xs) → cond b ([] ∷ slice_split p xs) (onto_first x (slice_split p xs)) ≡ (x ∷ xs) ∷ []) [
      | true ↦ λ h. absurd (omega (arith, h))
      | false ↦ λ h. ap (onto_first x) (uncut p xs (omega (arith, h)))
    ]) whole

-- a line before a line feed
before_line_feed : (line : List ℕ) (parts : List (List ℕ)) → 0 < length parts → lines_of_parts (line ∷ parts) ≡ strip_carriage_return line ∷ lines_of_parts parts
before_line_feed line [] some = absurd (omega (arith, some))
before_line_feed line (part ∷ parts) some = refl

abbrev is_line_feed : ℕ → Bool
is_line_feed byte = byte == 10

-- the first line of a text with a line feed, and the lines after it
pub lines_of-first : (text : List ℕ) → position_or_len is_line_feed text < length text →
    lines_of text ≡ strip_carriage_return (take (position_or_len is_line_feed text) text) ∷ lines_of (drop (position_or_len is_line_feed text + 1) text)
lines_of-first text within =
    let n = position_or_len is_line_feed text in
    ap lines_of_parts (slice_split_first is_line_feed text 0 within) ∙
    before_line_feed (take n text) (slice_split is_line_feed (drop (n + 1) text)) (omega (arith, length-slice_split is_line_feed (drop (n + 1) text)))

-- a text without line feeds is one line, where it is not empty
pub lines_of-last : (text : List ℕ) → position_or_len is_line_feed text ≡ length text → 0 < length text → lines_of text ≡ text ∷ []
lines_of-last [] whole some = absurd (omega (arith, some))
lines_of-last (byte ∷ bytes) whole some = ap lines_of_parts (uncut is_line_feed (byte ∷ bytes) whole) ∙ grind arith

-- the first line, as the text that is split at its first line feed has it
pub first_line : (text line behind : List ℕ) (n : ℕ) → n ≡ position_or_len is_line_feed text → line ≡ take n text → behind ≡ drop n text → 1 ≤ length behind →
    lines_of text ≡ strip_carriage_return line ∷ lines_of (drop 1 behind)
first_line text line behind n value front back some =
    let within : position_or_len is_line_feed text < length text = omega (arith, value, some, ap length back, length-drop n text) in
    let one : n + 1 ≡ position_or_len is_line_feed text + 1 = omega (arith, value) in
    let first : line ≡ take (position_or_len is_line_feed text) text = front ∙ ap (λ (k : ℕ). take k text) value in
    let rest : drop 1 behind ≡ drop (position_or_len is_line_feed text + 1) text = ap (drop 1) back ∙ drop-drop 1 n text ∙ ap (λ (k : ℕ). drop k text) one in
    let cut = lines_of-first text within in
    cut ∙ sym (ap (λ (l : List ℕ). strip_carriage_return l ∷ lines_of (drop (position_or_len is_line_feed text + 1) text)) first) ∙ sym (ap (λ (l : List ℕ). strip_carriage_return line ∷ lines_of l) rest)

-- the last line, as the text without a line feed has it
pub last_line : (text line behind : List ℕ) (n : ℕ) → n ≡ position_or_len is_line_feed text → line ≡ take n text → behind ≡ drop n text → length behind < 1 → 0 < length text →
    lines_of text ≡ line ∷ lines_of behind
last_line text line behind n value front back none some =
    let short = prefix_len-le (λ byte. not (is_line_feed byte)) text in
    let whole : n ≡ length text = omega (arith, value, short, none, ap length back, length-drop n text) in
    let first : line ≡ text = front ∙ ap (λ (k : ℕ). take k text) whole ∙ take-length text in
    let left : lines_of behind ≡ [] = ap lines_of (back ∙ ap (λ (k : ℕ). drop k text) whole ∙ drop-length text) in
    let cut : lines_of text ≡ text ∷ [] = lines_of-last text (sym value ∙ whole) some in
    cc

-- one more byte makes at most one more line
one_more_line : (byte : ℕ) (parts : List (List ℕ)) → length (lines_of_parts (onto_first byte parts)) ≤ 1 + length (lines_of_parts parts)
one_more_line byte [] = omega arith
one_more_line byte (part ∷ []) = grind arith
one_more_line byte (part ∷ next ∷ more) = omega arith

-- a text has no more lines than bytes
pub lines_of_count : (text : List ℕ) → length (lines_of text) ≤ length text
lines_of_count [] = omega arith
lines_of_count (byte ∷ bytes) =
    let parts = slice_split is_line_feed bytes in
    let rest : length (lines_of_parts parts) ≤ length bytes = lines_of_count bytes in
    elim (is_line_feed byte) as (λ b. length (lines_of_parts (cond b ([] ∷ parts) (onto_first byte parts))) ≤ length (byte ∷ bytes)) [
      | true ↦ omega (arith, rest, ap length (before_line_feed [] parts (omega (arith, length-slice_split is_line_feed bytes))))
      | false ↦ omega (arith, rest, one_more_line byte parts)
    ]

-- a blank in front changes no word
blank-first : (byte : ℕ) (bytes : List ℕ) → is_blank byte ≡ true → words_of (byte ∷ bytes) ≡ words_of bytes
blank-first byte bytes blank = ap (filter is_filled) (slice_split-cons_yes is_blank byte bytes blank)

-- nor do all blanks in front
pub words_of-after_blanks : (line : List ℕ) → words_of (drop (prefix_len is_blank line) line) ≡ words_of line
words_of-after_blanks [] = refl
words_of-after_blanks (byte ∷ bytes) =
    let n = prefix_len is_blank bytes in
    (elim (is_blank byte) as (λ b. is_blank byte ≡ b → words_of (drop (cond b (1 + n) 0) (byte ∷ bytes)) ≡ words_of (byte ∷ bytes)) [
      | true ↦ λ blank. let one : 1 + n ≡ suc n = omega arith in ap (λ (k : ℕ). words_of (drop k (byte ∷ bytes))) one ∙ words_of-after_blanks bytes ∙ sym (blank-first byte bytes blank)
      | false ↦ λ other. refl
    ]) refl

-- a list with an element has a byte
filled : (word : List ℕ) → 0 < length word → is_filled word ≡ true
filled [] some = absurd (omega (arith, some))
filled (byte ∷ bytes) some = refl

-- what stands after the blanks begins with a word
pub word-after_blanks : (line : List ℕ) → 0 < length (drop (prefix_len is_blank line) line) → 0 < position_or_len is_blank (drop (prefix_len is_blank line) line)
word-after_blanks [] some = some
word-after_blanks (byte ∷ bytes) some =
    let n = prefix_len is_blank bytes in
    (elim (is_blank byte) as (λ b. is_blank byte ≡ b → 0 < length (drop (cond b (1 + n) 0) (byte ∷ bytes)) → 0 < position_or_len is_blank (drop (cond b (1 + n) 0) (byte ∷ bytes))) [
      | true ↦ λ blank behind. let one : 1 + n ≡ suc n = omega arith in rw one (word-after_blanks bytes (rw one at behind))
      | false ↦ λ other behind. rw other (omega arith)
    ]) refl some

-- a line that begins with a word
pub words_of-first : (line : List ℕ) → 0 < position_or_len is_blank line →
    words_of line ≡ take (position_or_len is_blank line) line ∷ words_of (drop (position_or_len is_blank line) line)
words_of-first line begins =
    let n = position_or_len is_blank line in
    elim (eq-or-lt_of_le (prefix_len-le (λ byte. not (is_blank byte)) line)) [
      | inl whole ↦
          let taken : take n line ≡ line = ap (λ (k : ℕ). take k line) whole ∙ take-length line in
          let left : words_of (drop n line) ≡ [] = ap words_of (ap (λ (k : ℕ). drop k line) whole ∙ drop-length line) in
          let cut : words_of line ≡ line ∷ [] = ap (filter is_filled) (uncut is_blank line whole) ∙ ap (λ (b : Bool). cond b (line ∷ []) []) (filled line (omega arith)) in
          cc
      | inr within ↦
          let word = take n line in
          let parts = slice_split is_blank (drop (n + 1) line) in
          let cut : words_of line ≡ cond (is_filled word) (word ∷ filter is_filled parts) (filter is_filled parts) = ap (filter is_filled) (slice_split_first is_blank line 0 within) in
          let one : suc n ≡ n + 1 = omega arith in
          let next : drop n line ≡ get_or line n 0 ∷ drop (n + 1) line = drop-cons line n 0 within ∙ ap (λ (k : ℕ). get_or line n 0 ∷ drop k line) one in
          let left : words_of (drop n line) ≡ filter is_filled parts = ap words_of next ∙ blank-first (get_or line n 0) (drop (n + 1) line) (passes_at_first is_blank line 0 within) in
          cut ∙ ap (λ (b : Bool). cond b (word ∷ filter is_filled parts) (filter is_filled parts)) (filled word (omega (arith, length-take n line))) ∙ ap (λ (ws : List (List ℕ)). word ∷ ws) (sym left)
    ]

-- the first word, as the line that is split at its first blank has it
pub first_word : (line behind_blanks word behind : List ℕ) (n m : ℕ) → n ≡ prefix_len is_blank line → behind_blanks ≡ drop n line → 0 < length behind_blanks →
    m ≡ position_or_len is_blank behind_blanks → word ≡ take m behind_blanks → behind ≡ drop m behind_blanks → words_of line ≡ word ∷ words_of behind
first_word line behind_blanks word behind n m blanks back some value front rest =
    let place : behind_blanks ≡ drop (prefix_len is_blank line) line = back ∙ ap (λ (k : ℕ). drop k line) blanks in
    let same : words_of behind_blanks ≡ words_of line = ap words_of place ∙ words_of-after_blanks line in
    let begins : 0 < position_or_len is_blank behind_blanks = rw place (word-after_blanks line (rw place at some)) in
    let cut = words_of-first behind_blanks begins in
    let first : word ≡ take (position_or_len is_blank behind_blanks) behind_blanks = front ∙ ap (λ (k : ℕ). take k behind_blanks) value in
    let left : words_of behind ≡ words_of (drop (position_or_len is_blank behind_blanks) behind_blanks) = ap words_of (rest ∙ ap (λ (k : ℕ). drop k behind_blanks) value) in
    cc

-- a line of blanks alone has no words
pub no_words : (line behind_blanks : List ℕ) (n : ℕ) → n ≡ prefix_len is_blank line → behind_blanks ≡ drop n line → length behind_blanks ≡ 0 → words_of line ≡ []
no_words line [] n blanks back none = sym (words_of-after_blanks line) ∙ sym (ap words_of (back ∙ ap (λ (k : ℕ). drop k line) blanks))
no_words line (byte ∷ bytes) n blanks back none = absurd (omega (arith, none))

-- one more byte makes at most one more word
one_more_word : (byte : ℕ) (parts : List (List ℕ)) → length (filter is_filled (onto_first byte parts)) ≤ 1 + length (filter is_filled parts)
one_more_word byte [] = omega arith
one_more_word byte (part ∷ parts) =
    elim (is_filled part) as (λ b.
    suc (length (filter is_filled parts)) ≤ 1 + length (cond b (part ∷ filter is_filled parts) (filter is_filled parts))) [ true ↦ omega arith | false ↦ omega arith ]

-- a line has no more words than bytes
pub words_of_count : (line : List ℕ) → length (words_of line) ≤ length line
words_of_count [] = omega arith
words_of_count (byte ∷ bytes) =
    let parts = slice_split is_blank bytes in
    let rest : length (filter is_filled parts) ≤ length bytes = words_of_count bytes in
    elim (is_blank byte) as (λ b. length (filter is_filled (cond b ([] ∷ parts) (onto_first byte parts))) ≤ length (byte ∷ bytes)) [
      | true ↦ omega (arith, rest)
      | false ↦ omega (arith, rest, one_more_word byte parts)
    ]
