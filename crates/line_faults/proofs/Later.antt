-- Once the line of a fault is blank, the next fault is of a later line, or of none.
use Rattle.std.proofs.Common.{◌≡◌, ◌≢◌, ◌∙◌, sym, ap, ℕ, zero, suc, ◌+◌, ◌<◌, ◌≤◌, arith, List, [], ◌∷◌, ◌++◌, length, replicate, inl, inr, Result, Ok, Err}
use Rattle.std.specs.Str.Lines.{strip_carriage_return}
use Rattle.plant_words.specs.Lines.{lines_of}
use Rattle.plant_words.specs.Reading.{◌>>=◌}
use Rattle.plant_text.specs.Text.{PlantText}
use Rattle.plant_text.specs.Rows.{line_row}
use Rattle.plant_text.specs.Meaning.{on_line, lines_row}
use Rattle.plant_text.specs.declared.fault.Fault.{Fault}
use Rattle.plant_text.specs.declared.fault.PlantFault.{PlantFault}
use Rattle.line_faults.specs.Blank.{without_line}
use Rattle.line_faults.proofs.BlankLines.{IsOneLine, IsTail, Cut, cut_of, lines_of-first, lines_of-last, line_stays, line_blanks, feed_counts, spaces_are_one_line, spaces_stay, spaces_say_nothing}

-- the line that a reading finds at fault
abbrev pub line_found : Result PlantText PlantFault → ℕ
line_found (Ok plant) = 0
line_found (Err told) = told.line

-- the fault of lines that are numbered from n on is of none before
from_number : (n : ℕ) (lines : List (List ℕ)) (plant : PlantText) (told : PlantFault) → lines_row n lines plant ≡ Err told → n ≤ told.line
from_number n [] plant told fails = absurd (cc)
from_number n (line ∷ lines) plant told fails = each (λ next fails. from_number (n + 1) lines next told fails) (line_row line plant) fails
  where
    each : ((next : PlantText) → lines_row (n + 1) lines next ≡ Err told → n + 1 ≤ told.line) →
        (row : Result PlantText Fault) → (on_line n row >>= λ next. lines_row (n + 1) lines next) ≡ Err told → n ≤ told.line
    each behind (Err broken) fails = let here : n ≡ told.line = ap line_found fails in omega (arith, here)
    each behind (Ok next) fails = let later = behind next fails in omega (arith, later)

-- behind a line of spaces
behind_spaces : (n start : ℕ) (lines : List (List ℕ)) (plant : PlantText) (next : PlantFault) → lines_row start (replicate n 32 ∷ lines) plant ≡ Err next → start < next.line
behind_spaces n start lines plant next fails =
    let passed : lines_row start (replicate n 32 ∷ lines) plant ≡ lines_row (start + 1) lines plant =
    ap (λ row. on_line start row >>= λ p. lines_row (start + 1) lines p) (spaces_say_nothing n plant) in
    let later : start + 1 ≤ next.line = from_number (start + 1) lines plant next (sym passed ∙ fails) in
    omega (arith, later)

-- the first line of a text is one of spaces
after_spaces : (n start : ℕ) (tail : List ℕ) (plant : PlantText) (next : PlantFault) → IsTail tail → lines_row start (lines_of (replicate n 32 ++ tail)) plant ≡ Err next → start < next.line
after_spaces n start tail plant next (inr behind) fails =
    let lines : lines_of (replicate n 32 ++ tail) ≡ replicate n 32 ∷ lines_of behind.0 =
    ap (λ bytes. lines_of (replicate n 32 ++ bytes)) behind.1 ∙ lines_of-first (replicate n 32) behind.0 (spaces_are_one_line n) ∙ ap (λ line. line ∷ lines_of behind.0) (spaces_stay n) in
    behind_spaces n start (lines_of behind.0) plant next (sym (ap (λ xs. lines_row start xs plant) lines) ∙ fails)
after_spaces zero start tail plant next (inl none) fails =
    let ends : lines_row start (lines_of tail) plant ≡ Ok plant = ap (λ bytes. lines_row start (lines_of bytes) plant) none in
    absurd (cc)
after_spaces (suc n) start tail plant next (inl none) fails =
    let lines : lines_of (replicate (suc n) 32 ++ tail) ≡ replicate (suc n) 32 ∷ [] =
    ap (λ bytes. lines_of (replicate (suc n) 32 ++ bytes)) none ∙ lines_of-last 32 (replicate n 32) (spaces_are_one_line (suc n)) in
    behind_spaces (suc n) start [] plant next (sym (ap (λ xs. lines_row start xs plant) lines) ∙ fails)

-- a tail with a blank line in it is a tail
blank_tail : (tail : List ℕ) → IsTail tail → IsTail (without_line 1 tail)
blank_tail tail (inl none) = inl (ap (without_line 1) none)
blank_tail tail (inr behind) = inr (without_line 0 behind.0, ap (without_line 1) behind.1 ∙ feed_counts 0 behind.0)

-- the blank line is the first one
first_is_blank : (start : ℕ) (text : List ℕ) (plant : PlantText) (next : PlantFault) → Cut text → lines_row start (lines_of (without_line 1 text)) plant ≡ Err next → start < next.line
first_is_blank start text plant next cut fails =
    let blank : without_line 1 text ≡ replicate (length cut.line) 32 ++ without_line 1 cut.tail = ap (without_line 1) cut.whole ∙ line_blanks cut.line cut.tail cut.is_line in
    after_spaces (length cut.line) start (without_line 1 cut.tail) plant next (blank_tail cut.tail cut.is_tail) (sym (ap (λ bytes. lines_row start (lines_of bytes) plant) blank) ∙ fails)

-- what holds behind a line that both texts have, where the fault of the one is not of that line
behind_line : (start : ℕ) (line : List ℕ) (lines others : List (List ℕ)) (plant : PlantText) (told next : PlantFault)
    → ((p : PlantText) → lines_row (start + 1) lines p ≡ Err told → lines_row (start + 1) others p ≡ Err next → told.line < next.line) → start < told.line
    → lines_row start (line ∷ lines) plant ≡ Err told → lines_row start (line ∷ others) plant ≡ Err next → told.line < next.line
behind_line start line lines others plant told next behind later = each (line_row line plant)
  where
    each : (row : Result PlantText Fault) → (on_line start row >>= λ p. lines_row (start + 1) lines p) ≡ Err told →
        (on_line start row >>= λ p. lines_row (start + 1) others p) ≡ Err next → told.line < next.line
    each (Err broken) fails fails_next = let here : start ≡ told.line = ap line_found fails in absurd (omega (arith, here, later))
    each (Ok p) fails fails_next = behind p fails fails_next

-- a line alone has its fault itself
of_line_alone : (start : ℕ) (line : List ℕ) (plant : PlantText) (told : PlantFault) → lines_row start (line ∷ []) plant ≡ Err told → start ≡ told.line
of_line_alone start line plant told = each (line_row line plant)
  where
    each : (row : Result PlantText Fault) → (on_line start row >>= λ p. lines_row (start + 1) [] p) ≡ Err told → start ≡ told.line
    each (Err broken) fails = ap line_found fails
    each (Ok p) fails = absurd (cc)

-- so has a text of one line
of_one_line : (start : ℕ) (line : List ℕ) (plant : PlantText) (told : PlantFault) → IsOneLine line → lines_row start (lines_of (line ++ [])) plant ≡ Err told → start ≡ told.line
of_one_line start [] plant told one fails = absurd (cc)
of_one_line start (byte ∷ line) plant told one fails =
    of_line_alone start (byte ∷ line) plant told (sym (ap (λ xs. lines_row start xs plant) (lines_of-last byte line one)) ∙ fails)

-- the blank line is not the first one, and behind the first one this holds
behind_first : (number start : ℕ) (text : List ℕ) (plant : PlantText) (told next : PlantFault) (line tail : List ℕ) → IsOneLine line → text ≡ line ++ tail → IsTail tail
    → ((rest : List ℕ) (p : PlantText) → lines_row (start + 1) (lines_of rest) p ≡ Err told → lines_row (start + 1) (lines_of (without_line (suc number) rest)) p ≡ Err next → told.line < next.line)
    → told.line ≡ start + suc number → lines_row start (lines_of text) plant ≡ Err told → lines_row start (lines_of (without_line (suc (suc number)) text)) plant ≡ Err next → told.line < next.line
behind_first number start text plant told next line tail one whole (inr feed) behind at fails fails_next =
    let other : suc (suc number) ≢ 1 = omega arith in
    let later : start < told.line = omega (arith, at) in
    let lines : lines_of text ≡ strip_carriage_return line ∷ lines_of feed.0 =
    ap lines_of whole ∙ ap (λ bytes. lines_of (line ++ bytes)) feed.1 ∙ lines_of-first line feed.0 one in
    let others : lines_of (without_line (suc (suc number)) text) ≡ strip_carriage_return line ∷ lines_of (without_line (suc number) feed.0) =
    ap (λ bytes. lines_of (without_line (suc (suc number)) bytes)) whole ∙
    ap lines_of (line_stays (suc (suc number)) line tail other one) ∙
    ap (λ bytes. lines_of (line ++ without_line (suc (suc number)) bytes)) feed.1 ∙
    ap (λ bytes. lines_of (line ++ bytes)) (feed_counts (suc number) feed.0) ∙
    lines_of-first line (without_line (suc number) feed.0) one in
    behind_line start (strip_carriage_return line) (lines_of feed.0) (lines_of (without_line (suc number) feed.0)) plant told next (behind feed.0) later
    (sym (ap (λ xs. lines_row start xs plant) lines) ∙ fails) (sym (ap (λ xs. lines_row start xs plant) others) ∙ fails_next)
behind_first number start text plant told next line tail one whole (inl none) behind at fails fails_next =
    let alone : text ≡ line ++ [] = whole ∙ ap (λ bytes. line ++ bytes) none in
    let here : start ≡ told.line = of_one_line start line plant told one (sym (ap (λ bytes. lines_row start (lines_of bytes) plant) alone) ∙ fails) in
    absurd (omega (arith, here, at))

-- the next fault of lines that are numbered from `start` on
pub next_is_later : (number start : ℕ) (text : List ℕ) (plant : PlantText) (told next : PlantFault) → lines_row start (lines_of text) plant ≡ Err told → told.line ≡ start + number
    → lines_row start (lines_of (without_line (suc number) text)) plant ≡ Err next → told.line < next.line
next_is_later zero start text plant told next fails at fails_next =
    let later : start < next.line = first_is_blank start text plant next (cut_of text) fails_next in
    omega (arith, later, at)
next_is_later (suc number) start text plant told next fails at fails_next =
    let cut = cut_of text in
    behind_first number start text plant told next cut.line cut.tail cut.is_line cut.whole cut.is_tail
    (λ rest p fails fails_next. next_is_later number (start + 1) rest p told next fails (omega (arith, at)) fails_next) at fails fails_next
