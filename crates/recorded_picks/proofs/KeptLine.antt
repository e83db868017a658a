-- The first line of a text, of which a reader keeps a front: what a line says is seen of that, if all lines that are too long say the same.
use Rattle.std.proofs.Common.{◌≡◌, ◌∙◌, ap, sym, refl, subst, arith, inl, inr, ⊎_elim, ◌⊎◌, ℕ, zero, suc, ◌+◌, ◌-◌, ◌<◌, ◌≤◌, ◌==◌, Bool, true, false, cond, List, [], ◌∷◌, ◌++◌, length, take, get_or, append-nil}
use Rattle.std.specs.List.{slice_split, onto_first}
use Rattle.std.specs.Io.BufRead.{drop_through, take_through}
use Rattle.std.specs.Str.Lines.{lines_of_parts, strip_carriage_return}
use Rattle.std.proofs.lemmas.Bool.{cases_lt, eqb-true}
use Rattle.std.proofs.lemmas.List.{length-take, length-take-le, length_push, take-append-le, take_all}
use Rattle.std.proofs.lemmas.List.Splits.{length-slice_split}
use Rattle.plant_words.specs.Lines.{lines_of}

-- ---- bytes that end no line

abbrev is_feed : ℕ → Bool
is_feed byte = byte == 10

-- none of the bytes ends a line
abbrev IsUnended : List ℕ → Type 0
IsUnended [] = Unit {0}
IsUnended (b ∷ bytes) = (is_feed b ≡ false) × IsUnended bytes

-- through the end of a line that begins with such bytes
through-append : (bytes rest : List ℕ) → IsUnended bytes → take_through 10 (bytes ++ rest) ≡ bytes ++ take_through 10 rest
through-append [] rest none = refl
through-append (b ∷ bytes) rest none =
    ap (λ t. cond t (b ∷ []) (b ∷ take_through 10 (bytes ++ rest))) none.0 ∙ ap (λ xs. b ∷ xs) (through-append bytes rest none.1)

-- and what is after it
behind-append : (bytes rest : List ℕ) → IsUnended bytes → drop_through 10 (bytes ++ rest) ≡ drop_through 10 rest
behind-append [] rest none = refl
behind-append (b ∷ bytes) rest none = ap (λ t. cond t (bytes ++ rest) (drop_through 10 (bytes ++ rest))) none.0 ∙ behind-append bytes rest none.1

-- ---- lines of a text

-- a text has a first line that ends with a line feed, or none
record IsCut (text : List ℕ) : Type 0 where
  pub line : List ℕ
  pub rest : List ℕ
  pub whole : text ≡ line ++ 10 ∷ rest
  pub unended : IsUnended line

cut : (text : List ℕ) → IsCut text ⊎ IsUnended text
cut [] = inr tt
cut (b ∷ bytes) = each (is_feed b) refl (cut bytes)
  where
    each : (t : Bool) → is_feed b ≡ t → IsCut bytes ⊎ IsUnended bytes → IsCut (b ∷ bytes) ⊎ IsUnended (b ∷ bytes)
    each true is more = inl (record { line = []; rest = bytes; whole = ap (λ x. x ∷ bytes) (eqb-true b 10 is); unended = tt })
    each false is (inl c) = inl (record { line = b ∷ c.line; rest = c.rest; whole = ap (λ xs. b ∷ xs) c.whole; unended = (is, c.unended) })
    each false is (inr none) = inr (is, none)

-- the parts of a text that begins with bytes that end no line
split-ended : (line rest : List ℕ) → IsUnended line → slice_split is_feed (line ++ 10 ∷ rest) ≡ line ∷ slice_split is_feed rest
split-ended [] rest none = refl
split-ended (b ∷ line) rest none =
    ap (λ t. cond t ([] ∷ slice_split is_feed (line ++ 10 ∷ rest)) (onto_first b (slice_split is_feed (line ++ 10 ∷ rest)))) none.0 ∙ ap (onto_first b) (split-ended line rest none.1)

split-last : (line : List ℕ) → IsUnended line → slice_split is_feed line ≡ line ∷ []
split-last [] none = refl
split-last (b ∷ line) none =
    ap (λ t. cond t ([] ∷ slice_split is_feed line) (onto_first b (slice_split is_feed line))) none.0 ∙ ap (onto_first b) (split-last line none.1)

before-parts : (line : List ℕ) (parts : List (List ℕ)) → 0 < length parts → lines_of_parts (line ∷ parts) ≡ strip_carriage_return line ∷ lines_of_parts parts
before-parts line [] some = absurd (omega (arith, some))
before-parts line (part ∷ parts) some = refl

-- so its first line is known, and the lines after it
lines-ended : (line rest : List ℕ) → IsUnended line → lines_of (line ++ 10 ∷ rest) ≡ strip_carriage_return line ∷ lines_of rest
lines-ended line rest none = ap lines_of_parts (split-ended line rest none) ∙ before-parts line (slice_split is_feed rest) (omega (arith, length-slice_split is_feed rest))

lines-last : (line : List ℕ) → IsUnended line → 0 < length line → lines_of line ≡ line ∷ []
lines-last [] none some = absurd (omega (arith, some))
lines-last (b ∷ line) none some = ap lines_of_parts (split-last (b ∷ line) none) ∙ grind arith

-- ---- a line of which only a front is kept

-- a front of bytes that end no line
unended-front : (n : ℕ) (bytes : List ℕ) → IsUnended bytes → IsUnended (take n bytes)
unended-front zero bytes none = tt
unended-front (suc n) [] none = tt
unended-front (suc n) (b ∷ bytes) none = (none.0, unended-front n bytes none.1)

-- a CR that belongs to a line's end is one byte
stripped : (line : List ℕ) → length line ≤ length (strip_carriage_return line) + 1
stripped line =
    elim (get_or line (length line - 1) 0 == 13) as (λ t. length line ≤ length (cond t (take (length line - 1) line) line) + 1) [
      | true ↦ omega (arith, length-take-le (length line - 1) line (omega arith))
      | false ↦ omega arith
    ]

-- ---- the first line of a text, as far as it is kept

same-head : (a b : List ℕ) (later more : List (List ℕ)) → a ∷ later ≡ b ∷ more → a ≡ b
same-head a b later more same = cc

-- no byte is a front of no byte
none-of-none : (n : ℕ) → take {A = ℕ} n [] ≡ []
none-of-none zero = refl
none-of-none (suc n) = refl

no-line : (line : List ℕ) (more : List (List ℕ)) → [] ≡ line ∷ more → ⊥
no-line line more same = cc

-- a text whose first line says what a line says
pub record BeginsLike {A : Type 0} (says : List ℕ → A) (text line : List ℕ) : Type 0 where
  pub whole : List ℕ
  pub begins : lines_of text ≡ whole ∷ lines_of (drop_through 10 text)
  pub same : says whole ≡ says line

-- what is kept of a text's first line, where a line has so many bytes at most: its line end too, so that a longer one is seen to be too long
abbrev pub kept : ℕ → List ℕ → List ℕ
kept most text = take (most + 2) (take_through 10 text)

module _ {A : Type 0} (says : List ℕ → A) (most : ℕ) (long : (a b : List ℕ) → most < length a → most < length b → says a ≡ says b) (line : List ℕ) (more : List (List ℕ)) where
  -- one line feed, at least
  like-ended : (first rest : List ℕ) → IsUnended first → lines_of (kept most (first ++ 10 ∷ rest)) ≡ line ∷ more → BeginsLike says (first ++ 10 ∷ rest) line
  like-ended first rest none held =
      record {
        whole = strip_carriage_return first;
        begins = lines-ended first rest none ∙ ap (λ xs. strip_carriage_return first ∷ lines_of xs) (sym (behind-append first (10 ∷ rest) none));
        same = ⊎_elim short many (cases_lt (length first) (most + 2));
      }
    where
      front : kept most (first ++ 10 ∷ rest) ≡ take (most + 2) (first ++ 10 ∷ [])
      front = ap (take (most + 2)) (through-append first (10 ∷ rest) none)

      short : length first < (most + 2) → says (strip_carriage_return first) ≡ says line
      short few =
          let all : kept most (first ++ 10 ∷ rest) ≡ first ++ 10 ∷ [] = front ∙ take_all (most + 2) (first ++ 10 ∷ []) (omega (arith, length_push first 10, few)) in
          ap says (same-head (strip_carriage_return first) line _ more (sym (lines-ended first [] none) ∙ ap lines_of (sym all) ∙ held))

      many : (most + 2) ≤ length first → says (strip_carriage_return first) ≡ says line
      many past =
          let all : kept most (first ++ 10 ∷ rest) ≡ take (most + 2) first = front ∙ take-append-le (most + 2) first (10 ∷ []) past in
          let size : length (take (most + 2) first) ≡ (most + 2) = length-take-le (most + 2) first past in
          let is : take (most + 2) first ≡ line = same-head (take (most + 2) first) line [] more (sym (lines-last (take (most + 2) first) (unended-front (most + 2) first none) (omega (arith, size))) ∙ ap lines_of (sym all) ∙ held) in
          long (strip_carriage_return first) line (omega (arith, stripped first, past)) (omega (arith, size, ap length is))

  -- none
  like-last : (text : List ℕ) → IsUnended text → 0 < length text → lines_of (kept most text) ≡ line ∷ more → BeginsLike says text line
  like-last text none some held =
      record {
        whole = text;
        begins = lines-last text none some ∙ ap (λ xs. text ∷ lines_of xs) (sym behind);
        same = ⊎_elim short many (cases_lt (length text) ((most + 2) + 1));
      }
    where
      behind : drop_through 10 text ≡ []
      behind = ap (drop_through 10) (sym (append-nil text)) ∙ behind-append text [] none

      front : kept most text ≡ take (most + 2) text
      front = ap (take (most + 2)) (ap (take_through 10) (sym (append-nil text)) ∙ through-append text [] none ∙ append-nil text)

      short : length text < (most + 2) + 1 → says text ≡ says line
      short few =
          let all : kept most text ≡ text = front ∙ take_all (most + 2) text (omega (arith, few)) in
          ap says (same-head text line [] more (sym (lines-last text none some) ∙ ap lines_of (sym all) ∙ held))

      many : (most + 2) + 1 ≤ length text → says text ≡ says line
      many past =
          let size : length (take (most + 2) text) ≡ (most + 2) = length-take-le (most + 2) text (omega (arith, past)) in
          let is : take (most + 2) text ≡ line = same-head (take (most + 2) text) line [] more (sym (lines-last (take (most + 2) text) (unended-front (most + 2) text none) (omega (arith, size))) ∙ ap lines_of (sym front) ∙ held) in
          long text line (omega (arith, past)) (omega (arith, size, ap length is))

  -- any text
  pub begins-like : (text : List ℕ) → lines_of (kept most text) ≡ line ∷ more → BeginsLike says text line
  begins-like [] held = absurd (no-line line more (ap lines_of (sym (none-of-none (most + 2))) ∙ held))
  begins-like (b ∷ bytes) held = each (b ∷ bytes) (cut (b ∷ bytes)) (omega arith) held
    where
      each : (text : List ℕ) → IsCut text ⊎ IsUnended text → 0 < length text → lines_of (kept most text) ≡ line ∷ more → BeginsLike says text line
      each text (inl c) some held =
          subst (λ t. BeginsLike says t line) (sym c.whole) (like-ended c.line c.rest c.unended (ap (λ t. lines_of (kept most t)) (sym c.whole) ∙ held))
      each text (inr none) some held = like-last text none some held

-- a text of which no line is kept has none
pub no-line-kept : (most : ℕ) (text : List ℕ) → lines_of (kept most text) ≡ [] → lines_of text ≡ []
no-line-kept most [] none = refl
no-line-kept most (b ∷ bytes) none = each (b ∷ bytes) (cut (b ∷ bytes)) (omega arith) none
  where
    some-line : (line : List ℕ) (more : List (List ℕ)) → line ∷ more ≡ [] → ⊥
    some-line line more same = cc

    each : (text : List ℕ) → IsCut text ⊎ IsUnended text → 0 < length text → lines_of (kept most text) ≡ [] → lines_of text ≡ []
    each text (inl c) some none = absurd (ended c.line c.rest c.unended (ap (λ t. lines_of (kept most t)) (sym c.whole) ∙ none))
      where
        ended : (first rest : List ℕ) → IsUnended first → lines_of (kept most (first ++ 10 ∷ rest)) ≡ [] → ⊥
        ended first rest unended none =
            ⊎_elim
            (λ few. let all : kept most (first ++ 10 ∷ rest) ≡ first ++ 10 ∷ [] = ap (take (most + 2)) (through-append first (10 ∷ rest) unended) ∙ take_all (most + 2) (first ++ 10 ∷ []) (omega (arith, length_push first 10, few)) in
            some-line (strip_carriage_return first) (lines_of []) (sym (lines-ended first [] unended) ∙ ap lines_of (sym all) ∙ none))
            (λ past. let all : kept most (first ++ 10 ∷ rest) ≡ take (most + 2) first = ap (take (most + 2)) (through-append first (10 ∷ rest) unended) ∙ take-append-le (most + 2) first (10 ∷ []) past in
            some-line (take (most + 2) first) [] (sym (lines-last (take (most + 2) first) (unended-front (most + 2) first unended) (omega (arith, length-take-le (most + 2) first past))) ∙ ap lines_of (sym all) ∙ none))
            (cases_lt (length first) (most + 2))
    each text (inr unended) some none =
        let front : kept most text ≡ take (most + 2) text = ap (take (most + 2)) (ap (take_through 10) (sym (append-nil text)) ∙ through-append text [] unended ∙ append-nil text) in
        absurd (some-line (take (most + 2) text) [] (sym (lines-last (take (most + 2) text) (unended-front (most + 2) text unended) (omega (arith, length-take (most + 2) text, some))) ∙ ap lines_of (sym front) ∙ none))
