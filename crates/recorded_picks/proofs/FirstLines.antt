-- What is kept of the first line of a text says the same as the whole line.
use Rattle.std.proofs.Common.{◌≡◌, ℕ, ◌+◌, ◌-◌, ◌<◌, ◌≤◌, ◌==◌, true, false, not, cond, refl, sym, ◌∙◌, ap, subst, List, [], ◌∷◌, length, take, drop, ⊎_elim, arith, Some, None}
use Rattle.std.specs.Prelude.{slice_index}
use Rattle.std.specs.Io.BufRead.{drop_through, take_through}
use Rattle.std.specs.List.{position_or_len}
use Rattle.std.specs.Str.Lines.{strip_carriage_return}
use Rattle.std.proofs.lemmas.Bool.{cases_lt, lt-ltb}
use Rattle.std.proofs.lemmas.List.{drop_all, get_or-take, length-take, nil_from_length, take-take, take_all}
use Rattle.std.proofs.lemmas.List.Sums.{fails_before_first, passes_at_first, position_or_len_is, prefix_len-le-length}
use Rattle.plant_words.specs.Lines.{lines_of}
use Rattle.plant_words.specs.Words.{words_of}
use Rattle.plant_words.proofs.Cuts.{lines_of-first, lines_of-last}
use Rattle.plant_model.specs.Plant.{PlantDefinition}
use Rattle.run_text.specs.Picks.{misread}
use Rattle.run_text.specs.declared.pick.Misread.TheVariants.{TooLong}
use Rattle.run_text.specs.declared.pick.Numbers.{Numbers}
use Rattle.recorded_picks.specs.Lines.{is_remark, said_in, take_in}
use Rattle.recorded_picks.specs.declared.kept_line.TheConstants.{KEPT, MAX_PICK_LINE}
use Rattle.recorded_picks.proofs.Feeds.{behind-feed, is_feed, through-feed}

-- ---- where the first line feed of a front stands

module _ (text : List ℕ) where
  -- in a front that has it
  feed-in-front : (m : ℕ) → position_or_len is_feed text < m → m ≤ length text → position_or_len is_feed (take m text) ≡ position_or_len is_feed text
  feed-in-front m inside within =
      let n = position_or_len is_feed text in
      let long = length-take m text in
      position_or_len_is is_feed (take m text) n 0 (omega (arith, long, inside, within))
      (λ k less. ap is_feed (get_or-take m text k 0 (omega (arith, less, inside))) ∙ fails_before_first is_feed text k 0 less)
      (λ less. ap is_feed (get_or-take m text n 0 inside) ∙ passes_at_first is_feed text 0 (omega (arith, inside, within)))

  -- a front that ends before it has none
  none-in-front : (m : ℕ) → m ≤ position_or_len is_feed text → m ≤ length text → position_or_len is_feed (take m text) ≡ length (take m text)
  none-in-front m before within =
      let long = length-take m text in
      position_or_len_is is_feed (take m text) (length (take m text)) 0 (omega arith)
      (λ k less. let short : k < m = omega (arith, less, long) in ap is_feed (get_or-take m text k 0 short) ∙ fails_before_first is_feed text k 0 (omega (arith, short, before)))
      (λ less. absurd (omega (arith, less)))

-- ---- a line without its carriage return

-- it is a front, and one byte less at most
stripped : (line : List ℕ) → (k : ℕ) × (strip_carriage_return line ≡ take k line) × (length line ≤ k + 1)
stripped line =
    elim (slice_index line (length line - 1) == 13) as (λ b. (k : ℕ) × (cond b (take (length line - 1) line) line ≡ take k line) × (length line ≤ k + 1)) [
      | true ↦ (length line - 1, refl, omega arith)
      | false ↦ (length line, sym (take_all (length line) line (omega arith)), omega arith)
    ]

-- a long line is still long, and its front is the same
stripped-long : (line : List ℕ) (m : ℕ) → m + 2 ≤ length line → (m < length (strip_carriage_return line)) × (take m (strip_carriage_return line) ≡ take m line)
stripped-long line m long =
    let s = stripped line in
    let count = length-take s.0 line in
    let all : m < length (take s.0 line) = omega (arith, count, s.2, long) in
    let front : take m (take s.0 line) ≡ take m line = take-take m s.0 line (omega (arith, s.2, long)) in
    (subst (λ l. m < length l) (sym s.1) all, ap (take m) s.1 ∙ front)

-- two lists of lines that are the same begin with the same line
same-head : (a b : List ℕ) (more others : List (List ℕ)) → a ∷ more ≡ b ∷ others → a ≡ b
same-head a b more others same = cc

no-line : (line : List ℕ) (more : List (List ℕ)) → [] ≡ line ∷ more → ⊥
no-line line more same = cc

module _ (numbers : Numbers) (plant : PlantDefinition) where
  -- what is said of a long line is said by its front
  said-long : (line : List ℕ) → MAX_PICK_LINE < length line → said_in numbers plant line ≡ cond (is_remark (words_of (take MAX_PICK_LINE line))) None (Some (misread TooLong))
  said-long line long =
      ap (λ b. cond (is_remark (words_of (take MAX_PICK_LINE line))) None (cond b (Some (misread TooLong)) (take_in numbers plant (words_of line)))) (lt-ltb MAX_PICK_LINE (length line) long)

  said-alike : (a b : List ℕ) → MAX_PICK_LINE < length a → MAX_PICK_LINE < length b → take MAX_PICK_LINE a ≡ take MAX_PICK_LINE b → said_in numbers plant a ≡ said_in numbers plant b
  said-alike a b first second same =
      said-long a first ∙ ap (λ front. cond (is_remark (words_of front)) None (Some (misread TooLong))) same ∙ sym (said-long b second)

  -- the whole of a line of a text, and the lines after it
  pub record BeginsLike (text line : List ℕ) : Type 0 where
    pub whole : List ℕ
    pub begins : lines_of text ≡ whole ∷ lines_of (drop_through 10 text)
    pub said : said_in numbers plant whole ≡ said_in numbers plant line

  module _ (text line : List ℕ) (more : List (List ℕ)) where
    abbrev n : ℕ
    n = position_or_len is_feed text

    -- the front of the text that is kept, by how long it is
    front-kept : take KEPT (take_through 10 text) ≡ take KEPT (take (n + 1) text)
    front-kept = ap (take KEPT) (through-feed text)

    -- a text with a line feed
    with-feed : n < length text → lines_of (take KEPT (take_through 10 text)) ≡ line ∷ more → BeginsLike text line
    with-feed inside kept = record { whole = strip_carriage_return (take n text); begins = begin; said = ⊎_elim short long (cases_lt n KEPT) }
      where
        begin : lines_of text ≡ strip_carriage_return (take n text) ∷ lines_of (drop_through 10 text)
        begin = lines_of-first text inside ∙ ap (λ rest. strip_carriage_return (take n text) ∷ lines_of rest) (sym (behind-feed text))

        count : length (take (n + 1) text) ≡ n + 1
        count = omega (arith, length-take (n + 1) text, inside)

        short : n < KEPT → said_in numbers plant (strip_carriage_return (take n text)) ≡ said_in numbers plant line
        short few =
            let front : take KEPT (take_through 10 text) ≡ take (n + 1) text = front-kept ∙ take_all KEPT (take (n + 1) text) (omega (arith, count, few)) in
            let place : position_or_len is_feed (take (n + 1) text) ≡ n = feed-in-front text (n + 1) (omega arith) (omega (arith, inside)) in
            let split = lines_of-first (take (n + 1) text) (omega (arith, place, count)) in
            let first : take (position_or_len is_feed (take (n + 1) text)) (take (n + 1) text) ≡ take n text = ap (λ k. take k (take (n + 1) text)) place ∙ take-take n (n + 1) text (omega arith) in
            ap (said_in numbers plant) (ap strip_carriage_return (sym first) ∙ same-head _ line _ more (sym split ∙ ap lines_of (sym front) ∙ kept))

        long : KEPT ≤ n → said_in numbers plant (strip_carriage_return (take n text)) ≡ said_in numbers plant line
        long many =
            let front : take KEPT (take_through 10 text) ≡ take KEPT text = front-kept ∙ take-take KEPT (n + 1) text (omega (arith, many)) in
            let kept_count : length (take KEPT text) ≡ KEPT = omega (arith, length-take KEPT text, many, inside) in
            let only = lines_of-last (take KEPT text) (none-in-front text KEPT many (omega (arith, many, inside))) (omega (arith, kept_count)) in
            let is : take KEPT text ≡ line = same-head (take KEPT text) line [] more (sym only ∙ ap lines_of (sym front) ∙ kept) in
            let all = stripped-long (take n text) MAX_PICK_LINE (omega (arith, length-take n text, many, inside)) in
            let line_count : MAX_PICK_LINE < length line = subst (λ l. MAX_PICK_LINE < length l) is (omega (arith, kept_count)) in
            let same : take MAX_PICK_LINE (take n text) ≡ take MAX_PICK_LINE line = take-take MAX_PICK_LINE n text (omega (arith, many)) ∙ sym (take-take MAX_PICK_LINE KEPT text (omega arith)) ∙ ap (take MAX_PICK_LINE) is in
            said-alike (strip_carriage_return (take n text)) line all.0 line_count (all.1 ∙ same)

    -- a text without one
    without-feed : length text ≤ n → 0 < length text → lines_of (take KEPT (take_through 10 text)) ≡ line ∷ more → BeginsLike text line
    without-feed past some kept = record { whole = text; begins = begin; said = ⊎_elim short long (cases_lt KEPT (length text)) }
      where
        place : n ≡ length text
        place = omega (arith, past, prefix_len-le-length (λ b. not (is_feed b)) text)

        all : take (n + 1) text ≡ text
        all = take_all (n + 1) text (omega (arith, place))

        begin : lines_of text ≡ text ∷ lines_of (drop_through 10 text)
        begin = lines_of-last text place some ∙ ap (λ rest. text ∷ lines_of rest) (sym (behind-feed text ∙ drop_all (n + 1) text (omega (arith, place))))

        short : KEPT < length text → said_in numbers plant text ≡ said_in numbers plant line
        short many =
            let front : take KEPT (take_through 10 text) ≡ take KEPT text = front-kept ∙ ap (take KEPT) all in
            let kept_count : length (take KEPT text) ≡ KEPT = omega (arith, length-take KEPT text, many) in
            let only = lines_of-last (take KEPT text) (none-in-front text KEPT (omega (arith, place, many)) (omega (arith, many))) (omega (arith, kept_count)) in
            let is : take KEPT text ≡ line = same-head (take KEPT text) line [] more (sym only ∙ ap lines_of (sym front) ∙ kept) in
            let line_count : MAX_PICK_LINE < length line = subst (λ l. MAX_PICK_LINE < length l) is (omega (arith, kept_count)) in
            said-alike text line (omega (arith, many)) line_count (sym (take-take MAX_PICK_LINE KEPT text (omega arith)) ∙ ap (take MAX_PICK_LINE) is)

        long : length text ≤ KEPT → said_in numbers plant text ≡ said_in numbers plant line
        long few =
            let front : take KEPT (take_through 10 text) ≡ text = front-kept ∙ ap (take KEPT) all ∙ take_all KEPT text few in
            ap (said_in numbers plant) (same-head text line [] more (sym (lines_of-last text place some) ∙ ap lines_of (sym front) ∙ kept))

    -- any text
    pub begins-like : lines_of (take KEPT (take_through 10 text)) ≡ line ∷ more → BeginsLike text line
    begins-like kept = ⊎_elim
        (λ inside. with-feed inside kept)
        (λ past. ⊎_elim (λ some. without-feed past some kept) (λ none. absurd (empty none)) (cases_lt 0 (length text)))
        (cases_lt n (length text))
      where
        empty : length text ≤ 0 → ⊥
        empty none =
            let nil : text ≡ [] = nil_from_length text (omega (arith, none)) in
            no-line line more (sym (ap (λ t. lines_of (take KEPT (take_through 10 t))) nil) ∙ kept)

-- a text that is not empty has a line
has-line : (text : List ℕ) → 0 < length text → lines_of text ≡ [] → ⊥
has-line text some none =
    let n = position_or_len is_feed text in
    ⊎_elim
    (λ inside. no-line (strip_carriage_return (take n text)) (lines_of (drop (n + 1) text)) (sym none ∙ lines_of-first text inside))
    (λ past. no-line text [] (sym none ∙ lines_of-last text (omega (arith, past, prefix_len-le-length (λ b. not (is_feed b)) text)) some))
    (cases_lt n (length text))

-- where no line is kept, the text has ended
pub no-line-kept : (text : List ℕ) → lines_of (take KEPT (take_through 10 text)) ≡ [] → text ≡ []
no-line-kept text none = ⊎_elim
    (λ some. absurd (has-line (take KEPT (take (position_or_len is_feed text + 1) text)) (omega (arith, length-take KEPT (take (position_or_len is_feed text + 1) text), length-take (position_or_len is_feed text + 1) text, some)) (sym (ap (λ t. lines_of (take KEPT t)) (through-feed text)) ∙ none)))
    (λ none_left. nil_from_length text (omega (arith, none_left)))
    (cases_lt 0 (length text))
