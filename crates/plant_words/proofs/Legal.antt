-- Words that were taken without a fault have legal bytes alone, and a line of such words has.
use Rattle.std.proofs.Common.{◌≡◌, ◌∙◌, refl, sym, ap, subst, ⊎_elim, eqb-true, ℕ, zero, suc, Bool, true, false, ◌&&◌, ◌==◌, cond, if◌then◌else◌, List, [], ◌∷◌, drop, Option, Result, Ok, Err}
use Rattle.std.specs.Prelude.{filter}
use Rattle.std.specs.List.{list_all, slice_split, onto_first}
use Rattle.std.specs.Option.{ok_or}
use Rattle.std.proofs.lemmas.Bool.{and_parts, and_from, or_cases}
use Rattle.std.proofs.lemmas.Slice.Eq.{bytes_eq-Decides}
use Rattle.petri_atom.specs.Name.{is_same_text}
use Rattle.petri_atom.specs.Expression.{Tree}
use Rattle.petri_atom.specs.declared.parts.TheConstants.{MAX_WORDS}
use Rattle.plant_words.specs.Lines.{is_legal_byte, is_legal_line}
use Rattle.plant_words.specs.Names.{name_in}
use Rattle.plant_words.specs.Words.{is_blank, is_filled, words_of}
use Rattle.plant_words.specs.Reading.{◌>>=◌, check, first_word, first_name, first_keyword, at_end, leads, on_line}
use Rattle.plant_words.specs.ExpressionWords.{legal_word_in, word_in}
use Rattle.plant_words.specs.Expressions.{Reading, expressions_in, expression_in, behind, led_by, wanted_after}
use Rattle.plant_words.specs.declared.expression_word.Word.{Word}
use Rattle.plant_words.specs.declared.expression_fault.ExpressionFault.{ExpressionFault}
use Rattle.plant_words.specs.declared.expression_fault.ExpressionFault.TheVariants as expression
use Rattle.plant_words.specs.declared.line_fault.LineFault.{LineFault}
use Rattle.plant_words.specs.declared.line_fault.LineFault.TheVariants.{NotAscii, BadName, Shape}
use Rattle.plant_words.proofs.ExpressionParts.{on_trees-ok, only-ok}
use Rattle.plant_words.proofs.Steps.{led_on, same_end}

-- words of legal bytes
abbrev pub are_legal : List (List ℕ) → Bool
are_legal words = list_all is_legal_line words

-- ---- from words to their line

blank_is_legal : (byte : ℕ) → is_blank byte ≡ true → is_legal_byte byte ≡ true
blank_is_legal byte blank =
    ⊎_elim (λ space. ap is_legal_byte (eqb-true byte 32 space)) (λ tab. ap is_legal_byte (eqb-true byte 9 tab)) (or_cases (byte == 32) (byte == 9) blank)

-- parts are legal where those are that have a byte
filled_parts : (parts : List (List ℕ)) → are_legal (filter is_filled parts) ≡ true → are_legal parts ≡ true
filled_parts [] all = refl
filled_parts ([] ∷ parts) all = filled_parts parts all
filled_parts ((byte ∷ bytes) ∷ parts) all =
    let both = and_parts (is_legal_line (byte ∷ bytes)) (are_legal (filter is_filled parts)) all in
    and_from (is_legal_line (byte ∷ bytes)) (are_legal parts) both.0 (filled_parts parts both.1)

-- a byte before parts, which begins a part of its own or is of the first one
one_byte_more : (byte : ℕ) (parts : List (List ℕ)) (legal blank : Bool) → is_blank byte ≡ blank → (are_legal parts ≡ true → legal ≡ true) →
    are_legal (cond blank ([] ∷ parts) (onto_first byte parts)) ≡ true → (is_legal_byte byte && legal) ≡ true
one_byte_more byte parts legal true is rest all = and_from (is_legal_byte byte) legal (blank_is_legal byte is) (rest all)
one_byte_more byte [] legal false is rest all =
    let first = and_parts (is_legal_line (byte ∷ [])) true all in
    and_from (is_legal_byte byte) legal (and_parts (is_legal_byte byte) true first.0).0 (rest refl)
one_byte_more byte (part ∷ parts) legal false is rest all =
    let both = and_parts (is_legal_line (byte ∷ part)) (are_legal parts) all in
    let first = and_parts (is_legal_byte byte) (is_legal_line part) both.0 in
    and_from (is_legal_byte byte) legal first.0 (rest (and_from (is_legal_line part) (are_legal parts) first.1 both.1))

line_of_parts : (line : List ℕ) → are_legal (slice_split is_blank line) ≡ true → is_legal_line line ≡ true
line_of_parts [] all = refl
line_of_parts (byte ∷ bytes) all = one_byte_more byte (slice_split is_blank bytes) (is_legal_line bytes) (is_blank byte) refl (line_of_parts bytes) all

-- a line is legal where its words are
pub line_of_words : (line : List ℕ) → are_legal (words_of line) ≡ true → is_legal_line line ≡ true
line_of_words line all = line_of_parts line (filled_parts (slice_split is_blank line) all)

-- ---- steps

taken_is_legal : (legal : Bool) (word told : List ℕ) → ◌≡◌ {A = Result (List ℕ) LineFault} (if legal then Ok word else Err NotAscii) (Ok told) → legal ≡ true
taken_is_legal true word told is = refl
taken_is_legal false word told is = absurd (cc)

-- the words from one on that was taken, where those after it are legal
pub word_is_legal : (words : List (List ℕ)) (word : List ℕ) → first_word words ≡ Ok word → are_legal (drop 1 words) ≡ true → are_legal words ≡ true
word_is_legal [] word told rest = absurd (cc)
word_is_legal (first ∷ words) word told rest = and_from (is_legal_line first) (are_legal words) (taken_is_legal (is_legal_line first) first word told) rest

-- so it is with each step that takes the first word
pub step_is_legal : {A : Type 0} (words : List (List ℕ)) (next : List ℕ → Result A LineFault) (x : A) → (first_word words >>= next) ≡ Ok x → are_legal (drop 1 words) ≡ true → are_legal words ≡ true
step_is_legal words next x told rest = let first = led_on (first_word words) next x told in word_is_legal words first.0 first.1 rest

pub keyword_is_legal : (keyword : List ℕ) (words : List (List ℕ)) (u : Unit {0}) → first_keyword keyword words ≡ Ok u → are_legal (drop 1 words) ≡ true → are_legal words ≡ true
keyword_is_legal keyword words u told rest = step_is_legal words (λ word. check (is_same_text word keyword) Shape) u told rest

-- a keyword that was looked for, and was there
pub leading_is_legal : (keyword : List ℕ) (words : List (List ℕ)) → is_legal_line keyword ≡ true → leads keyword words ≡ true → are_legal (drop 1 words) ≡ true → are_legal words ≡ true
leading_is_legal keyword [] legal leads rest = refl
leading_is_legal keyword (word ∷ words) legal leads rest =
    and_from (is_legal_line word) (are_legal words) (ap is_legal_line ((bytes_eq-Decides word keyword).0 leads) ∙ legal) rest

-- no word is left after the end
pub end_is_legal : (words : List (List ℕ)) (u : Unit {0}) → at_end words ≡ Ok u → are_legal words ≡ true
end_is_legal [] u told = refl
end_is_legal (word ∷ words) u told = absurd (cc)

-- ---- expressions

word_after : {V P : Type 0} (legal : Bool) (said : Result (Word V) ExpressionFault) (more : ℕ) (read : ℕ → Reading V) (trees : List (Tree V)) (rest : List (List ℕ)) →
    ((wanted : ℕ) (before : List (Tree V)) → read wanted ≡ Ok (before, rest) → P) →
    behind (if legal then said else Err expression.NotAscii) more read ≡ Ok (trees, rest) → (legal ≡ true) × P
word_after false said more read trees rest later told = absurd (cc)
word_after true (Err fault) more read trees rest later told = absurd (cc)
word_after true (Ok word) more read trees rest later told =
    let found = on_trees-ok (led_by word) (read (wanted_after word more)) trees rest told in
    (refl, later (wanted_after word more) found.0 found.1)

row_is_legal : {V : Type 0} (named : List ℕ → Option V) (limit more : ℕ) (words : List (List ℕ)) (trees : List (Tree V)) (rest : List (List ℕ)) →
    are_legal rest ≡ true → expressions_in named limit more words ≡ Ok (trees, rest) → are_legal words ≡ true
row_is_legal {V = V} named limit zero words trees rest legal told =
    let same : ◌≡◌ {A = List (Tree V) × List (List ℕ)} ([], words) (trees, rest) = cc in
    ap (λ parts. are_legal parts.1) same ∙ legal
row_is_legal named limit (suc more) [] trees rest legal told = refl
row_is_legal named zero (suc more) (word ∷ words) trees rest legal told = absurd (cc)
row_is_legal named (suc limit) (suc more) (word ∷ words) trees rest legal told =
    let both = word_after (is_legal_line word) (legal_word_in named word) more (λ wanted. expressions_in named limit wanted words) trees rest
    (λ wanted before read. row_is_legal named limit wanted words before rest legal read) told in
    and_from (is_legal_line word) (are_legal words) both.0 both.1

expression_is_legal : {V : Type 0} (named : List ℕ → Option V) (words rest : List (List ℕ)) (tree : Tree V) →
    expression_in named words ≡ Ok (tree, rest) → are_legal rest ≡ true → are_legal words ≡ true
expression_is_legal named words rest tree told legal =
    let found = only-ok (expressions_in named MAX_WORDS 1 words) tree rest told in
    row_is_legal named MAX_WORDS 1 words (tree ∷ found.0) rest legal found.1

found_on_line : {A : Type 0} (r : Result A ExpressionFault) (x : A) → on_line r ≡ Ok x → r ≡ Ok x
found_on_line (Ok y) x told = ap Ok (same_end y x told)
found_on_line (Err fault) x told = absurd (cc)

-- the words of an expression in a line, where those after it are legal
pub read_is_legal : {V : Type 0} (named : List ℕ → Option V) (words : List (List ℕ)) (read : Tree V × List (List ℕ)) →
    on_line (expression_in named words) ≡ Ok read → are_legal read.1 ≡ true → are_legal words ≡ true
read_is_legal named words read told legal = expression_is_legal named words read.1 read.0 (found_on_line (expression_in named words) read told) legal

-- ---- names

pub name_is_legal : (words : List (List ℕ)) (name : List ℕ) → first_name words ≡ Ok name → are_legal (drop 1 words) ≡ true → are_legal words ≡ true
name_is_legal words name told rest = step_is_legal words (λ word. ok_or (name_in word) BadName) name told rest
