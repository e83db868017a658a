-- The lines of a restated text are the lines of the text, restated one by one.
use Rattle.std.proofs.Common.{◌≡◌, ◌∙◌, refl, sym, ap, subst, ⊎_elim, inl, inr, eqb-true, ℕ, zero, suc, ◌+◌, ◌-◌, ◌<◌, ◌≤◌, arith, Bool, true, false, not, cond, if◌then◌else◌, ◌==◌, List, [], ◌∷◌, ◌++◌, append-nil, length, take, drop, get_or, Option, Some, None}
use Rattle.std.specs.Prelude.{slice_get, slice_index}
use Rattle.std.specs.List.{list_all, slice_split}
use Rattle.std.specs.Option.{option_map_or}
use Rattle.std.specs.Str.Lines.{lines_of_parts, strip_carriage_return}
use Rattle.std.proofs.Math.Seq.{take-append_seam, get_or-append_seam, drop-cons, drop-length}
use Rattle.std.proofs.lemmas.Bool.{and_parts, false≢true, false_from_ne_true, ne_eqb}
use Rattle.std.proofs.lemmas.List.{length-append, length-take}
use Rattle.std.proofs.lemmas.List.Splits.{length-slice_split}
use Rattle.std.proofs.lemmas.List.Sums.{AllPass-from_list_all}
use Rattle.petri_atom.specs.Local.{Local, has}
use Rattle.plant_words.specs.Lines.{is_legal_byte, is_legal_line, lines_of}
use Rattle.plant_words.specs.Words.{is_blank, is_filled, words_of}
use Rattle.plant_words.specs.declared.line_kind.AtomPart.{AtomPart}
use Rattle.plant_words.specs.declared.line_kind.AtomPart.TheVariants.{Place, Variable, Port, Transition}
use Rattle.plant_words.specs.declared.line_kind.LineKind.{LineKind}
use Rattle.plant_words.specs.declared.line_kind.LineKind.TheVariants.{Atom, Connector, OfAtom, OfConnector, Rule}
use Rattle.part_lines.specs.Table.{kind_of_words}
use Rattle.read_back.proofs.Bytes.{none_is}
use Rattle.read_back.proofs.Words.{cut_at, uncut, is_one_word}
use Rattle.restated_text.specs.Counts.{kind_of, after}
use Rattle.restated_text.specs.Cuts.{blanks_before, from_word, word_at, behind_word, behind_name, up_to_name}
use Rattle.restated_text.specs.Lines.{says_marked, unmarked_line, marked_line, place_line, says_value, valued_line, variable_line}
use Rattle.restated_text.specs.Plants.{has_ranged_values}
use Rattle.restated_text.specs.Text.{part_line, line_in_state, latest_state, restated_line, return_of, restated_part, after_part_of_text, restated_parts, is_line_feed}
use Rattle.restated_text.specs.declared.counts.Counts.{Counts}
use Rattle.restated_text.proofs.LegalLines.{both_pass, restated_line_legal}
use Rattle.restated_text.proofs.Words.{first_word, up_to_name_is}

-- lines, restated one after another
abbrev pub restated_lines : List Local → Counts → List (List ℕ) → List (List ℕ)
restated_lines states counts [] = []
restated_lines states counts (line ∷ lines) = restated_line states counts line ∷ restated_lines states (after (kind_of line) counts) lines

-- a line of no kind stays
pub line_of_no_kind : (states : List Local) (counts : Counts) (line : List ℕ) → kind_of line ≡ None → restated_line states counts line ≡ line
line_of_no_kind states counts line none = each (latest_state states counts)
  where
    each : (o : Option Local) → option_map_or (λ state. line_in_state (kind_of line) state counts line) o line ≡ line
    each None = refl
    each (Some state) = ap (λ (kind : Option LineKind). line_in_state kind state counts line) none

-- ---- what a restated line begins with

-- what holds of a line, and of what begins as it does up to its second word, holds of the restated line
module _ (P : List ℕ → Type 0) (line : List ℕ) (same : P line) (front : (rest : List ℕ) → P (up_to_name line ++ rest)) where
  place_form : (marked : Bool) → P (place_line marked line)
  place_form marked = each (says_marked line) marked
    where
      each : (said marked : Bool) → P (if said then (if marked then line else unmarked_line line) else (if marked then marked_line line else line))
      each true true = same
      each true false = front _
      each false true = front _
      each false false = same

  variable_form : (o : Option _) → P (option_map_or (λ value. variable_line value line) o line)
  variable_form None = same
  variable_form (Some value) = each (says_value value (word_at (behind_name line)))
    where
      each : (said : Bool) → P (if said then line else valued_line value line)
      each true = same
      each false = front _

  part_form : (part : AtomPart) (state : Local) (counts : Counts) → P (part_line part state counts line)
  part_form Place state counts = place_form (has state.marking counts.places)
  part_form Variable state counts = variable_form (slice_get state.values counts.variables)
  part_form Port state counts = same
  part_form Transition state counts = same

  state_form : (kind : Option LineKind) (state : Local) (counts : Counts) → P (line_in_state kind state counts line)
  state_form None state counts = same
  state_form (Some Atom) state counts = same
  state_form (Some Connector) state counts = same
  state_form (Some (OfAtom part)) state counts = part_form part state counts
  state_form (Some (OfConnector part)) state counts = same
  state_form (Some (Rule kind)) state counts = same

  pub restated_form : (states : List Local) (counts : Counts) → P (restated_line states counts line)
  restated_form states counts = each (latest_state states counts)
    where
      each : (o : Option Local) → P (option_map_or (λ state. line_in_state (kind_of line) state counts line) o line)
      each None = same
      each (Some state) = state_form (kind_of line) state counts

filled_before : (front rest : List ℕ) → is_filled front ≡ true → is_filled (front ++ rest) ≡ true
filled_before [] rest some = absurd (false≢true some)
filled_before (byte ∷ bytes) rest some = refl

filled_behind : (front rest : List ℕ) → is_filled rest ≡ true → is_filled (front ++ rest) ≡ true
filled_behind [] rest some = some
filled_behind (byte ∷ bytes) rest some = refl

-- a line with a byte has one restated
filled_line : (states : List Local) (counts : Counts) (line : List ℕ) → is_filled line ≡ true → is_filled (restated_line states counts line) ≡ true
filled_line states counts line some = by (words_of line) refl
  where
    by : (words : List (List ℕ)) → words_of line ≡ words → is_filled (restated_line states counts line) ≡ true
    by [] none = ap is_filled (line_of_no_kind states counts line (ap kind_of_words none)) ∙ some
    by (word ∷ words) are =
        let first = first_word line word words are in
        let word_filled : is_filled (word_at line) ≡ true = (and_parts (is_filled (word_at line)) (list_all (λ byte. not (is_blank byte)) (word_at line)) first.one).0 in
        let front : is_filled (up_to_name line) ≡ true =
        ap is_filled (up_to_name_is line) ∙
        filled_before (blanks_before line ++ word_at line) (blanks_before (behind_word line) ++ word_at (behind_word line)) (filled_behind (blanks_before line) (word_at line) word_filled) in
        restated_form (λ l. is_filled l ≡ true) line some (λ rest. filled_before (up_to_name line) rest front) states counts

-- ---- carriage returns

-- the last byte of a line that may stand in a text is no carriage return
no_return : (line : List ℕ) → is_legal_line line ≡ true → (slice_index line (length line - 1) == 13) ≡ false
no_return [] legal = refl
no_return (byte ∷ bytes) legal =
    let there : length (byte ∷ bytes) - 1 < length (byte ∷ bytes) = omega arith in
    let passes = AllPass-from_list_all is_legal_byte (byte ∷ bytes) legal (length (byte ∷ bytes) - 1) 0 there in
    ne_eqb (slice_index (byte ∷ bytes) (length (byte ∷ bytes) - 1)) 13 (λ is. false≢true (ap is_legal_byte (sym is) ∙ passes))

legal_stays : (line : List ℕ) → is_legal_line line ≡ true → strip_carriage_return line ≡ line
legal_stays line legal = ap (λ (b : Bool). if b then take (length line - 1) line else line) (no_return line legal)

-- a carriage return behind a line is taken off
return_off : (line : List ℕ) → strip_carriage_return (line ++ 13 ∷ []) ≡ line
return_off line =
    let whole : List ℕ = line ++ 13 ∷ [] in
    let count : length whole ≡ length line + 1 = length-append line (13 ∷ []) in
    let last : length whole - 1 ≡ length line = omega (arith, count) in
    let is : slice_index whole (length whole - 1) ≡ 13 = ap (slice_index whole) last ∙ get_or-append_seam line 13 [] 0 in
    ap (λ (b : ℕ). if b == 13 then take (length whole - 1) whole else whole) is ∙ ap (λ (k : ℕ). take k whole) last ∙ take-append_seam line (13 ∷ [])

-- what is taken off a line is nothing, or the carriage return
data IsReturn (part : List ℕ) : Type 0 where
  none : strip_carriage_return part ≡ part → return_of part ≡ [] → IsReturn part
  one : return_of part ≡ 13 ∷ [] → IsReturn part

is_return : (part : List ℕ) → IsReturn part
is_return part = by (slice_index part (length part - 1) == 13) refl
  where
    stripped : (b : Bool) → (slice_index part (length part - 1) == 13) ≡ b → strip_carriage_return part ≡ (if b then take (length part - 1) part else part)
    stripped b is = ap (λ (c : Bool). if c then take (length part - 1) part else part) is

    some : (bytes : List ℕ) → (slice_index bytes (length bytes - 1) == 13) ≡ true → 0 < length bytes
    some [] is = absurd (false≢true is)
    some (byte ∷ bytes) is = omega arith

    by : (b : Bool) → (slice_index part (length part - 1) == 13) ≡ b → IsReturn part
    by false is = none (stripped false is) (ap (λ (l : List ℕ). drop (length l) part) (stripped false is) ∙ drop-length part)
    by true is =
        let long : 0 < length part = some part is in
        let n : length (strip_carriage_return part) ≡ length part - 1 = ap length (stripped true is) ∙ omega (arith, length-take (length part - 1) part) in
        let last : length part - 1 < length part = omega (arith, long) in
        let next : suc (length part - 1) ≡ length part = omega (arith, long) in
        one
        (ap (λ (k : ℕ). drop k part) n ∙ drop-cons part (length part - 1) 0 last ∙
        ap (λ (b : ℕ). b ∷ drop (suc (length part - 1)) part) (eqb-true (slice_index part (length part - 1)) 13 is) ∙
        ap (λ (k : ℕ). 13 ∷ drop k part) next ∙ ap (λ (l : List ℕ). 13 ∷ l) (drop-length part))

-- ---- lines

-- what may stand in a text is no line feed
no_feed : (line : List ℕ) → is_legal_line line ≡ true → list_all (λ b. not (is_line_feed b)) line ≡ true
no_feed line legal = none_is is_legal_byte 10 line legal refl

before_feed : (line : List ℕ) (parts : List (List ℕ)) → 0 < length parts → lines_of_parts (line ∷ parts) ≡ strip_carriage_return line ∷ lines_of_parts parts
before_feed line [] some = absurd (omega (arith, some))
before_feed line (part ∷ parts) some = refl

-- a line, and its carriage return if it has one, before a line feed
line_and_more : (line rest : List ℕ) (part : List ℕ) → is_legal_line line ≡ true → IsReturn part →
    lines_of ((line ++ return_of part) ++ 10 ∷ rest) ≡ line ∷ lines_of rest
line_and_more line rest part legal return =
    let whole : List ℕ = line ++ return_of part in
    ap lines_of_parts (cut_at is_line_feed whole 10 rest (both_pass (λ b. not (is_line_feed b)) line (return_of part) (no_feed line legal) (free return)) refl) ∙
    before_feed whole (slice_split is_line_feed rest) (omega (arith, length-slice_split is_line_feed rest)) ∙
    ap (λ (l : List ℕ). l ∷ lines_of rest) (off return)
  where
    free : IsReturn part → list_all (λ b. not (is_line_feed b)) (return_of part) ≡ true
    free (none is nothing) = ap (list_all (λ b. not (is_line_feed b))) nothing
    free (one is) = ap (list_all (λ b. not (is_line_feed b))) is

    off : IsReturn part → strip_carriage_return (line ++ return_of part) ≡ line
    off (none is nothing) = ap (λ (l : List ℕ). strip_carriage_return (line ++ l)) nothing ∙ ap strip_carriage_return (append-nil line) ∙ legal_stays line legal
    off (one is) = ap (λ (l : List ℕ). strip_carriage_return (line ++ l)) is ∙ return_off line

-- the last line, which has a byte
one_line : (part : List ℕ) → is_filled part ≡ true → lines_of_parts (part ∷ []) ≡ part ∷ []
one_line [] some = absurd (false≢true some)
one_line (byte ∷ bytes) some = grind arith

last_line : (line : List ℕ) → is_legal_line line ≡ true → is_filled line ≡ true → lines_of line ≡ line ∷ []
last_line line legal some = ap lines_of_parts (uncut is_line_feed line (no_feed line legal)) ∙ one_line line some

-- the lines of restated parts of a text
pub lines_restated : (states : List Local) → list_all has_ranged_values states ≡ true → (parts : List (List ℕ)) (counts : Counts) →
    list_all is_legal_line (lines_of_parts parts) ≡ true → lines_of (restated_parts states counts parts) ≡ restated_lines states counts (lines_of_parts parts)
lines_restated states fit [] counts legal = refl
lines_restated states fit ([] ∷ []) counts legal = ap (λ (l : List ℕ). lines_of (l ++ [])) (line_of_no_kind states counts [] refl)
lines_restated states fit ((byte ∷ bytes) ∷ []) counts legal =
    let part : List ℕ = byte ∷ bytes in
    let alone : lines_of_parts (part ∷ []) ≡ part ∷ [] = one_line part refl in
    let good : is_legal_line part ≡ true = (and_parts (is_legal_line part) true (sym (ap (list_all is_legal_line) alone) ∙ legal)).0 in
    let stays : strip_carriage_return part ≡ part = legal_stays part good in
    let nothing : return_of part ≡ [] = ap (λ (l : List ℕ). drop (length l) part) stays ∙ drop-length part in
    let line : List ℕ = restated_line states counts part in
    let is : restated_part states counts part ≡ line =
    ap (λ (l : List ℕ). restated_line states counts l ++ return_of part) stays ∙ ap (λ (l : List ℕ). line ++ l) nothing ∙ append-nil line in
    ap lines_of is ∙ last_line line (restated_line_legal states counts part fit good) (filled_line states counts part refl) ∙
    sym (ap (restated_lines states counts) alone)
lines_restated states fit (part ∷ next ∷ more) counts legal =
    let line : List ℕ = strip_carriage_return part in
    let parts = and_parts (is_legal_line line) (list_all is_legal_line (lines_of_parts (next ∷ more))) legal in
    let behind : Counts = after (kind_of line) counts in
    line_and_more (restated_line states counts line) (restated_parts states behind (next ∷ more)) part (restated_line_legal states counts line fit parts.0) (is_return part) ∙
    ap (λ (ls : List (List ℕ)). restated_line states counts line ∷ ls) (lines_restated states fit (next ∷ more) behind parts.1)
