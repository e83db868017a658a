-- A restated line has bytes alone that may stand in a text, if the line has; and a byte, if the line has one.
use Rattle.std.proofs.Common.{◌≡◌, ◌∙◌, refl, sym, ap, subst, ℕ, zero, suc, ℤ, ◌+◌, ◌-◌, ◌<◌, arith, Bool, true, false, ◌&&◌, if◌then◌else◌, List, [], ◌∷◌, ◌++◌, length, take, drop, codes, Option, Some, None}
use Rattle.std.specs.Prelude.{slice_get}
use Rattle.std.specs.Fmt.{signed_decimal}
use Rattle.std.specs.List.{list_all, prefix_len, position_or_len}
use Rattle.std.specs.Option.{option_map_or}
use Rattle.std.proofs.lemmas.Bool.{and_parts, and_from}
use Rattle.std.proofs.lemmas.List.{take-append-drop}
use Rattle.std.proofs.lemmas.List.Folds.{list_all-append}
use Rattle.petri_atom.specs.Local.{Local, has}
use Rattle.plant_words.specs.Lines.{is_legal_byte, is_legal_line}
use Rattle.plant_words.specs.Words.{is_blank}
use Rattle.plant_words.specs.declared.line_kind.AtomPart.{AtomPart}
use Rattle.plant_words.specs.declared.line_kind.AtomPart.TheVariants.{Place, Variable, Port, Transition}
use Rattle.plant_words.specs.declared.line_kind.LineKind.{LineKind}
use Rattle.plant_words.specs.declared.line_kind.LineKind.TheVariants.{Atom, Connector, OfAtom, OfConnector, Rule}
use Rattle.read_back.specs.Expressions.{is_in_range}
use Rattle.restated_text.specs.Counts.{kind_of}
use Rattle.restated_text.specs.Cuts.{blanks_before, from_word, word_at, behind_word, behind_name, up_to_name}
use Rattle.restated_text.specs.Lines.{says_marked, unmarked_line, marked_line, place_line, says_value, valued_line, variable_line}
use Rattle.restated_text.specs.Text.{part_line, line_in_state, latest_state, restated_line}
use Rattle.restated_text.specs.Plants.{has_ranged_values}
use Rattle.restated_text.specs.declared.counts.Counts.{Counts}
use Rattle.restated_text.proofs.LineWords.{value_is_legal}

-- ---- parts of lists

parts_pass : {X : Type 0} (p : X → Bool) (n : ℕ) (xs : List X) → list_all p xs ≡ true → (list_all p (take n xs) && list_all p (drop n xs)) ≡ true
parts_pass p n xs all = sym (list_all-append p (take n xs) (drop n xs)) ∙ ap (list_all p) (take-append-drop n xs) ∙ all

taken_pass : {X : Type 0} (p : X → Bool) (n : ℕ) (xs : List X) → list_all p xs ≡ true → list_all p (take n xs) ≡ true
taken_pass p n xs all = (and_parts (list_all p (take n xs)) (list_all p (drop n xs)) (parts_pass p n xs all)).0

dropped_pass : {X : Type 0} (p : X → Bool) (n : ℕ) (xs : List X) → list_all p xs ≡ true → list_all p (drop n xs) ≡ true
dropped_pass p n xs all = (and_parts (list_all p (take n xs)) (list_all p (drop n xs)) (parts_pass p n xs all)).1

-- one after another
pub both_pass : {X : Type 0} (p : X → Bool) (xs ys : List X) → list_all p xs ≡ true → list_all p ys ≡ true → list_all p (xs ++ ys) ≡ true
both_pass p xs ys first second = list_all-append p xs ys ∙ and_from (list_all p xs) (list_all p ys) first second

-- an element of the list
pub got_passes : {X : Type 0} (p : X → Bool) (xs : List X) (k : ℕ) (x : X) → list_all p xs ≡ true → slice_get xs k ≡ Some x → p x ≡ true
got_passes p [] k x all is = absurd (cc)
got_passes p (y ∷ ys) zero x all is =
    let same : y ≡ x = cc in
    subst (λ z. p z ≡ true) same (and_parts (p y) (list_all p ys) all).0
got_passes p (y ∷ ys) (suc k) x all is = got_passes p ys k x (and_parts (p y) (list_all p ys) all).1 is

-- ---- lines

module _ (line : List ℕ) (legal : is_legal_line line ≡ true) where
  from_word_legal : is_legal_line (from_word line) ≡ true
  from_word_legal = dropped_pass is_legal_byte (prefix_len is_blank line) line legal

  blanks_legal : is_legal_line (blanks_before line) ≡ true
  blanks_legal = taken_pass is_legal_byte (prefix_len is_blank line) line legal

  behind_legal : is_legal_line (behind_word line) ≡ true
  behind_legal = dropped_pass is_legal_byte (position_or_len is_blank (from_word line)) (from_word line) from_word_legal

  front_legal : is_legal_line (up_to_name line) ≡ true
  front_legal = taken_pass is_legal_byte (length line - length (behind_name line)) line legal

name_legal : (line : List ℕ) → is_legal_line line ≡ true → is_legal_line (behind_name line) ≡ true
name_legal line legal = behind_legal (behind_word line) (behind_legal line legal)

place_line_legal : (marked : Bool) (line : List ℕ) → is_legal_line line ≡ true → is_legal_line (place_line marked line) ≡ true
place_line_legal marked line legal = each (says_marked line) marked
  where
    each : (said marked : Bool) → is_legal_line (if said then (if marked then line else unmarked_line line) else (if marked then marked_line line else line)) ≡ true
    each true true = legal
    each true false = both_pass is_legal_byte (up_to_name line) (behind_word (behind_name line)) (front_legal line legal) (behind_legal (behind_name line) (name_legal line legal))
    each false true =
        both_pass is_legal_byte (up_to_name line) (codes " init" ++ behind_name line) (front_legal line legal)
        (both_pass is_legal_byte (codes " init") (behind_name line) refl (name_legal line legal))
    each false false = legal

variable_line_legal : (value : ℤ) (line : List ℕ) → is_in_range value ≡ true → is_legal_line line ≡ true → is_legal_line (variable_line value line) ≡ true
variable_line_legal value line fits legal = each (says_value value (word_at (behind_name line)))
  where
    rest : is_legal_line (behind_word (behind_name line)) ≡ true
    rest = behind_legal (behind_name line) (name_legal line legal)

    number : is_legal_line (signed_decimal value ++ behind_word (behind_name line)) ≡ true
    number = both_pass is_legal_byte (signed_decimal value) (behind_word (behind_name line)) (value_is_legal value fits) rest

    each : (said : Bool) → is_legal_line (if said then line else valued_line value line) ≡ true
    each true = legal
    each false =
        both_pass is_legal_byte (up_to_name line) (blanks_before (behind_name line) ++ (signed_decimal value ++ behind_word (behind_name line))) (front_legal line legal)
        (both_pass is_legal_byte (blanks_before (behind_name line)) (signed_decimal value ++ behind_word (behind_name line)) (blanks_legal (behind_name line) (name_legal line legal)) number)

part_line_legal : (part : AtomPart) (state : Local) (counts : Counts) (line : List ℕ) → has_ranged_values state ≡ true → is_legal_line line ≡ true →
    is_legal_line (part_line part state counts line) ≡ true
part_line_legal Place state counts line fits legal = place_line_legal (has state.marking counts.places) line legal
part_line_legal Variable state counts line fits legal = by (slice_get state.values counts.variables) refl
  where
    by : (o : Option ℤ) → slice_get state.values counts.variables ≡ o → is_legal_line (option_map_or (λ value. variable_line value line) o line) ≡ true
    by None is = legal
    by (Some value) is = variable_line_legal value line (got_passes is_in_range state.values counts.variables value fits is) legal
part_line_legal Port state counts line fits legal = legal
part_line_legal Transition state counts line fits legal = legal

state_line_legal : (kind : Option LineKind) (state : Local) (counts : Counts) (line : List ℕ) → has_ranged_values state ≡ true → is_legal_line line ≡ true →
    is_legal_line (line_in_state kind state counts line) ≡ true
state_line_legal None state counts line fits legal = legal
state_line_legal (Some Atom) state counts line fits legal = legal
state_line_legal (Some Connector) state counts line fits legal = legal
state_line_legal (Some (OfAtom part)) state counts line fits legal = part_line_legal part state counts line fits legal
state_line_legal (Some (OfConnector part)) state counts line fits legal = legal
state_line_legal (Some (Rule kind)) state counts line fits legal = legal

-- a restated line of legal bytes has such bytes
pub restated_line_legal : (states : List Local) (counts : Counts) (line : List ℕ) → list_all has_ranged_values states ≡ true → is_legal_line line ≡ true →
    is_legal_line (restated_line states counts line) ≡ true
restated_line_legal states counts line fit legal = by (latest_state states counts) refl
  where
    by : (o : Option Local) → latest_state states counts ≡ o → is_legal_line (option_map_or (λ state. line_in_state (kind_of line) state counts line) o line) ≡ true
    by None is = legal
    by (Some state) is = state_line_legal (kind_of line) state counts line (got_passes has_ranged_values states (counts.atoms - 1) state fit is) legal
