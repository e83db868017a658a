-- A line of a part of an atom, restated: it adds the same part in the atom with its state as the first one.
use Rattle.std.proofs.Common.{◌≡◌, ◌∙◌, refl, sym, ap, subst, ℕ, zero, suc, ℤ, ◌+◌, arith, Bool, true, false, if◌then◌else◌, List, [], ◌∷◌, ◌++◌, length, drop, codes, Option, Some, None, Result, Ok, Err}
use Rattle.std.specs.Prelude.{nat_lt, is_none, slice_get}
use Rattle.std.specs.Option.{ok_or, option_map_or}
use Rattle.std.proofs.lemmas.List.{length-append}
use Rattle.std.proofs.lemmas.Slice.Eq.{bytes_eq-Decides}
use Rattle.petri_atom.specs.Definition.{AtomDefinition, TransitionDefinition}
use Rattle.petri_atom.specs.Local.{Local, has}
use Rattle.petri_atom.specs.Name.{is_same_text}
use Rattle.petri_atom.specs.declared.parts.Place.{Place}
use Rattle.petri_atom.specs.declared.parts.Variable.{Variable}
use Rattle.petri_atom.specs.declared.state.TheConstants.{MAX_PLACES, MAX_VARIABLES}
use Rattle.petri_atom.specs.declared.parts.TheConstants.{MAX_PORTS, MAX_TRANSITIONS}
use Rattle.plant_words.specs.Lines.{is_legal_line}
use Rattle.plant_words.specs.Numbers.{int_in}
use Rattle.plant_words.specs.Words.{words_of}
use Rattle.plant_words.specs.Reading.{◌>>=◌, check, first_word, first_name, first_keyword, at_end}
use Rattle.plant_words.specs.declared.line_fault.LineFault.{LineFault}
use Rattle.plant_words.specs.declared.line_fault.LineFault.TheVariants.{NotAscii, Twice, Shape, BadNumber, Limit}
use Rattle.plant_words.specs.declared.line_kind.AtomPart.{AtomPart}
use Rattle.plant_words.specs.declared.line_kind.AtomPart.TheVariants as part
use Rattle.plant_words.proofs.Steps.{led_on, passed, was_there, same_end, adds_named, AddsNamed}
use Rattle.atom_lines.specs.Lookup.{place_number, variable_number, port_number}
use Rattle.atom_lines.specs.Reading.{goes_on, first_number, mark_in, value_in}
use Rattle.atom_lines.specs.Rows.{place_row, variable_row, port_row, exports_in, with_place, with_variable, with_port}
use Rattle.atom_lines.specs.Transitions.{transition_row, transition_in, with_transition}
use Rattle.plant_text.specs.Rows.{atom_part_row}
use Rattle.read_back.specs.Expressions.{is_in_range}
use Rattle.restated_text.specs.Counts.{after_part}
use Rattle.restated_text.specs.Lines.{place_line, variable_line}
use Rattle.restated_text.specs.Plants.{each_numbered, place_with, first_valued, variable_with, atom_in_state, has_ranged_values}
use Rattle.restated_text.specs.Text.{part_line}
use Rattle.restated_text.specs.declared.counts.Counts.{Counts}
use Rattle.restated_text.proofs.LegalLines.{got_passes}
use Rattle.restated_text.proofs.LineWords.{mark_words, place_line_words, SaysValue, ValueWords, variable_line_words}
use Rattle.restated_text.proofs.Lookups.{same_places, same_variables}
use Rattle.restated_text.proofs.Numbered.{length_numbered, numbered_and_one}
use Rattle.restated_text.proofs.Readings.{exports_alike, transition_alike}

-- ---- steps

-- a step before others, without a fault
pub go_on : {A B F : Type 0} (r : Result A F) (next : A → Result B F) (x : A) (y : B) → r ≡ Ok x → next x ≡ Ok y → (r >>= next) ≡ Ok y
go_on r next x y is leads = ap (λ q. q >>= next) is ∙ leads

-- a line that adds a part with a new name, from its steps
pub named_added : {V Y F : Type 0} (room : Bool) (limit twice : F) (name_read : Result (List ℕ) F) (is_new : List ℕ → Bool) (value_read : Result V F) (made : List ℕ → V → Result Y F) (y : Y)
    (name : List ℕ) (value : V) → room ≡ true → name_read ≡ Ok name → is_new name ≡ true → value_read ≡ Ok value → made name value ≡ Ok y →
    (check room limit >>= λ _. name_read >>= λ name. check (is_new name) twice >>= λ _. value_read >>= made name) ≡ Ok y
named_added {V = V} {Y = Y} {F = F} room limit twice name_read is_new value_read made y name value roomy named new valued gives =
    let valued_as : List ℕ → Unit {0} → Result Y F = λ name _. value_read >>= made name in
    let tested : List ℕ → Result Y F = λ name. check (is_new name) twice >>= valued_as name in
    go_on (check room limit) (λ _. name_read >>= tested) tt y (ap (λ b. check b limit) roomy)
    (go_on name_read tested name y named
    (go_on (check (is_new name) twice) (valued_as name) tt y (ap (λ b. check b twice) new)
    (go_on value_read (made name) value y valued gives)))

-- the first word, which is there
head_there : (words : List (List ℕ)) (name : List ℕ) → first_name words ≡ Ok name → (word : List ℕ) × (rest : List (List ℕ)) × (words ≡ word ∷ rest)
head_there [] name told = absurd (cc)
head_there (word ∷ rest) name told = (word, rest, refl)

-- ---- what stands behind a name

-- the first word is the one that stands there, and is legal
legal_head : (word w : List ℕ) (rest : List (List ℕ)) → first_word (word ∷ rest) ≡ Ok w → (is_legal_line word ≡ true) × (w ≡ word)
legal_head word w rest taken = by (is_legal_line word) refl taken
  where
    by : (b : Bool) → is_legal_line word ≡ b → ◌≡◌ {A = Result (List ℕ) LineFault} (if b then Ok word else Err NotAscii) (Ok w) → (is_legal_line word ≡ true) × (w ≡ word)
    by true is taken = (is, cc)
    by false is taken = absurd (cc)

keyword_is : (keyword word : List ℕ) (rest : List (List ℕ)) (u : Unit {0}) → first_keyword keyword (word ∷ rest) ≡ Ok u → word ≡ keyword
keyword_is keyword word rest u told =
    let first = led_on (first_word (word ∷ rest)) (λ w. check (is_same_text w keyword) Shape) u told in
    subst (λ w. w ≡ keyword) (legal_head word first.0 rest first.1).1 ((bytes_eq-Decides first.0 keyword).0 (passed (is_same_text first.0 keyword) Shape u first.2))

ends : (words : List (List ℕ)) (u : Unit {0}) → at_end words ≡ Ok u → words ≡ []
ends [] u told = refl
ends (word ∷ words) u told = absurd (cc)

-- `init`, or nothing
mark_is : (words : List (List ℕ)) (marked : Bool) → mark_in words ≡ Ok marked → words ≡ mark_words marked
mark_is [] marked told =
    let same : false ≡ marked = cc in
    ap mark_words same
mark_is (word ∷ rest) marked told =
    let more : Bool → Result Bool LineFault = λ m. at_end rest >>= λ _. Ok m in
    let goes = led_on (goes_on (codes "init") (word ∷ rest)) more marked told in
    let keyword = led_on (first_keyword (codes "init") (word ∷ rest)) (λ _. Ok true) goes.0 goes.1 in
    let end = led_on (at_end rest) (λ _. Ok goes.0) marked goes.2 in
    let same : true ≡ marked = same_end true goes.0 keyword.2 ∙ same_end goes.0 marked end.2 in
    ap (λ w. w ∷ rest) (keyword_is (codes "init") word rest keyword.0 keyword.1) ∙ ap (λ ws. codes "init" ∷ ws) (ends rest end.0 end.1) ∙ ap mark_words same

mark_read : (marked : Bool) → mark_in (mark_words marked) ≡ Ok marked
mark_read true = refl
mark_read false = refl

-- a number, and no more
pub record OneNumber (words : List (List ℕ)) (value : ℤ) : Type 0 where
  pub word : List ℕ
  pub are : words ≡ word ∷ []
  pub says : SaysValue value word

number_is : (words : List (List ℕ)) (value : ℤ) → value_in words ≡ Ok value → OneNumber words value
number_is [] value told = absurd (cc)
number_is (word ∷ rest) value told =
    let more : ℤ → Result ℤ LineFault = λ first. at_end rest >>= λ _. Ok first in
    let first = led_on (first_number (word ∷ rest)) more value told in
    let taken = led_on (first_word (word ∷ rest)) (λ w. ok_or (int_in w) BadNumber) first.0 first.1 in
    let end = led_on (at_end rest) (λ _. Ok first.0) value first.2 in
    let same : first.0 ≡ value = same_end first.0 value end.2 in
    let head = legal_head word taken.0 rest taken.1 in
    record {
      word = word;
      are = ap (λ ws. word ∷ ws) (ends rest end.0 end.1);
      says = record { legal = head.0; read = ap int_in (sym head.1) ∙ was_there (int_in taken.0) BadNumber first.0 taken.2 ∙ ap (λ z. Some z) same };
    }

number_read : (word : List ℕ) (value : ℤ) → SaysValue value word → value_in (word ∷ []) ≡ Ok value
number_read word value says =
    go_on (first_number (word ∷ [])) (λ first. at_end [] >>= λ _. Ok first) value value
    (go_on (first_word (word ∷ [])) (λ w. ok_or (int_in w) BadNumber) word value (ap (λ b. if b then Ok word else Err NotAscii) says.legal) (ap (λ o. ok_or o BadNumber) says.read)) refl

-- ---- the rows

-- the words of the restated line of a part, and what they add to the atom in its state
pub record PartRestated (part : AtomPart) (state : Local) (keyword : List ℕ) (words : List (List ℕ)) (a changed : AtomDefinition) : Type 0 where
  pub more : List (List ℕ)
  pub are : words ≡ keyword ∷ more
  pub adds : atom_part_row part more (atom_in_state a state) ≡ Ok (atom_in_state changed state)

-- the counts are those of the atom
pub record Counted (counts : Counts) (a : AtomDefinition) : Type 0 where
  pub places : counts.places ≡ length a.places
  pub variables : counts.variables ≡ length a.variables

module _ (line keyword : List ℕ) (words : List (List ℕ)) (are : words_of line ≡ keyword ∷ words) (a changed : AtomDefinition) (s : Local) (counts : Counts) (counted : Counted counts a) where
  -- a place
  place_with_mark : (name : List ℕ) (said : Bool) → atom_in_state (with_place a (record { name = name; marked = said })) s ≡ with_place (atom_in_state a s) (record { name = name; marked = has s.marking counts.places })
  place_with_mark name said =
      let number : 0 + length a.places ≡ counts.places = omega (arith, counted.places) in
      ap (λ (places : List Place). record (atom_in_state a s) { places = places })
      (numbered_and_one (place_with s.marking) 0 a.places (record { name = name; marked = said }) ∙
      ap (λ (k : ℕ). each_numbered (place_with s.marking) 0 a.places ++ record { name = name; marked = has s.marking k } ∷ []) number)

  place_restated : place_row words a ≡ Ok changed → PartRestated part.Place s keyword (words_of (place_line (has s.marking counts.places) line)) a changed
  place_restated told =
      let added = adds_named (nat_lt (length a.places) MAX_PLACES) Limit Twice (first_name words) (λ name. is_none (place_number a name)) (mark_in (drop 1 words)) (λ name marked. Ok (with_place a (record { name = name; marked = marked }))) changed told in
      let head = head_there words added.name added.named in
      let marked = has s.marking counts.places in
      let behind : head.1 ≡ mark_words added.value = mark_is head.1 added.value (ap (λ ws. mark_in (drop 1 ws)) (sym head.2) ∙ added.valued) in
      let said : words_of line ≡ keyword ∷ head.0 ∷ mark_words added.value = are ∙ ap (λ ws. keyword ∷ ws) head.2 ∙ ap (λ ws. keyword ∷ head.0 ∷ ws) behind in
      let more : List (List ℕ) = head.0 ∷ mark_words marked in
      let named : first_name more ≡ Ok added.name = ap first_name (sym head.2) ∙ added.named in
      let new : is_none (place_number (atom_in_state a s) added.name) ≡ true = ap (λ (g : List ℕ → Option ℕ). is_none (g added.name)) (same_places a s) ∙ added.new in
      let room : nat_lt (length (atom_in_state a s).places) MAX_PLACES ≡ true = ap (λ (n : ℕ). nat_lt n MAX_PLACES) (length_numbered (place_with s.marking) 0 a.places) ∙ added.has_room in
      let same : with_place a (record { name = added.name; marked = added.value }) ≡ changed = same_end (with_place a (record { name = added.name; marked = added.value })) changed added.gives in
      record {
        more = more;
        are = place_line_words line keyword head.0 added.value marked said;
        adds = named_added (nat_lt (length (atom_in_state a s).places) MAX_PLACES) Limit Twice (first_name more) (λ name. is_none (place_number (atom_in_state a s) name)) (mark_in (drop 1 more))
            (λ name marked. Ok (with_place (atom_in_state a s) (record { name = name; marked = marked }))) (atom_in_state changed s) added.name marked room named new (mark_read marked)
            (ap (λ c. Ok c) (sym (place_with_mark added.name added.value) ∙ ap (λ c. atom_in_state c s) same));
      }

  -- a variable
  variable_with_value : (name : List ℕ) (first value : ℤ) → variable_with s.values counts.variables (record { name = name; first = first }) ≡ record { name = name; first = value } →
      atom_in_state (with_variable a (record { name = name; first = first })) s ≡ with_variable (atom_in_state a s) (record { name = name; first = value })
  variable_with_value name first value is =
      let number : 0 + length a.variables ≡ counts.variables = omega (arith, counted.variables) in
      ap (λ (variables : List Variable). record (atom_in_state a s) { variables = variables })
      (numbered_and_one (variable_with s.values) 0 a.variables (record { name = name; first = first }) ∙
      ap (λ (k : ℕ). each_numbered (variable_with s.values) 0 a.variables ++ variable_with s.values k (record { name = name; first = first }) ∷ []) number ∙
      ap (λ (v : Variable). each_numbered (variable_with s.values) 0 a.variables ++ v ∷ []) is)

  variable_restated : has_ranged_values s ≡ true → variable_row words a ≡ Ok changed →
      PartRestated part.Variable s keyword (words_of (part_line part.Variable s counts line)) a changed
  variable_restated fits told = by (slice_get s.values counts.variables) refl
    where
      added : AddsNamed (nat_lt (length a.variables) MAX_VARIABLES) Limit Twice (first_name words) (λ name. is_none (variable_number a name)) (value_in (drop 1 words)) (λ name first. Ok (with_variable a (record { name = name; first = first }))) changed
      added = adds_named (nat_lt (length a.variables) MAX_VARIABLES) Limit Twice (first_name words) (λ name. is_none (variable_number a name)) (value_in (drop 1 words)) (λ name first. Ok (with_variable a (record { name = name; first = first }))) changed told

      head : (word : List ℕ) × (rest : List (List ℕ)) × (words ≡ word ∷ rest)
      head = head_there words added.name added.named

      number : OneNumber head.1 added.value
      number = number_is head.1 added.value (ap (λ ws. value_in (drop 1 ws)) (sym head.2) ∙ added.valued)

      said : words_of line ≡ keyword ∷ head.0 ∷ number.word ∷ []
      said = are ∙ ap (λ ws. keyword ∷ ws) head.2 ∙ ap (λ ws. keyword ∷ head.0 ∷ ws) number.are

      -- with any word that says the value
      adds : (word : List ℕ) (value : ℤ) → SaysValue value word → variable_with s.values counts.variables (record { name = added.name; first = added.value }) ≡ record { name = added.name; first = value } →
          variable_row (head.0 ∷ word ∷ []) (atom_in_state a s) ≡ Ok (atom_in_state changed s)
      adds word value says is =
          let more : List (List ℕ) = head.0 ∷ word ∷ [] in
          let named : first_name more ≡ Ok added.name = ap first_name (sym head.2) ∙ added.named in
          let new : is_none (variable_number (atom_in_state a s) added.name) ≡ true = ap (λ (g : List ℕ → Option ℕ). is_none (g added.name)) (same_variables a s) ∙ added.new in
          let room : nat_lt (length (atom_in_state a s).variables) MAX_VARIABLES ≡ true = ap (λ (n : ℕ). nat_lt n MAX_VARIABLES) (length_numbered (variable_with s.values) 0 a.variables) ∙ added.has_room in
          let same : with_variable a (record { name = added.name; first = added.value }) ≡ changed = same_end (with_variable a (record { name = added.name; first = added.value })) changed added.gives in
          named_added (nat_lt (length (atom_in_state a s).variables) MAX_VARIABLES) Limit Twice (first_name more) (λ name. is_none (variable_number (atom_in_state a s) name)) (value_in (drop 1 more))
          (λ name first. Ok (with_variable (atom_in_state a s) (record { name = name; first = first }))) (atom_in_state changed s) added.name value room named new (number_read word value says)
          (ap (λ c. Ok c) (sym (variable_with_value added.name added.value value is) ∙ ap (λ c. atom_in_state c s) same))

      by : (o : Option ℤ) → slice_get s.values counts.variables ≡ o → PartRestated part.Variable s keyword (words_of (part_line part.Variable s counts line)) a changed
      by None none = record {
        more = head.0 ∷ number.word ∷ [];
        are = ap (λ (o : Option ℤ). words_of (option_map_or (λ value. variable_line value line) o line)) none ∙ said;
        adds = adds number.word added.value number.says (ap (λ (o : Option ℤ). option_map_or (first_valued (record { name = added.name; first = added.value })) o (record { name = added.name; first = added.value })) none);
      }
      by (Some value) some =
          let with = variable_line_words value line keyword head.0 number.word (got_passes is_in_range s.values counts.variables value fits some) said number.says.legal in
          record {
            more = head.0 ∷ with.word ∷ [];
            are = ap (λ (o : Option ℤ). words_of (option_map_or (λ value. variable_line value line) o line)) some ∙ with.are;
            adds = adds with.word value with.says (ap (λ (o : Option ℤ). option_map_or (first_valued (record { name = added.name; first = added.value })) o (record { name = added.name; first = added.value })) some);
          }

  -- a port
  port_restated : port_row words a ≡ Ok changed → port_row words (atom_in_state a s) ≡ Ok (atom_in_state changed s)
  port_restated told =
      let added = adds_named (nat_lt (length a.ports) MAX_PORTS) Limit Twice (first_name words) (λ name. is_none (port_number a name)) (exports_in a [] (drop 1 words)) (λ name exports. Ok (with_port a (record { name = name; exports = exports }))) changed told in
      let same : with_port a (record { name = added.name; exports = added.value }) ≡ changed = same_end (with_port a (record { name = added.name; exports = added.value })) changed added.gives in
      named_added (nat_lt (length a.ports) MAX_PORTS) Limit Twice (first_name words) (λ name. is_none (port_number a name)) (exports_in (atom_in_state a s) [] (drop 1 words))
      (λ name exports. Ok (with_port (atom_in_state a s) (record { name = name; exports = exports }))) (atom_in_state changed s) added.name added.value added.has_room added.named added.new
      (exports_alike a s [] (drop 1 words) ∙ added.valued) (ap (λ c. Ok (atom_in_state c s)) same)

  -- a transition
  transition_restated : transition_row words a ≡ Ok changed → transition_row words (atom_in_state a s) ≡ Ok (atom_in_state changed s)
  transition_restated told =
      let made : TransitionDefinition → Result AtomDefinition LineFault = λ transition. Ok (with_transition a transition) in
      let room = led_on (check (nat_lt (length a.transitions) MAX_TRANSITIONS) Limit) (λ _. transition_in a words >>= made) changed told in
      let transition = led_on (transition_in a words) made changed room.2 in
      let same : with_transition a transition.0 ≡ changed = same_end (with_transition a transition.0) changed transition.2 in
      go_on (check (nat_lt (length a.transitions) MAX_TRANSITIONS) Limit) (λ _. transition_in (atom_in_state a s) words >>= λ t. Ok (with_transition (atom_in_state a s) t)) room.0 (atom_in_state changed s) room.1
      (go_on (transition_in (atom_in_state a s) words) (λ t. Ok (with_transition (atom_in_state a s) t)) transition.0 (atom_in_state changed s) (transition_alike a s words ∙ transition.1)
      (ap (λ c. Ok (atom_in_state c s)) same))

  pub part_restated : (p : AtomPart) → has_ranged_values s ≡ true → atom_part_row p words a ≡ Ok changed → PartRestated p s keyword (words_of (part_line p s counts line)) a changed
  part_restated part.Place fits told = place_restated told
  part_restated part.Variable fits told = variable_restated fits told
  part_restated part.Port fits told = record { more = words; are = are; adds = port_restated told }
  part_restated part.Transition fits told = record { more = words; are = are; adds = transition_restated told }

-- ---- counts

-- the counts after the line are those of the atom that it came to
pub counted_after : (p : AtomPart) (words : List (List ℕ)) (a changed : AtomDefinition) (counts : Counts) → Counted counts a → atom_part_row p words a ≡ Ok changed → Counted (after_part p counts) changed
counted_after part.Place words a changed counts counted told =
    let added = adds_named (nat_lt (length a.places) MAX_PLACES) Limit Twice (first_name words) (λ name. is_none (place_number a name)) (mark_in (drop 1 words)) (λ name marked. Ok (with_place a (record { name = name; marked = marked }))) changed told in
    let place : Place = record { name = added.name; marked = added.value } in
    let more : length (a.places ++ place ∷ []) ≡ length a.places + 1 = length-append a.places (place ∷ []) in
    let one : counts.places + 1 ≡ length (a.places ++ place ∷ []) = omega (arith, counted.places, more) in
    subst (Counted (after_part part.Place counts)) (same_end (with_place a place) changed added.gives) (record { places = one; variables = counted.variables })
counted_after part.Variable words a changed counts counted told =
    let added = adds_named (nat_lt (length a.variables) MAX_VARIABLES) Limit Twice (first_name words) (λ name. is_none (variable_number a name)) (value_in (drop 1 words)) (λ name first. Ok (with_variable a (record { name = name; first = first }))) changed told in
    let variable : Variable = record { name = added.name; first = added.value } in
    let more : length (a.variables ++ variable ∷ []) ≡ length a.variables + 1 = length-append a.variables (variable ∷ []) in
    let one : counts.variables + 1 ≡ length (a.variables ++ variable ∷ []) = omega (arith, counted.variables, more) in
    subst (Counted (after_part part.Variable counts)) (same_end (with_variable a variable) changed added.gives) (record { places = counted.places; variables = one })
counted_after part.Port words a changed counts counted told =
    let added = adds_named (nat_lt (length a.ports) MAX_PORTS) Limit Twice (first_name words) (λ name. is_none (port_number a name)) (exports_in a [] (drop 1 words)) (λ name exports. Ok (with_port a (record { name = name; exports = exports }))) changed told in
    subst (Counted counts) (same_end (with_port a (record { name = added.name; exports = added.value })) changed added.gives) (record { places = counted.places; variables = counted.variables })
counted_after part.Transition words a changed counts counted told =
    let made : TransitionDefinition → Result AtomDefinition LineFault = λ transition. Ok (with_transition a transition) in
    let room = led_on (check (nat_lt (length a.transitions) MAX_TRANSITIONS) Limit) (λ _. transition_in a words >>= made) changed told in
    let transition = led_on (transition_in a words) made changed room.2 in
    subst (Counted counts) (same_end (with_transition a transition.0) changed transition.2) (record { places = counted.places; variables = counted.variables })
