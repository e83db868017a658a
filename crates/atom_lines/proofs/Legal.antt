-- Lines of an atom without a fault have words of legal bytes alone.
use Rattle.std.proofs.Common.{◌≡◌, ◌∙◌, refl, ap, ℕ, zero, suc, Bool, true, false, not, pos, if◌then◌else◌, codes, List, [], ◌∷◌, ◌++◌, length, drop, Result, Ok, true≢false}
use Rattle.std.specs.Prelude.{ℤ, nat_lt, nat_eq, is_none}
use Rattle.std.specs.List.{list_any}
use Rattle.std.specs.Option.{ok_or}
use Rattle.std.proofs.lemmas.Bool.{and_from}
use Rattle.petri_atom.specs.Expression.{Tree, number}
use Rattle.petri_atom.specs.Definition.{AtomDefinition, TransitionDefinition, UpdateDefinition}
use Rattle.petri_atom.specs.declared.state.TheConstants.{MAX_PLACES, MAX_VARIABLES, MAX_EXPORTS}
use Rattle.petri_atom.specs.declared.parts.TheConstants.{MAX_PORTS, MAX_TRANSITIONS, MAX_UPDATES}
use Rattle.plant_words.specs.Lines.{is_legal_line}
use Rattle.plant_words.specs.Numbers.{int_in}
use Rattle.plant_words.specs.Reading.{◌>>=◌, check, first_name, first_keyword, at_end, leads}
use Rattle.plant_words.specs.declared.line_fault.LineFault.{LineFault}
use Rattle.plant_words.specs.declared.line_fault.LineFault.TheVariants.{NotAscii, BadNumber, Twice, UnknownName, Shape, Limit}
use Rattle.plant_words.proofs.Legal.{are_legal, word_is_legal, step_is_legal, name_is_legal, keyword_is_legal, leading_is_legal, end_is_legal, read_is_legal}
use Rattle.plant_words.proofs.Steps.{adds_named, led_on, passed, same_end, either_way}
use Rattle.atom_lines.proofs.SoundParts.{with_updates, with_guard, with_targets, with_sources}
use Rattle.atom_lines.specs.Lookup.{place_number, variable_number, port_number}
use Rattle.atom_lines.specs.Reading.{first_number, goes_on, mark_in, value_in}
use Rattle.atom_lines.specs.Rows.{place_row, variable_row, port_row, export_in, exports_in, with_place, with_variable, with_port}
use Rattle.atom_lines.specs.Transitions.{ends_places, port_in, place_in, places_in, places_after, expression_on, guard_in, update_in, updates_from, updates_in, transition_in, transition_row, with_transition}
use Rattle.atom_lines.proofs.UpdateSteps.{update_read}

-- ---- words of one part

number_is_legal : (words : List (List ℕ)) (n : ℤ) → first_number words ≡ Ok n → are_legal (drop 1 words) ≡ true → are_legal words ≡ true
number_is_legal words n told rest = step_is_legal words (λ word. ok_or (int_in word) BadNumber) n told rest

going_is_legal : (keyword : List ℕ) (words : List (List ℕ)) (more : Bool) → goes_on keyword words ≡ Ok more → are_legal (drop 1 words) ≡ true → are_legal words ≡ true
going_is_legal keyword [] more told rest = refl
going_is_legal keyword (word ∷ words) more told rest =
    let said = led_on (first_keyword keyword (word ∷ words)) (λ _. Ok true) more told in
    keyword_is_legal keyword (word ∷ words) said.0 said.1 rest

-- a line that doesn't go on has ended
ended : (keyword : List ℕ) (words : List (List ℕ)) → goes_on keyword words ≡ Ok false → words ≡ []
ended keyword [] told = refl
ended keyword (word ∷ words) told =
    let said = led_on (first_keyword keyword (word ∷ words)) (λ _. Ok true) false told in
    absurd (true≢false (same_end true false said.2))

mark_is_legal : (words : List (List ℕ)) (marked : Bool) → mark_in words ≡ Ok marked → are_legal words ≡ true
mark_is_legal words marked told =
    let goes = led_on (goes_on (codes "init") words) (λ m. at_end (drop 1 words) >>= (λ _. Ok m)) marked told in
    let end = led_on (at_end (drop 1 words)) (λ _. Ok goes.0) marked goes.2 in
    going_is_legal (codes "init") words goes.0 goes.1 (end_is_legal (drop 1 words) end.0 end.1)

value_is_legal : (words : List (List ℕ)) (value : ℤ) → value_in words ≡ Ok value → are_legal words ≡ true
value_is_legal words value told =
    let first = led_on (first_number words) (λ n. at_end (drop 1 words) >>= (λ _. Ok n)) value told in
    let end = led_on (at_end (drop 1 words)) (λ _. Ok first.0) value first.2 in
    number_is_legal words first.0 first.1 (end_is_legal (drop 1 words) end.0 end.1)

-- ---- lists

export_is_legal : (a : AtomDefinition) (before word : List ℕ) (k : ℕ) → export_in a before word ≡ Ok k → is_legal_line word ≡ true
export_is_legal a before word k told =
    let after : ℕ → Result ℕ LineFault = λ n. check (not (list_any (λ j. nat_eq j n) before)) Twice >>= (λ _. Ok n) in
    let named : Unit {0} → Result ℕ LineFault = λ _. ok_or (variable_number a word) UnknownName >>= after in
    let room = led_on (check (nat_lt (length before) MAX_EXPORTS) Limit) (λ _. check (is_legal_line word) NotAscii >>= named) k told in
    let legal = led_on (check (is_legal_line word) NotAscii) named k room.2 in
    passed (is_legal_line word) NotAscii legal.0 legal.1

exports_are_legal : (a : AtomDefinition) (before : List ℕ) (words : List (List ℕ)) (ks : List ℕ) → exports_in a before words ≡ Ok ks → are_legal words ≡ true
exports_are_legal a before [] ks told = refl
exports_are_legal a before (word ∷ words) ks told =
    let first = led_on (export_in a before word) (λ k. exports_in a (before ++ k ∷ []) words) ks told in
    and_from (is_legal_line word) (are_legal words) (export_is_legal a before word first.0 first.1) (exports_are_legal a (before ++ first.0 ∷ []) words ks first.2)

place_is_legal : (a : AtomDefinition) (before word : List ℕ) (k : ℕ) → place_in a before word ≡ Ok k → is_legal_line word ≡ true
place_is_legal a before word k told =
    let after : ℕ → Result ℕ LineFault = λ n. check (not (list_any (λ j. nat_eq j n) before)) Twice >>= (λ _. Ok n) in
    let legal = led_on (check (is_legal_line word) NotAscii) (λ _. ok_or (place_number a word) UnknownName >>= after) k told in
    passed (is_legal_line word) NotAscii legal.0 legal.1

-- the words that are left after a list, or after an expression
abbrev left : {A : Type 0} → A × List (List ℕ) → Bool
left read = are_legal read.1

places_are_legal : (a : AtomDefinition) (before : List ℕ) (words : List (List ℕ)) (listed : List ℕ × List (List ℕ)) → left listed ≡ true →
    places_in a before words ≡ Ok listed → are_legal words ≡ true
places_are_legal a before [] listed legal told = refl
places_are_legal a before (word ∷ words) listed legal told =
    either_way (ends_places (word ∷ words)) (Ok (before, word ∷ words)) (place_in a before word >>= (λ place. places_in a (before ++ place ∷ []) words)) listed (are_legal (word ∷ words) ≡ true)
    (λ here. ap (λ (l : List ℕ × List (List ℕ)). left l) (same_end (before, word ∷ words) listed here) ∙ legal)
    (λ later. let first = led_on (place_in a before word) (λ place. places_in a (before ++ place ∷ []) words) listed later in
    and_from (is_legal_line word) (are_legal words) (place_is_legal a before word first.0 first.1) (places_are_legal a (before ++ first.0 ∷ []) words listed legal first.2))
    told

places_after_are_legal : (keyword : List ℕ) (a : AtomDefinition) (words : List (List ℕ)) (listed : List ℕ × List (List ℕ)) →
    places_after keyword a words ≡ Ok listed → left listed ≡ true → are_legal words ≡ true
places_after_are_legal keyword a words listed told legal =
    let last : List ℕ × List (List ℕ) → Result (List ℕ × List (List ℕ)) LineFault = λ l. check (nat_lt 0 (length l.0)) Shape >>= (λ _. Ok l) in
    let begun = led_on (first_keyword keyword words) (λ _. places_in a [] (drop 1 words) >>= last) listed told in
    let read = led_on (places_in a [] (drop 1 words)) last listed begun.2 in
    let filled = led_on (check (nat_lt 0 (length read.0.0)) Shape) (λ _. Ok read.0) listed read.2 in
    let same : read.0 ≡ listed = same_end read.0 listed filled.2 in
    keyword_is_legal keyword words begun.0 begun.1
    (places_are_legal a [] (drop 1 words) read.0 (ap (λ (l : List ℕ × List (List ℕ)). left l) same ∙ legal) read.1)

-- ---- guard and updates

guard_is_legal : (a : AtomDefinition) (words : List (List ℕ)) (read : Tree ℕ × List (List ℕ)) → guard_in a words ≡ Ok read → left read ≡ true → are_legal words ≡ true
guard_is_legal a words read told legal = by_test (leads (codes "when") words) refl told
  where
    by_test : (test : Bool) → leads (codes "when") words ≡ test → (if test then expression_on a (drop 1 words) else Ok (number (pos 1), words)) ≡ Ok read → are_legal words ≡ true
    by_test true is said = leading_is_legal (codes "when") words refl is (read_is_legal (variable_number a) (drop 1 words) read said legal)
    by_test false is said = ap (λ (r : Tree ℕ × List (List ℕ)). left r) (same_end (number (pos 1), words) read said) ∙ legal

update_is_legal : (a : AtomDefinition) (words : List (List ℕ)) (read : UpdateDefinition × List (List ℕ)) → update_in a words ≡ Ok read → left read ≡ true → are_legal words ≡ true
update_is_legal a words read told legal =
    let update = update_read a words read told in
    word_is_legal words update.word update.worded
    (keyword_is_legal (codes ":=") (drop 1 words) update.assigns update.assigned
    (read_is_legal (variable_number a) (drop 1 (drop 1 words)) update.value update.valued (ap (λ (r : UpdateDefinition × List (List ℕ)). left r) update.is ∙ legal)))

-- where the line doesn't go on, no words are left
updates_are_legal : (a : AtomDefinition) (room : ℕ) (before : List UpdateDefinition) (more : Bool) (words : List (List ℕ)) (us : List UpdateDefinition) →
    (more ≡ false → are_legal words ≡ true) → updates_from a room before more words ≡ Ok us → are_legal words ≡ true
unfolding updates_from
updates_are_legal a zero before false words us none told = none refl
updates_are_legal a (suc room) before false words us none told = none refl
updates_are_legal a zero before true words us none told = absurd (cc)
updates_are_legal a (suc room) before true words us none told =
    let behind : UpdateDefinition × List (List ℕ) → Result (List UpdateDefinition) LineFault = λ u. goes_on (codes ";") u.1 >>= (λ more. updates_from a room (before ++ u.0 ∷ []) more (drop 1 u.1)) in
    let first = led_on (update_in a words) behind us told in
    let next = led_on (goes_on (codes ";") first.0.1) (λ more. updates_from a room (before ++ first.0.0 ∷ []) more (drop 1 first.0.1)) us first.2 in
    let later = updates_are_legal a room (before ++ first.0.0 ∷ []) next.0 (drop 1 first.0.1) us
    (λ stops. ap (λ (w : List (List ℕ)). are_legal (drop 1 w)) (ended (codes ";") first.0.1 (next.1 ∙ ap Ok stops))) next.2 in
    update_is_legal a words first.0 first.1 (going_is_legal (codes ";") first.0.1 next.0 next.1 later)

update_list_is_legal : (a : AtomDefinition) (words : List (List ℕ)) (us : List UpdateDefinition) → updates_in a words ≡ Ok us → are_legal words ≡ true
update_list_is_legal a words us told =
    let more = led_on (goes_on (codes "do") words) (λ m. updates_from a MAX_UPDATES [] m (drop 1 words)) us told in
    going_is_legal (codes "do") words more.0 more.1
    (updates_are_legal a MAX_UPDATES [] more.0 (drop 1 words) us (λ stops. ap (λ (w : List (List ℕ)). are_legal (drop 1 w)) (ended (codes "do") words (more.1 ∙ ap Ok stops))) more.2)

transition_is_legal : (a : AtomDefinition) (words : List (List ℕ)) (t : TransitionDefinition) → transition_in a words ≡ Ok t → are_legal words ≡ true
transition_is_legal a words t told =
    let port = led_on (port_in a words) (with_sources a words) t told in
    let sources = led_on (places_after (codes "from") a (drop 1 words)) (with_targets a port.0) t port.2 in
    let targets = led_on (places_after (codes "to") a sources.0.1) (with_guard a port.0 sources.0.0) t sources.2 in
    let guard = led_on (guard_in a targets.0.1) (with_updates a port.0 sources.0.0 targets.0.0) t targets.2 in
    let updates = led_on (updates_in a guard.0.1) (λ us. Ok (record { port = port.0; sources = sources.0.0; targets = targets.0.0; guard = guard.0.0; updates = us })) t guard.2 in
    step_is_legal words (λ w. ok_or (port_number a w) UnknownName) port.0 port.1
    (places_after_are_legal (codes "from") a (drop 1 words) sources.0 sources.1
    (places_after_are_legal (codes "to") a sources.0.1 targets.0 targets.1
    (guard_is_legal a targets.0.1 guard.0 guard.1 (update_list_is_legal a guard.0.1 updates.0 updates.1))))

-- ---- lines

pub place_row_is_legal : (words : List (List ℕ)) (a grown : AtomDefinition) → place_row words a ≡ Ok grown → are_legal words ≡ true
place_row_is_legal words a grown told =
    let line = adds_named (nat_lt (length a.places) MAX_PLACES) Limit Twice (first_name words) (λ name. is_none (place_number a name)) (mark_in (drop 1 words)) (λ name marked. Ok (with_place a (record { name = name; marked = marked }))) grown told in
    name_is_legal words line.name line.named (mark_is_legal (drop 1 words) line.value line.valued)

pub variable_row_is_legal : (words : List (List ℕ)) (a grown : AtomDefinition) → variable_row words a ≡ Ok grown → are_legal words ≡ true
variable_row_is_legal words a grown told =
    let line = adds_named (nat_lt (length a.variables) MAX_VARIABLES) Limit Twice (first_name words) (λ name. is_none (variable_number a name)) (value_in (drop 1 words)) (λ name first. Ok (with_variable a (record { name = name; first = first }))) grown told in
    name_is_legal words line.name line.named (value_is_legal (drop 1 words) line.value line.valued)

pub port_row_is_legal : (words : List (List ℕ)) (a grown : AtomDefinition) → port_row words a ≡ Ok grown → are_legal words ≡ true
port_row_is_legal words a grown told =
    let line = adds_named (nat_lt (length a.ports) MAX_PORTS) Limit Twice (first_name words) (λ name. is_none (port_number a name)) (exports_in a [] (drop 1 words)) (λ name exports. Ok (with_port a (record { name = name; exports = exports }))) grown told in
    name_is_legal words line.name line.named (exports_are_legal a [] (drop 1 words) line.value line.valued)

pub transition_row_is_legal : (words : List (List ℕ)) (a grown : AtomDefinition) → transition_row words a ≡ Ok grown → are_legal words ≡ true
transition_row_is_legal words a grown told =
    let room = led_on (check (nat_lt (length a.transitions) MAX_TRANSITIONS) Limit) (λ room. transition_in a words >>= (λ t. Ok (with_transition a t))) grown told in
    let t = led_on (transition_in a words) (λ t. Ok (with_transition a t)) grown room.2 in
    transition_is_legal a words t.0 t.1
