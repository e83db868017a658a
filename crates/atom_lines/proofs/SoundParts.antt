-- What a line says of a port or of a transition is sound.
use Rattle.std.proofs.Common.{◌≡◌, ◌∙◌, refl, sym, ap, subst, ℕ, zero, suc, ◌+◌, ◌<◌, ◌≤◌, Bool, true, false, not, pos, if◌then◌else◌, codes, List, [], ◌∷◌, ◌++◌, length, drop, Result, Ok, Err, arith}
use Rattle.std.specs.Prelude.{nat_lt, nat_le, nat_eq}
use Rattle.std.specs.List.{list_all, list_any}
use Rattle.std.specs.Option.{ok_or}
use Rattle.std.proofs.lemmas.Bool.{and_from, ltb-true, lt-ltb, le-leb, not-true}
use Rattle.std.proofs.lemmas.List.{length-append}
use Rattle.std.proofs.lemmas.List.Folds.{list_all-append}
use Rattle.petri_atom.specs.Name.{is_same_text}
use Rattle.petri_atom.specs.Expression.{Tree, number, word_count, has_variables_below}
use Rattle.petri_atom.specs.Definition.{AtomDefinition, TransitionDefinition, UpdateDefinition, are_below, is_each_once, is_small_value, has_known_variables}
use Rattle.petri_atom.specs.declared.state.TheConstants.{MAX_EXPORTS}
use Rattle.petri_atom.specs.declared.parts.TheConstants.{MAX_UPDATES, MAX_WORDS}
use Rattle.plant_words.specs.Expressions.{expression_in}
use Rattle.plant_words.specs.declared.expression_fault.ExpressionFault.{ExpressionFault}
use Rattle.plant_words.proofs.ExpressionParts.{words_of_expression, variables_of_expression}
use Rattle.plant_words.specs.Lines.{is_legal_line}
use Rattle.plant_words.specs.declared.line_fault.LineFault.{LineFault}
use Rattle.plant_words.specs.declared.line_fault.LineFault.TheVariants.{NotAscii, Twice, UnknownName, Shape, Limit}
use Rattle.plant_words.specs.Reading.{◌>>=◌, check, first_word, first_keyword, leads, on_line}
use Rattle.atom_lines.specs.Reading.{goes_on}
use Rattle.atom_lines.specs.Lookup.{place_number, variable_number, port_number}
use Rattle.atom_lines.specs.Rows.{export_in, exports_in}
use Rattle.atom_lines.specs.Transitions.{ends_places, port_in, place_in, places_in, places_after, expression_on, guard_in, update_in, updates_from, updates_in, transition_in}
use Rattle.atom_lines.specs.Sound.{is_sound_port, is_sound_transition}
use Rattle.plant_words.proofs.Steps.{led_on, passed, was_there, same_end, either_way}
use Rattle.plant_words.proofs.Positions.{position-within}
use Rattle.plant_words.proofs.Once.{listed_once}
use Rattle.atom_lines.proofs.Bounds.{variables_below-all}
use Rattle.atom_lines.proofs.UpdateSteps.{update_read}

-- numbers below a bound, each once
pub record Listed (bound : ℕ) (ks : List ℕ) : Type 0 where
  pub once : is_each_once nat_eq ks ≡ true
  pub below : are_below bound ks ≡ true

none_listed : (bound : ℕ) → Listed bound []
none_listed bound = record { once = refl; below = refl }

-- one more that is not there yet
one_listed : (bound : ℕ) (ks : List ℕ) (k : ℕ) → Listed bound ks → list_any (λ j. nat_eq j k) ks ≡ false → k < bound → Listed bound (ks ++ k ∷ [])
one_listed bound ks k listed new below = record {
  once = listed_once ks k listed.once new;
  below = list_all-append (λ j. nat_lt j bound) ks (k ∷ []) ∙ and_from _ _ listed.below (and_from (nat_lt k bound) true (lt-ltb k bound below) refl);
}

-- ---- ports

-- an export after others: there is room for it, and it is new
exported : (a : AtomDefinition) (before : List ℕ) (word : List ℕ) (k : ℕ) → export_in a before word ≡ Ok k →
    (length before < MAX_EXPORTS) × (list_any (λ j. nat_eq j k) before ≡ false) × (k < length a.variables)
exported a before word k told =
    let after : ℕ → Result ℕ LineFault = λ n. check (not (list_any (λ j. nat_eq j n) before)) Twice >>= (λ _. Ok n) in
    let named : Unit {0} → Result ℕ LineFault = λ _. ok_or (variable_number a word) UnknownName >>= after in
    let room = led_on (check (nat_lt (length before) MAX_EXPORTS) Limit) (λ _. check (is_legal_line word) NotAscii >>= named) k told in
    let legal = led_on (check (is_legal_line word) NotAscii) named k room.2 in
    let known = led_on (ok_or (variable_number a word) UnknownName) after k legal.2 in
    let new = led_on (check (not (list_any (λ j. nat_eq j known.0) before)) Twice) (λ _. Ok known.0) k known.2 in
    let same : known.0 ≡ k = cc (new.2) in (
      ltb-true _ _ (passed _ _ _ room.1),
      ap (λ n. list_any (λ j. nat_eq j n) before) (sym same) ∙ not-true _ (passed _ _ _ new.1),
      subst (λ n. n < length a.variables) same (position-within (λ v. is_same_text v.name word) a.variables known.0 (was_there _ _ _ known.1)),
    )

-- the variables that words export, after others
exports_listed : (a : AtomDefinition) (before : List ℕ) (words : List (List ℕ)) (ks : List ℕ) → Listed (length a.variables) before → length before ≤ MAX_EXPORTS →
    exports_in a before words ≡ Ok ks → Listed (length a.variables) ks × (length ks ≤ MAX_EXPORTS)
exports_listed a before [] ks listed few told =
    let same : before ≡ ks = cc in
    (subst (Listed (length a.variables)) same listed, subst (λ xs. length xs ≤ MAX_EXPORTS) same few)
exports_listed a before (word ∷ words) ks listed few told =
    let first = led_on (export_in a before word) (λ k. exports_in a (before ++ k ∷ []) words) ks told in
    let facts = exported a before word first.0 first.1 in
    exports_listed a (before ++ first.0 ∷ []) words ks (one_listed (length a.variables) before first.0 listed facts.1 facts.2)
    (let longer : length (before ++ first.0 ∷ []) ≡ length before + 1 = length-append before (first.0 ∷ []) in omega (arith, longer, facts.0)) first.2

-- a port that exports the variables that words name is sound
pub exports_sound : (a : AtomDefinition) (words : List (List ℕ)) (name ks : List ℕ) → exports_in a [] words ≡ Ok ks → is_sound_port (length a.variables) (record { name = name; exports = ks }) ≡ true
exports_sound a words name ks told =
    let facts = exports_listed a [] words ks (none_listed _) (omega arith) told in
    and_from _ _ (and_from _ _ (le-leb _ _ facts.1) facts.0.once) facts.0.below

-- ---- places of a transition

-- a place after others is new
placed : (a : AtomDefinition) (before : List ℕ) (word : List ℕ) (k : ℕ) → place_in a before word ≡ Ok k →
    (list_any (λ j. nat_eq j k) before ≡ false) × (k < length a.places)
placed a before word k told =
    let after : ℕ → Result ℕ LineFault = λ n. check (not (list_any (λ j. nat_eq j n) before)) Twice >>= (λ _. Ok n) in
    let legal = led_on (check (is_legal_line word) NotAscii) (λ _. ok_or (place_number a word) UnknownName >>= after) k told in
    let known = led_on (ok_or (place_number a word) UnknownName) after k legal.2 in
    let new = led_on (check (not (list_any (λ j. nat_eq j known.0) before)) Twice) (λ _. Ok known.0) k known.2 in
    let same : known.0 ≡ k = cc (new.2) in (
      ap (λ n. list_any (λ j. nat_eq j n) before) (sym same) ∙ not-true _ (passed _ _ _ new.1),
      subst (λ n. n < length a.places) same (position-within (λ p. is_same_text p.name word) a.places known.0 (was_there _ _ _ known.1)),
    )

pub more_listed : (a : AtomDefinition) (before : List ℕ) (word : List ℕ) (k : ℕ) → Listed (length a.places) before → place_in a before word ≡ Ok k → Listed (length a.places) (before ++ k ∷ [])
more_listed a before word k listed told =
    let facts = placed a before word k told in
    one_listed (length a.places) before k listed facts.0 facts.1

-- what is left to read after a place leads to the same end
pub place_after : (a : AtomDefinition) (before after word : List ℕ) (rest words : List (List ℕ)) (k : ℕ) → after ≡ before ++ k ∷ [] → words ≡ word ∷ rest → ends_places words ≡ false → place_in a before word ≡ Ok k → places_in a after rest ≡ places_in a before words
place_after a before after word rest words k more is goes_on told =
    let next : ℕ → Result (List ℕ × List (List ℕ)) LineFault = λ place. places_in a (before ++ place ∷ []) rest in
    ap (λ places. places_in a places rest) more
    ∙ sym (ap (places_in a before) is ∙ ap (λ ends. if ends then Ok (before, word ∷ rest) else (place_in a before word >>= next)) (ap ends_places (sym is) ∙ goes_on) ∙ ap (λ place. place >>= next) told)

-- the places that words list, after others
places_listed : (a : AtomDefinition) (before : List ℕ) (words : List (List ℕ)) (listed : List ℕ × List (List ℕ)) → Listed (length a.places) before →
    places_in a before words ≡ Ok listed → Listed (length a.places) listed.0
places_listed a before [] listed so_far told =
    let same : before ≡ listed.0 = ap (λ l. l.0) (same_end (before, []) listed told) in
    subst (Listed (length a.places)) same so_far
places_listed a before (word ∷ words) listed so_far told =
    either_way (ends_places (word ∷ words)) (Ok (before, word ∷ words)) (place_in a before word >>= (λ place. places_in a (before ++ place ∷ []) words)) listed (Listed (length a.places) listed.0)
    (λ here. subst (Listed (length a.places)) (ap (λ l. l.0) (same_end (before, word ∷ words) listed here)) so_far)
    (λ later. let first = led_on (place_in a before word) (λ place. places_in a (before ++ place ∷ []) words) listed later in
    let facts = placed a before word first.0 first.1 in
    places_listed a (before ++ first.0 ∷ []) words listed (one_listed (length a.places) before first.0 so_far facts.0 facts.1) first.2)
    told

-- the same of a list that begins with a word, which isn't empty
places_sound : (a : AtomDefinition) (keyword : List ℕ) (words : List (List ℕ)) (listed : List ℕ × List (List ℕ)) → places_after keyword a words ≡ Ok listed →
    Listed (length a.places) listed.0 × (nat_lt 0 (length listed.0) ≡ true)
places_sound a keyword words listed told =
    let last : List ℕ × List (List ℕ) → Result (List ℕ × List (List ℕ)) LineFault = λ l. check (nat_lt 0 (length l.0)) Shape >>= (λ _. Ok l) in
    let begun = led_on (first_keyword keyword words) (λ _. places_in a [] (drop 1 words) >>= last) listed told in
    let read = led_on (places_in a [] (drop 1 words)) last listed begun.2 in
    let filled = led_on (check (nat_lt 0 (length read.0.0)) Shape) (λ _. Ok read.0) listed read.2 in
    let same : read.0 ≡ listed = cc (filled.2) in (
      subst (λ l. Listed (length a.places) l.0) same (places_listed a [] (drop 1 words) read.0 (none_listed _) read.1),
      subst (λ l. nat_lt 0 (length l.0) ≡ true) same (passed _ _ _ filled.1),
    )

-- ---- guard and updates

-- an expression of few words over variables that are there
pub record Fitting (variables : ℕ) (e : Tree ℕ) : Type 0 where
  pub few : nat_le (word_count e) MAX_WORDS ≡ true
  pub known : has_variables_below variables e ≡ true

expression_of : {A : Type 0} (r : Result A ExpressionFault) (x : A) → on_line r ≡ Ok x → r ≡ Ok x
expression_of (Ok y) x told = ap Ok (same_end y x told)
expression_of (Err fault) x told = absurd (cc)

-- an expression in a line
expression_fits : (a : AtomDefinition) (words : List (List ℕ)) (read : Tree ℕ × List (List ℕ)) → expression_on a words ≡ Ok read → Fitting (length a.variables) read.0
expression_fits a words read told =
    let said : expression_in (variable_number a) words ≡ Ok (read.0, read.1) = expression_of (expression_in (variable_number a) words) read told in
    record {
      few = le-leb _ _ (words_of_expression (variable_number a) words read.1 read.0 said);
      known = variables_below-all (length a.variables) read.0 ∙ variables_of_expression (variable_number a) (λ v. nat_lt v (length a.variables)) words read.1 read.0
          (λ text v is. lt-ltb v (length a.variables) (position-within (λ w. is_same_text w.name text) a.variables v is)) said;
    }

-- a guard that stands, and one that doesn't
guard_fits : (a : AtomDefinition) (words : List (List ℕ)) (read : Tree ℕ × List (List ℕ)) → guard_in a words ≡ Ok read → Fitting (length a.variables) read.0
guard_fits a words read =
    either_way (leads (codes "when") words) (expression_on a (drop 1 words)) (Ok (number (pos 1), words)) read (Fitting (length a.variables) read.0)
    (expression_fits a (drop 1 words) read)
    (λ none. subst (λ r. Fitting (length a.variables) r.0) (same_end (number (pos 1), words) read none) (record { few = refl; known = refl }))

-- updates of variables that are there, by expressions that fit
pub record SoundUpdates (variables : ℕ) (us : List UpdateDefinition) : Type 0 where
  pub small : list_all is_small_value us ≡ true
  pub known : list_all (has_known_variables variables) us ≡ true

-- one more
one_update : (variables : ℕ) (us : List UpdateDefinition) (u : UpdateDefinition) → SoundUpdates variables us → is_small_value u ≡ true → has_known_variables variables u ≡ true → SoundUpdates variables (us ++ u ∷ [])
one_update variables us u sound small known = record {
  small = list_all-append is_small_value us (u ∷ []) ∙ and_from _ _ sound.small (and_from (is_small_value u) true small refl);
  known = list_all-append (has_known_variables variables) us (u ∷ []) ∙ and_from _ _ sound.known (and_from (has_known_variables variables u) true known refl);
}

-- an update in a line
update_sound : (a : AtomDefinition) (words : List (List ℕ)) (read : UpdateDefinition × List (List ℕ)) → update_in a words ≡ Ok read → (is_small_value read.0 ≡ true) × (has_known_variables (length a.variables) read.0 ≡ true)
update_sound a words read told =
    let update = update_read a words read told in
    let fits = expression_fits a (drop 1 (drop 1 words)) update.value update.valued in
    let there : nat_lt update.variable (length a.variables) ≡ true = lt-ltb _ _ (position-within (λ w. is_same_text w.name update.word) a.variables update.variable (was_there _ _ _ update.named)) in (
      subst (λ r. is_small_value r.0 ≡ true) update.is fits.few,
      subst (λ r. has_known_variables (length a.variables) r.0 ≡ true) update.is (and_from _ _ there fits.known),
    )

-- the updates of a line, after others
updates_sound : (a : AtomDefinition) (left : ℕ) (before : List UpdateDefinition) (more : Bool) (words : List (List ℕ)) (us : List UpdateDefinition) →
    SoundUpdates (length a.variables) before → length before + left ≤ MAX_UPDATES → updates_from a left before more words ≡ Ok us →
    SoundUpdates (length a.variables) us × (length us ≤ MAX_UPDATES)
unfolding updates_from
updates_sound a zero before false words us sound few told =
    let same : before ≡ us = same_end _ _ told in
    (subst (SoundUpdates (length a.variables)) same sound, subst (λ xs. length xs ≤ MAX_UPDATES) same (omega (arith, few)))
updates_sound a (suc left) before false words us sound few told =
    let same : before ≡ us = same_end _ _ told in
    (subst (SoundUpdates (length a.variables)) same sound, subst (λ xs. length xs ≤ MAX_UPDATES) same (omega (arith, few)))
updates_sound a zero before true words us sound few told = absurd (cc)
updates_sound a (suc left) before true words us sound few told =
    let behind : UpdateDefinition × List (List ℕ) → Result (List UpdateDefinition) LineFault = λ u. goes_on (codes ";") u.1 >>= (λ more. updates_from a left (before ++ u.0 ∷ []) more (drop 1 u.1)) in
    let first = led_on (update_in a words) behind us told in
    let next = led_on (goes_on (codes ";") first.0.1) (λ more. updates_from a left (before ++ first.0.0 ∷ []) more (drop 1 first.0.1)) us first.2 in
    let facts = update_sound a words first.0 first.1 in
    updates_sound a left (before ++ first.0.0 ∷ []) next.0 (drop 1 first.0.1) us (one_update (length a.variables) before first.0.0 sound facts.0 facts.1)
    (let longer : length (before ++ first.0.0 ∷ []) ≡ length before + 1 = length-append before (first.0.0 ∷ []) in omega (arith, longer, few)) next.2

-- ---- transitions

-- the steps of a transition's line, each after the ones before
abbrev pub with_updates : AtomDefinition → ℕ → List ℕ → List ℕ → Tree ℕ × List (List ℕ) → Result TransitionDefinition LineFault
with_updates a port sources targets guard = updates_in a guard.1 >>= (λ updates. Ok (record { port = port; sources = sources; targets = targets; guard = guard.0; updates = updates }))

abbrev pub with_guard : AtomDefinition → ℕ → List ℕ → List ℕ × List (List ℕ) → Result TransitionDefinition LineFault
with_guard a port sources targets = guard_in a targets.1 >>= with_updates a port sources targets.0

abbrev pub with_targets : AtomDefinition → ℕ → List ℕ × List (List ℕ) → Result TransitionDefinition LineFault
with_targets a port sources = places_after (codes "to") a sources.1 >>= with_guard a port sources.0

abbrev pub with_sources : AtomDefinition → List (List ℕ) → ℕ → Result TransitionDefinition LineFault
with_sources a words port = places_after (codes "from") a (drop 1 words) >>= with_targets a port

-- a port that is named is there
port_known : (a : AtomDefinition) (words : List (List ℕ)) (port : ℕ) → port_in a words ≡ Ok port → port < length a.ports
port_known a words port told =
    let word = led_on (first_word words) (λ w. ok_or (port_number a w) UnknownName) port told in
    position-within (λ p. is_same_text p.name word.0) a.ports port (was_there _ _ _ word.2)

-- a transition that words describe is sound
pub transition_sound : (a : AtomDefinition) (words : List (List ℕ)) (t : TransitionDefinition) → transition_in a words ≡ Ok t → is_sound_transition (length a.ports) (length a.places) (length a.variables) t ≡ true
transition_sound a words t told =
    let port = led_on (port_in a words) (with_sources a words) t told in
    let sources = led_on (places_after (codes "from") a (drop 1 words)) (with_targets a port.0) t port.2 in
    let targets = led_on (places_after (codes "to") a sources.0.1) (with_guard a port.0 sources.0.0) t sources.2 in
    let guard = led_on (guard_in a targets.0.1) (with_updates a port.0 sources.0.0 targets.0.0) t targets.2 in
    let updates = led_on (updates_in a guard.0.1) (λ us. Ok (record { port = port.0; sources = sources.0.0; targets = targets.0.0; guard = guard.0.0; updates = us })) t guard.2 in
    let more = led_on (goes_on (codes "do") guard.0.1) (λ m. updates_from a MAX_UPDATES [] m (drop 1 guard.0.1)) updates.0 updates.1 in
    let from = places_sound a (codes "from") (drop 1 words) sources.0 sources.1 in
    let to = places_sound a (codes "to") sources.0.1 targets.0 targets.1 in
    let fits = guard_fits a targets.0.1 guard.0 guard.1 in
    let assigned = updates_sound a MAX_UPDATES [] more.0 (drop 1 guard.0.1) updates.0 (record { small = refl; known = refl }) (omega arith) more.2 in
    let same : record { port = port.0; sources = sources.0.0; targets = targets.0.0; guard = guard.0.0; updates = updates.0 } ≡ t = same_end _ _ updates.2 in
    subst (λ s. is_sound_transition (length a.ports) (length a.places) (length a.variables) s ≡ true) same
    (and_from _ _ (and_from _ _ (and_from _ _
    (and_from _ _ (and_from _ _ (le-leb _ _ assigned.1) fits.few) assigned.0.small)
    (and_from _ _ from.0.once to.0.once))
    (and_from _ _ (and_from _ _ (and_from _ _ (and_from _ _ (lt-ltb _ _ (port_known a words port.0 port.1)) from.0.below) to.0.below) fits.known) assigned.0.known))
    (and_from _ _ from.1 to.1))
