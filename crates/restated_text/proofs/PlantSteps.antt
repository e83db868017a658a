-- A line of a plant, restated: it adds to the plant in its states what the line adds to the plant.
use Rattle.std.proofs.Common.{◌≡◌, ◌∙◌, refl, sym, ap, subst, ℕ, zero, suc, ◌+◌, ◌-◌, arith, Bool, true, false, eqb-true, if◌then◌else◌, ◌==◌, List, [], ◌∷◌, ◌++◌, length, drop, Option, Some, None, Result, Ok, Err}
use Rattle.std.specs.Prelude.{nat_lt, is_none, slice_get, slice_set}
use Rattle.std.specs.List.{list_all}
use Rattle.std.specs.Option.{ok_or, option_map_or}
use Rattle.std.proofs.Math.Seq.{set-append_seam}
use Rattle.std.proofs.lemmas.Bool.{false≢true}
use Rattle.std.proofs.lemmas.List.{length-append}
use Rattle.petri_atom.specs.Definition.{AtomDefinition}
use Rattle.petri_atom.specs.Local.{Local}
use Rattle.petri_atom.specs.Parts.{definition_by}
use Rattle.priority_filter.specs.declared.rule.Rule.{Rule}
use Rattle.connector_tree.specs.declared.token.Token.{Token}
use Rattle.connector_tree.specs.declared.tree.Port.{Port}
use Rattle.plant_model.specs.declared.limits.TheConstants.{MAX_ATOMS, MAX_WIRES, MAX_RULES}
use Rattle.plant_words.specs.Lines.{is_legal_line}
use Rattle.plant_words.specs.LineKinds.{kind_in}
use Rattle.plant_words.specs.Reading.{◌>>=◌, check, first_name, at_end}
use Rattle.plant_words.specs.Words.{words_of, begins_with, is_passed_over}
use Rattle.plant_words.specs.declared.line_fault.LineFault.{LineFault}
use Rattle.plant_words.specs.declared.line_kind.AtomPart.{AtomPart}
use Rattle.plant_words.specs.declared.line_kind.WirePart.{WirePart}
use Rattle.plant_words.specs.declared.line_kind.WirePart.TheVariants.{Guard, Transfer}
use Rattle.plant_words.specs.declared.line_kind.RuleKind.{RuleKind}
use Rattle.plant_words.specs.declared.line_kind.RuleKind.TheVariants.{Priority, Maximal}
use Rattle.plant_words.specs.declared.line_kind.LineKind.{LineKind}
use Rattle.plant_words.specs.declared.line_kind.LineKind.TheVariants.{Atom, Connector, OfAtom, OfConnector, Rule as OfRule}
use Rattle.plant_words.proofs.Steps.{led_on, passed, was_there, same_end, adds_named}
use Rattle.part_lines.specs.Table.{kind_of_words}
use Rattle.connector_lines.specs.Exports.{variable_in}
use Rattle.connector_lines.specs.Rows.{Named, guards_with, transfers_with}
use Rattle.connector_lines.specs.Rules.{priority_in, maximal_in}
use Rattle.connector_lines.specs.Trees.{tree_in}
use Rattle.connector_tree.specs.Tokens.{ports_in}
use Rattle.plant_text.specs.Fault.{of_line}
use Rattle.plant_text.specs.Interactions.{has_interaction}
use Rattle.plant_text.specs.Meaning.{on_line, lines_row, nothing}
use Rattle.plant_text.specs.Names.{atom_number, wire_number, port_named, place_named, export_named}
use Rattle.plant_text.specs.Rows.{told, found_tree, with_last, last_changed, atom_part_row, named_in, wire_part_row, atom_row, has_room, connector_row, rule_in, rule_row, row_of, words_row, passed_row, line_row}
use Rattle.plant_text.specs.Text.{WireText, PlantText}
use Rattle.plant_text.specs.declared.fault.Fault.{Fault}
use Rattle.plant_text.specs.declared.fault.Fault.TheVariants.{NotAscii, UnknownWord, Misplaced, Twice, Limit}
use Rattle.plant_text.specs.declared.fault.PlantFault.{PlantFault}
use Rattle.restated_text.specs.Counts.{kind_of, no_parts, after_part, after_kind, after}
use Rattle.restated_text.specs.Plants.{each_numbered, atom_in_state, atom_with, with_first_states, has_ranged_values}
use Rattle.restated_text.specs.Text.{part_line, line_in_state, latest_state, restated_line}
use Rattle.restated_text.specs.declared.counts.Counts.{Counts}
use Rattle.restated_text.proofs.LegalLines.{got_passes}
use Rattle.restated_text.proofs.Lookups.{same_atoms, same_ports, same_named_places, same_named_exports}
use Rattle.restated_text.proofs.Numbered.{length_numbered, numbered_and_one}
use Rattle.restated_text.proofs.PartSteps.{go_on, named_added, PartRestated, Counted, part_restated, counted_after}
use Rattle.restated_text.proofs.TextLines.{line_of_no_kind, restated_lines}

-- ---- the last of a list

-- what words of a part had no fault
was_found : {A : Type 0} (r : Result A LineFault) (x : A) → told r ≡ Ok x → r ≡ Ok x
was_found (Ok y) x is = cc
was_found (Err fault) x is = absurd (cc)

-- a list whose last became another by a row
pub record ChangedLast {A : Type 0} (row : A → Result A LineFault) (list next : List A) : Type 0 where
  pub front : List A
  pub last : A
  pub changed : A
  pub before : list ≡ front ++ last ∷ []
  pub after : next ≡ front ++ changed ∷ []
  pub by : row last ≡ Ok changed

abbrev HasLast : {A : Type 0} → List A → Type 0
HasLast {A = A} list = (front : List A) × (last : A) × (list ≡ front ++ last ∷ [])

has_last : {A : Type 0} (x : A) (xs : List A) → HasLast (x ∷ xs)
has_last x [] = ([], x, refl)
has_last x (y ∷ ys) = let rest = has_last y ys in (x ∷ rest.0, rest.1, ap (λ zs. x ∷ zs) rest.2)

get_seam : {A : Type 0} (front : List A) (last : A) → slice_get (front ++ last ∷ []) (length front) ≡ Some last
get_seam [] last = refl
get_seam (x ∷ front) last = get_seam front last

last_place : {A : Type 0} (front : List A) (last : A) → length (front ++ last ∷ []) - 1 ≡ length front
last_place front last = let more : length (front ++ last ∷ []) ≡ length front + 1 = length-append front (last ∷ []) in omega (arith, more)

last_found : {A : Type 0} (front : List A) (last : A) → slice_get (front ++ last ∷ []) (length (front ++ last ∷ []) - 1) ≡ Some last
last_found front last = ap (slice_get (front ++ last ∷ [])) (last_place front last) ∙ get_seam front last

last_set : {A : Type 0} (front : List A) (last other : A) → with_last (front ++ last ∷ []) other ≡ front ++ other ∷ []
last_set front last other = ap (λ n. slice_set (front ++ last ∷ []) n other) (last_place front last) ∙ set-append_seam front last [] other

changed_of : {A : Type 0} (row : A → Result A LineFault) (front : List A) (last : A) (next : List A) → last_changed row (front ++ last ∷ []) ≡ Ok next → ChangedLast row (front ++ last ∷ []) next
changed_of {A = A} row front last next is =
    let list : List A = front ++ last ∷ [] in
    let made : A → Result (List A) Fault = λ changed. Ok (with_last list changed) in
    let by : (told (row last) >>= made) ≡ Ok next = sym (ap (λ o. option_map_or (λ x. told (row x) >>= made) o (Err Misplaced)) (last_found front last)) ∙ is in
    let changed = led_on (told (row last)) made next by in
    record {
      front = front;
      last = last;
      changed = changed.0;
      before = refl;
      after = sym (same_end (with_last list changed.0) next changed.2) ∙ last_set front last changed.0;
      by = was_found (row last) changed.0 changed.1;
    }

pub changed_last : {A : Type 0} (row : A → Result A LineFault) (list next : List A) → last_changed row list ≡ Ok next → ChangedLast row list next
changed_last row [] next is = absurd (cc)
changed_last row (x ∷ xs) next is =
    let last = has_last x xs in
    subst (λ list. last_changed row list ≡ Ok next → ChangedLast row list next) (sym last.2) (changed_of row last.0 last.1 next) is

-- and so it is changed
pub changes_last : {A : Type 0} (row : A → Result A LineFault) (front : List A) (last changed : A) → row last ≡ Ok changed → last_changed row (front ++ last ∷ []) ≡ Ok (front ++ changed ∷ [])
changes_last {A = A} row front last changed by =
    let list : List A = front ++ last ∷ [] in
    ap (λ o. option_map_or (λ x. told (row x) >>= λ c. Ok (with_last list c)) o (Err Misplaced)) (last_found front last) ∙
    ap (λ r. told r >>= λ c. Ok (with_last list c)) by ∙ ap (λ l. Ok l) (last_set front last changed)

-- ---- counts

-- the counts of a plant so far
abbrev pub counts_of : PlantText → Counts
counts_of plant =
    option_map_or (λ a. record { atoms = length plant.atoms; places = length a.places; variables = length a.variables }) (slice_get plant.atoms (length plant.atoms - 1))
    (record { atoms = length plant.atoms; places = 0; variables = 0 })

abbrev pub counts_with : ℕ → AtomDefinition → Counts
counts_with atoms a = record { atoms = atoms; places = length a.places; variables = length a.variables }

pub counts_at_last : (front : List AtomDefinition) (a : AtomDefinition) (plant : PlantText) → plant.atoms ≡ front ++ a ∷ [] → counts_of plant ≡ counts_with (length front + 1) a
counts_at_last front a plant is =
    let many : length (front ++ a ∷ []) ≡ length front + 1 = length-append front (a ∷ []) in
    ap (λ (atoms : List AtomDefinition). counts_of (record plant { atoms = atoms })) is ∙
    ap (λ o. option_map_or (λ b. counts_with (length (front ++ a ∷ [])) b) o (record { atoms = length (front ++ a ∷ []); places = 0; variables = 0 })) (last_found front a) ∙
    ap (λ (n : ℕ). counts_with n a) many

-- ---- rows

bare : (o : Option Local) (name : List ℕ) → option_map_or (atom_in_state (definition_by name [] [] [] [])) o (definition_by name [] [] [] []) ≡ definition_by name [] [] [] []
bare None name = refl
bare (Some s) name = refl

-- whatever the latest atom is, a plant has as many atoms as it has
pub counted_atoms : (plant : PlantText) → (counts_of plant).atoms ≡ length plant.atoms
counted_atoms plant = each (slice_get plant.atoms (length plant.atoms - 1))
  where
    each : (o : Option AtomDefinition) → (option_map_or (counts_with (length plant.atoms)) o (record { atoms = length plant.atoms; places = 0; variables = 0 })).atoms ≡ length plant.atoms
    each None = refl
    each (Some a) = refl

-- what a row gives in the states, and the counts after it
abbrev pub Same : List Local → LineKind → List (List ℕ) → PlantText → PlantText → Type 0
Same states kind words plant next =
    (row_of kind words (with_first_states states plant) ≡ Ok (with_first_states states next)) × (after_kind kind (counts_of plant) ≡ counts_of next)

-- a line of the kind is no part of an atom
abbrev pub IsPlain : LineKind → Type 0
IsPlain Atom = Unit {0}
IsPlain Connector = Unit {0}
IsPlain (OfAtom p) = ⊥
IsPlain (OfConnector p) = Unit {0}
IsPlain (OfRule kind) = Unit {0}

module _ (states : List Local) where
  -- `atom`
  atom_restated : (words : List (List ℕ)) (plant next : PlantText) → atom_row words plant ≡ Ok next → Same states Atom words plant next
  atom_restated words plant next is =
      let made : List ℕ → Unit {0} → Result PlantText Fault = λ name end. Ok (record plant { atoms = plant.atoms ++ definition_by name [] [] [] [] ∷ [] }) in
      let added = adds_named (nat_lt (length plant.atoms) MAX_ATOMS) Limit Twice (told (first_name words)) (λ name. is_none (atom_number plant.atoms name)) (told (at_end (drop 1 words))) made next is in
      let atom : AtomDefinition = definition_by added.name [] [] [] [] in
      let here : PlantText = record plant { atoms = plant.atoms ++ atom ∷ [] } in
      let same : here ≡ next = same_end here next added.gives in
      let other : PlantText = with_first_states states plant in
      let grown : each_numbered (atom_with states) 0 (plant.atoms ++ atom ∷ []) ≡ other.atoms ++ atom ∷ [] =
      numbered_and_one (atom_with states) 0 plant.atoms atom ∙ ap (λ b. other.atoms ++ b ∷ []) (bare (slice_get states (0 + length plant.atoms)) added.name) in
      let row : atom_row words other ≡ Ok (with_first_states states next) =
      named_added (nat_lt (length other.atoms) MAX_ATOMS) Limit Twice (told (first_name words)) (λ name. is_none (atom_number other.atoms name)) (told (at_end (drop 1 words)))
      (λ name end. Ok (record other { atoms = other.atoms ++ definition_by name [] [] [] [] ∷ [] })) (with_first_states states next) added.name added.value
      (ap (λ (n : ℕ). nat_lt n MAX_ATOMS) (length_numbered (atom_with states) 0 plant.atoms) ∙ added.has_room) added.named
      (ap (λ (g : List ℕ → Option ℕ). is_none (g added.name)) (same_atoms states plant.atoms) ∙ added.new) added.valued
      (ap (λ (atoms : List AtomDefinition). Ok (record plant { atoms = atoms })) (sym grown) ∙ ap (λ p. Ok (with_first_states states p)) same) in (
        row,
        ap (λ (n : ℕ). counts_with (n + 1) atom) (counted_atoms plant) ∙ sym (counts_at_last plant.atoms atom here refl) ∙ ap counts_of same,
      )

  -- `connector`
  connector_restated : (words : List (List ℕ)) (plant next : PlantText) → connector_row words plant ≡ Ok next → Same states Connector words plant next
  connector_restated words plant next is =
      let read : (List ℕ → List ℕ → Option Port) → Result (List Token) Fault = λ ports. found_tree (tree_in ports (drop 1 words)) in
      let made : PlantText → List ℕ → List Token → Result PlantText Fault =
      λ p name tree. check (has_room p.wires tree) Limit >>= λ _. Ok (record p { wires = p.wires ++ record { name = name; tree = tree; guards = []; transfers = []; inputs = [] } ∷ [] }) in
      let added = adds_named (nat_lt (length plant.wires) MAX_WIRES) Limit Twice (told (first_name words)) (λ name. is_none (wire_number plant.wires name)) (read (port_named plant.atoms)) (made plant) next is in
      let wire : WireText = record { name = added.name; tree = added.value; guards = []; transfers = []; inputs = [] } in
      let here : PlantText = record plant { wires = plant.wires ++ wire ∷ [] } in
      let room = led_on (check (has_room plant.wires added.value) Limit) (λ _. Ok here) next added.gives in
      let same : here ≡ next = same_end here next room.2 in
      let other : PlantText = with_first_states states plant in
      let row : connector_row words other ≡ Ok (with_first_states states next) =
      named_added (nat_lt (length plant.wires) MAX_WIRES) Limit Twice (told (first_name words)) (λ name. is_none (wire_number plant.wires name)) (read (port_named other.atoms)) (made other) (with_first_states states next)
      added.name added.value added.has_room added.named added.new (ap read (same_ports states plant.atoms) ∙ added.valued)
      (go_on (check (has_room plant.wires added.value) Limit) (λ _. Ok (with_first_states states here)) room.0 (with_first_states states next) room.1 (ap (λ p. Ok (with_first_states states p)) same)) in
      (row, ap counts_of same)

  -- `guard` and `move`
  named_alike : (atoms : List AtomDefinition) → named_in (each_numbered (atom_with states) 0 atoms) ≡ named_in atoms
  named_alike atoms =
      ap (λ (g : List ℕ → Option ℕ). λ (w : WireText). variable_in g (export_named (each_numbered (atom_with states) 0 atoms)) (ports_in w.tree)) (same_atoms states atoms) ∙
      ap (λ (g : Port → List ℕ → Option ℕ). λ (w : WireText). variable_in (atom_number atoms) g (ports_in w.tree)) (same_named_exports states atoms)

  wire_part_alike : (part : WirePart) (atoms : List AtomDefinition) (words : List (List ℕ)) → wire_part_row part (each_numbered (atom_with states) 0 atoms) words ≡ wire_part_row part atoms words
  wire_part_alike Guard atoms words =
      ap (λ (named : WireText → Named). λ (w : WireText). guards_with (named w) words w.guards >>= λ guards. Ok (record w { guards = guards })) (named_alike atoms)
  wire_part_alike Transfer atoms words =
      ap (λ (named : WireText → Named). λ (w : WireText). transfers_with (named w) words w.transfers >>= λ transfers. Ok (record w { transfers = transfers })) (named_alike atoms)

  wire_part_restated : (part : WirePart) (words : List (List ℕ)) (plant next : PlantText) → row_of (OfConnector part) words plant ≡ Ok next → Same states (OfConnector part) words plant next
  wire_part_restated part words plant next is =
      let made : List WireText → Result PlantText Fault = λ wires. Ok (record plant { wires = wires }) in
      let read = led_on (last_changed (wire_part_row part plant.atoms words) plant.wires) made next is in
      let same : record plant { wires = read.0 } ≡ next = same_end (record plant { wires = read.0 }) next read.2 in
      let other : PlantText = with_first_states states plant in
      let row : row_of (OfConnector part) words other ≡ Ok (with_first_states states next) =
      go_on (last_changed (wire_part_row part other.atoms words) plant.wires) (λ wires. Ok (record other { wires = wires })) read.0 (with_first_states states next)
      (ap (λ (row : WireText → Result WireText LineFault). last_changed row plant.wires) (wire_part_alike part plant.atoms words) ∙ read.1) (ap (λ p. Ok (with_first_states states p)) same) in
      (row, ap counts_of same)

  -- `prio` and `maximal`
  rule_alike : (kind : RuleKind) (plant : PlantText) (words : List (List ℕ)) → rule_in kind (each_numbered (atom_with states) 0 plant.atoms) plant.wires words ≡ rule_in kind plant.atoms plant.wires words
  rule_alike Priority plant words =
      let by : (List ℕ → Option ℕ) → (ℕ → List ℕ → Option ℕ) → Result Rule LineFault = λ atoms places. priority_in (wire_number plant.wires) (has_interaction plant.wires) atoms places words in
      ap (λ (g : List ℕ → Option ℕ). by g (place_named (each_numbered (atom_with states) 0 plant.atoms))) (same_atoms states plant.atoms) ∙
      ap (λ (g : ℕ → List ℕ → Option ℕ). by (atom_number plant.atoms) g) (same_named_places states plant.atoms)
  rule_alike Maximal plant words = refl

  rule_restated : (kind : RuleKind) (words : List (List ℕ)) (plant next : PlantText) → rule_row kind words plant ≡ Ok next → Same states (OfRule kind) words plant next
  rule_restated kind words plant next is =
      let made : PlantText → Rule → Result PlantText Fault = λ p rule. Ok (record p { rules = p.rules ++ rule ∷ [] }) in
      let room = led_on (check (nat_lt (length plant.rules) MAX_RULES) Limit) (λ _. told (rule_in kind plant.atoms plant.wires words) >>= made plant) next is in
      let rule = led_on (told (rule_in kind plant.atoms plant.wires words)) (made plant) next room.2 in
      let here : PlantText = record plant { rules = plant.rules ++ rule.0 ∷ [] } in
      let same : here ≡ next = same_end here next rule.2 in
      let other : PlantText = with_first_states states plant in
      let row : rule_row kind words other ≡ Ok (with_first_states states next) =
      go_on (check (nat_lt (length plant.rules) MAX_RULES) Limit) (λ _. told (rule_in kind other.atoms plant.wires words) >>= made other) room.0 (with_first_states states next) room.1
      (go_on (told (rule_in kind other.atoms plant.wires words)) (made other) rule.0 (with_first_states states next) (ap told (rule_alike kind plant words) ∙ rule.1) (ap (λ p. Ok (with_first_states states p)) same)) in
      (row, ap counts_of same)

  -- a line that stays as it is
  pub plain_restated : (kind : LineKind) (words : List (List ℕ)) (plant next : PlantText) → IsPlain kind → row_of kind words plant ≡ Ok next → Same states kind words plant next
  plain_restated Atom words plant next plain is = atom_restated words plant next is
  plain_restated Connector words plant next plain is = connector_restated words plant next is
  plain_restated (OfAtom p) words plant next plain is = absurd plain
  plain_restated (OfConnector p) words plant next plain is = wire_part_restated p words plant next is
  plain_restated (OfRule kind) words plant next plain is = rule_restated kind words plant next is
