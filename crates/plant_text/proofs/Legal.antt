-- A text that means a plant has lines of legal bytes alone.
use Rattle.std.proofs.Common.{◌≡◌, refl, ℕ, ◌+◌, true, List, [], ◌∷◌, ◌++◌, length, drop, Result, Ok}
use Rattle.std.specs.Prelude.{nat_lt, is_none}
use Rattle.std.specs.Option.{ok_or}
use Rattle.std.proofs.lemmas.Bool.{and_from}
use Rattle.petri_atom.specs.Definition.{AtomDefinition}
use Rattle.petri_atom.specs.Parts.{definition_by}
use Rattle.priority_filter.specs.declared.rule.Rule.{Rule}
use Rattle.plant_model.specs.declared.limits.TheConstants.{MAX_ATOMS, MAX_WIRES, MAX_RULES}
use Rattle.plant_words.specs.Lines.{is_legal_line, lines_of}
use Rattle.plant_words.specs.Reading.{◌>>=◌, check, first_name, at_end}
use Rattle.plant_words.specs.Words.{words_of, is_passed_over}
use Rattle.plant_words.specs.LineKinds.{kind_in}
use Rattle.plant_words.specs.declared.line_kind.AtomPart.{AtomPart}
use Rattle.plant_words.specs.declared.line_kind.AtomPart.TheVariants.{Place, Variable, Port, Transition}
use Rattle.plant_words.specs.declared.line_kind.WirePart.{WirePart}
use Rattle.plant_words.specs.declared.line_kind.WirePart.TheVariants.{Guard, Transfer}
use Rattle.plant_words.specs.declared.line_kind.RuleKind.{RuleKind}
use Rattle.plant_words.specs.declared.line_kind.RuleKind.TheVariants.{Priority, Maximal}
use Rattle.plant_words.specs.declared.line_kind.LineKind.{LineKind}
use Rattle.plant_words.specs.declared.line_kind.LineKind.TheVariants.{Atom, Connector, OfAtom, OfConnector, Rule as OfRule}
use Rattle.plant_words.proofs.Legal.{are_legal, line_of_words, name_is_legal, end_is_legal}
use Rattle.plant_words.proofs.Steps.{adds_named, led_on, passed, either_way}
use Rattle.atom_lines.proofs.Legal.{place_row_is_legal, variable_row_is_legal, port_row_is_legal, transition_row_is_legal}
use Rattle.connector_lines.specs.Rows.{guards_with, transfers_with}
use Rattle.connector_lines.specs.Trees.{tree_in}
use Rattle.connector_lines.proofs.Legal.{guards_are_legal, transfers_are_legal, priority_is_legal, maximal_is_legal, tree_is_legal}
use Rattle.plant_text.specs.Interactions.{has_interaction}
use Rattle.plant_text.specs.Meaning.{on_line, lines_row, nothing, meaning}
use Rattle.plant_text.specs.Names.{atom_number, wire_number, port_named, place_named}
use Rattle.plant_text.specs.Rows.{told, found_tree, last_changed, atom_part_row, named_in, wire_part_row, atom_row, has_room, connector_row, rule_in, rule_row, row_of, words_row, passed_row, line_row}
use Rattle.plant_text.specs.Text.{WireText, PlantText}
use Rattle.plant_text.specs.declared.fault.Fault.{Fault}
use Rattle.plant_text.specs.declared.fault.Fault.TheVariants.{NotAscii, UnknownWord, Twice, Limit}
use Rattle.plant_text.proofs.SoundLists.{was_found, changed_last}
use Rattle.plant_text.proofs.SoundWires.{tree_found}
use Rattle.plant_text.proofs.SoundLines.{found_on_line}
use Rattle.plant_text.proofs.Sound.{meant}

-- ---- the words after the first one

atom_is_legal : (words : List (List ℕ)) (plant next : PlantText) → atom_row words plant ≡ Ok next → are_legal words ≡ true
atom_is_legal words plant next is =
    let line = adds_named (nat_lt (length plant.atoms) MAX_ATOMS) Limit Twice (told (first_name words)) (λ name. is_none (atom_number plant.atoms name)) (told (at_end (drop 1 words)))
    (λ name end. Ok (record plant { atoms = plant.atoms ++ definition_by name [] [] [] [] ∷ [] })) next is in
    name_is_legal words line.name (was_found (first_name words) line.name line.named) (end_is_legal (drop 1 words) line.value (was_found (at_end (drop 1 words)) line.value line.valued))

atom_part_is_legal : (part : AtomPart) (words : List (List ℕ)) (a grown : AtomDefinition) → atom_part_row part words a ≡ Ok grown → are_legal words ≡ true
atom_part_is_legal Place words a grown is = place_row_is_legal words a grown is
atom_part_is_legal Variable words a grown is = variable_row_is_legal words a grown is
atom_part_is_legal Port words a grown is = port_row_is_legal words a grown is
atom_part_is_legal Transition words a grown is = transition_row_is_legal words a grown is

wire_part_is_legal : (part : WirePart) (atoms : List AtomDefinition) (words : List (List ℕ)) (w changed : WireText) → wire_part_row part atoms words w ≡ Ok changed → are_legal words ≡ true
wire_part_is_legal Guard atoms words w changed is =
    let guards = led_on (guards_with (named_in atoms w) words w.guards) (λ guards. Ok (record w { guards = guards })) changed is in
    guards_are_legal (named_in atoms w) words w.guards guards.0 guards.1
wire_part_is_legal Transfer atoms words w changed is =
    let transfers = led_on (transfers_with (named_in atoms w) words w.transfers) (λ transfers. Ok (record w { transfers = transfers })) changed is in
    transfers_are_legal (named_in atoms w) words w.transfers transfers.0 transfers.1

connector_is_legal : (words : List (List ℕ)) (plant next : PlantText) → connector_row words plant ≡ Ok next → are_legal words ≡ true
connector_is_legal words plant next is =
    let line = adds_named (nat_lt (length plant.wires) MAX_WIRES) Limit Twice (told (first_name words)) (λ name. is_none (wire_number plant.wires name)) (found_tree (tree_in (port_named plant.atoms) (drop 1 words)))
    (λ name tree. check (has_room plant.wires tree) Limit >>= λ _. Ok (record plant { wires = plant.wires ++ record { name = name; tree = tree; guards = []; transfers = []; inputs = [] } ∷ [] })) next is in
    name_is_legal words line.name (was_found (first_name words) line.name line.named)
    (tree_is_legal (port_named plant.atoms) (drop 1 words) line.value (tree_found (tree_in (port_named plant.atoms) (drop 1 words)) line.value line.valued))

rule_in_is_legal : (kind : RuleKind) (atoms : List AtomDefinition) (wires : List WireText) (words : List (List ℕ)) (rule : Rule) → rule_in kind atoms wires words ≡ Ok rule → are_legal words ≡ true
rule_in_is_legal Priority atoms wires words rule is = priority_is_legal (wire_number wires) (has_interaction wires) (atom_number atoms) (place_named atoms) words rule is
rule_in_is_legal Maximal atoms wires words rule is = maximal_is_legal (wire_number wires) words rule is

rule_is_legal : (kind : RuleKind) (words : List (List ℕ)) (plant next : PlantText) → rule_row kind words plant ≡ Ok next → are_legal words ≡ true
rule_is_legal kind words plant next is =
    let made : Rule → Result PlantText Fault = λ rule. Ok (record plant { rules = plant.rules ++ rule ∷ [] }) in
    let room = led_on (check (nat_lt (length plant.rules) MAX_RULES) Limit) (λ _. told (rule_in kind plant.atoms plant.wires words) >>= made) next is in
    let rule = led_on (told (rule_in kind plant.atoms plant.wires words)) made next room.2 in
    rule_in_is_legal kind plant.atoms plant.wires words rule.0 (was_found (rule_in kind plant.atoms plant.wires words) rule.0 rule.1)

row_is_legal : (kind : LineKind) (words : List (List ℕ)) (plant next : PlantText) → row_of kind words plant ≡ Ok next → are_legal words ≡ true
row_is_legal Atom words plant next is = atom_is_legal words plant next is
row_is_legal Connector words plant next is = connector_is_legal words plant next is
row_is_legal (OfAtom part) words plant next is =
    let read = led_on (last_changed (atom_part_row part words) plant.atoms) (λ atoms. Ok (record plant { atoms = atoms })) next is in
    let last = changed_last (atom_part_row part words) plant.atoms read.0 read.1 in
    atom_part_is_legal part words last.last last.changed last.by
row_is_legal (OfConnector part) words plant next is =
    let read = led_on (last_changed (wire_part_row part plant.atoms words) plant.wires) (λ wires. Ok (record plant { wires = wires })) next is in
    let last = changed_last (wire_part_row part plant.atoms words) plant.wires read.0 read.1 in
    wire_part_is_legal part plant.atoms words last.last last.changed last.by
row_is_legal (OfRule kind) words plant next is = rule_is_legal kind words plant next is

-- ---- lines

words_are_legal : (words : List (List ℕ)) (plant next : PlantText) → words_row words plant ≡ Ok next → are_legal words ≡ true
words_are_legal [] plant next is = refl
words_are_legal (word ∷ words) plant next is =
    let legal = led_on (check (is_legal_line word) NotAscii) (λ _. ok_or (kind_in word) UnknownWord >>= (λ kind. row_of kind words plant)) next is in
    let kind = led_on (ok_or (kind_in word) UnknownWord) (λ kind. row_of kind words plant) next legal.2 in
    and_from (is_legal_line word) (are_legal words) (passed (is_legal_line word) NotAscii legal.0 legal.1) (row_is_legal kind.0 words plant next kind.2)

line_is_legal : (line : List ℕ) (plant next : PlantText) → line_row line plant ≡ Ok next → is_legal_line line ≡ true
line_is_legal line plant next =
    either_way (is_passed_over line) (passed_row line plant) (words_row (words_of line) plant) next (is_legal_line line ≡ true)
    (λ over. let legal = led_on (check (is_legal_line line) NotAscii) (λ _. Ok plant) next over in passed (is_legal_line line) NotAscii legal.0 legal.1)
    (λ row. line_of_words line (words_are_legal (words_of line) plant next row))

lines_are_legal : (number : ℕ) (lines : List (List ℕ)) (plant next : PlantText) → lines_row number lines plant ≡ Ok next → are_legal lines ≡ true
lines_are_legal number [] plant next is = refl
lines_are_legal number (line ∷ lines) plant next is =
    let first = led_on (on_line number (line_row line plant)) (λ p. lines_row (number + 1) lines p) next is in
    and_from (is_legal_line line) (are_legal lines) (line_is_legal line plant first.0 (found_on_line number (line_row line plant) first.0 first.1))
    (lines_are_legal (number + 1) lines first.0 next first.2)

pub text_is_legal : (text : List ℕ) (plant : PlantText) → meaning text ≡ Ok plant → are_legal (lines_of text) ≡ true
text_is_legal text plant is = let by = meant text plant is in lines_are_legal 1 (lines_of text) nothing plant by.lines
