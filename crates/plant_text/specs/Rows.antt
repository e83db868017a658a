-- What each line says of the plant so far, or the fault of its first word that is at fault.
use Rattle.std.specs.Prelude.{ℕ, ◌+◌, ◌-◌, Bool, is_none, if◌then◌else◌, nat_lt, nat_le, List, [], ◌∷◌, ◌++◌, length, drop, slice_get, slice_set, Result, Ok, Err}
use Rattle.std.specs.Option.{ok_or, option_map_or}
use Rattle.petri_atom.specs.Definition.{AtomDefinition}
use Rattle.petri_atom.specs.Parts.{definition_by}
use Rattle.priority_filter.specs.declared.rule.Rule.{Rule}
use Rattle.plant_model.specs.declared.limits.TheConstants.{MAX_ATOMS, MAX_WIRES, MAX_RULES, MAX_INTERACTIONS}
use Rattle.plant_words.specs.Lines.{is_legal_line}
use Rattle.plant_words.specs.Words.{words_of, is_passed_over}
use Rattle.plant_words.specs.declared.line_fault.LineFault.{LineFault}
use Rattle.plant_words.specs.Reading.{◌>>=◌, check, first_name, at_end}
use Rattle.plant_words.specs.LineKinds.{kind_in}
use Rattle.plant_words.specs.declared.line_kind.AtomPart.{AtomPart}
use Rattle.plant_words.specs.declared.line_kind.AtomPart.TheVariants.{Place, Variable, Port, Transition}
use Rattle.plant_words.specs.declared.line_kind.WirePart.{WirePart}
use Rattle.plant_words.specs.declared.line_kind.WirePart.TheVariants.{Guard, Transfer}
use Rattle.plant_words.specs.declared.line_kind.RuleKind.{RuleKind}
use Rattle.plant_words.specs.declared.line_kind.RuleKind.TheVariants.{Priority, Maximal}
use Rattle.plant_words.specs.declared.line_kind.LineKind.{LineKind}
use Rattle.plant_words.specs.declared.line_kind.LineKind.TheVariants.{Atom, Connector, OfAtom, OfConnector, Rule as OfRule}
use Rattle.atom_lines.specs.Rows.{place_row, variable_row, port_row}
use Rattle.atom_lines.specs.Transitions.{transition_row}
use Rattle.connector_tree.specs.declared.token.Token.{Token}
use Rattle.connector_tree.specs.TokenMeaning.{interactions_in}
use Rattle.connector_tree.specs.Tokens.{ports_in}
use Rattle.connector_lines.specs.Tokens.{Reading}
use Rattle.connector_lines.specs.Trees.{tree_in}
use Rattle.connector_lines.specs.Rules.{priority_in, maximal_in}
use Rattle.connector_lines.specs.Exports.{variable_in}
use Rattle.connector_lines.specs.Rows.{Named, guards_with, transfers_with}
use Rattle.plant_text.specs.Text.{WireText, PlantText}
use Rattle.plant_text.specs.Interactions.{interactions_of, has_interaction}
use Rattle.plant_text.specs.Names.{atom_number, wire_number, port_named, place_named, export_named}
use Rattle.plant_text.specs.Fault.{of_line, of_tree}
use Rattle.plant_text.specs.declared.fault.Fault.{Fault}
use Rattle.plant_text.specs.declared.fault.Fault.TheVariants.{NotAscii, UnknownWord, Misplaced, Twice, Limit}

-- what the words of a line say of an atom or a connector, with their fault as one of the text
abbrev pub told : {A : Type 0} → Result A LineFault → Result A Fault
told (Ok x) = Ok x
told (Err fault) = Err (of_line fault)

-- the same of a tree
abbrev pub found_tree : Reading → Result (List Token) Fault
found_tree (Ok tokens) = Ok tokens
found_tree (Err fault) = Err (of_tree fault)

-- the list with this in the place of its last
abbrev pub with_last : {A : Type 0} → List A → A → List A
with_last list x = slice_set list (length list - 1) x

-- the list with its last changed by a row; there must be one
abbrev pub last_changed : {A : Type 0} → (A → Result A LineFault) → List A → Result (List A) Fault
last_changed row list =
    option_map_or (λ last. told (row last) >>= λ changed. Ok (with_last list changed)) (slice_get list (length list - 1)) (Err Misplaced)

-- a line `place`, `var`, `port` or `trans`, by the words after its first
abbrev pub atom_part_row : AtomPart → List (List ℕ) → AtomDefinition → Result AtomDefinition LineFault
atom_part_row Place = place_row
atom_part_row Variable = variable_row
atom_part_row Port = port_row
atom_part_row Transition = transition_row

-- which exported variable of the connector's ports a word names
abbrev pub named_in : List AtomDefinition → WireText → Named
named_in atoms w = variable_in (atom_number atoms) (export_named atoms) (ports_in w.tree)

-- a line `guard` or `move`, by the words after its first
abbrev pub wire_part_row : WirePart → List AtomDefinition → List (List ℕ) → WireText → Result WireText LineFault
wire_part_row Guard atoms words w = guards_with (named_in atoms w) words w.guards >>= λ guards. Ok (record w { guards = guards })
wire_part_row Transfer atoms words w = transfers_with (named_in atoms w) words w.transfers >>= λ transfers. Ok (record w { transfers = transfers })

-- `atom NAME`: an atom with a new name and no parts
abbrev pub atom_row : List (List ℕ) → PlantText → Result PlantText Fault
atom_row words plant = do
  _ ← check (nat_lt (length plant.atoms) MAX_ATOMS) Limit
  name ← told (first_name words)
  _ ← check (is_none (atom_number plant.atoms name)) Twice
  _ ← told (at_end (drop 1 words))
  Ok (record plant { atoms = plant.atoms ++ definition_by name [] [] [] [] ∷ [] })

-- so many more interactions are no more than a plant may have
abbrev pub has_room : List WireText → List Token → Bool
has_room wires tree = nat_le (length (interactions_of wires) + length (interactions_in tree)) MAX_INTERACTIONS

-- `connector NAME TREE`: a connector with a new name, over ports of the atoms so far
abbrev pub connector_row : List (List ℕ) → PlantText → Result PlantText Fault
connector_row words plant = do
  _ ← check (nat_lt (length plant.wires) MAX_WIRES) Limit
  name ← told (first_name words)
  _ ← check (is_none (wire_number plant.wires name)) Twice
  tree ← found_tree (tree_in (port_named plant.atoms) (drop 1 words))
  _ ← check (has_room plant.wires tree) Limit
  Ok (record plant { wires = plant.wires ++ record { name = name; tree = tree; guards = []; transfers = []; inputs = [] } ∷ [] })

-- the rule that a line `prio` or `maximal` writes over the atoms and connectors so far, by the words after its first
abbrev pub rule_in : RuleKind → List AtomDefinition → List WireText → List (List ℕ) → Result Rule LineFault
rule_in Priority atoms wires = priority_in (wire_number wires) (has_interaction wires) (atom_number atoms) (place_named atoms)
rule_in Maximal atoms wires = maximal_in (wire_number wires)

-- `prio SIDE < SIDE ..`, `maximal NAME`: one more rule
abbrev pub rule_row : RuleKind → List (List ℕ) → PlantText → Result PlantText Fault
rule_row kind words plant = do
  _ ← check (nat_lt (length plant.rules) MAX_RULES) Limit
  rule ← told (rule_in kind plant.atoms plant.wires words)
  Ok (record plant { rules = plant.rules ++ rule ∷ [] })

-- a line of a kind, by the words after its first: a part is one of the latest atom or connector
abbrev pub row_of : LineKind → List (List ℕ) → PlantText → Result PlantText Fault
row_of Atom words plant = atom_row words plant
row_of Connector words plant = connector_row words plant
row_of (OfAtom part) words plant = last_changed (atom_part_row part words) plant.atoms >>= λ atoms. Ok (record plant { atoms = atoms })
row_of (OfConnector part) words plant = last_changed (wire_part_row part plant.atoms words) plant.wires >>= λ wires. Ok (record plant { wires = wires })
row_of (OfRule kind) words plant = rule_row kind words plant

-- the words of a line: the first one says of which kind it is, and its bytes must be legal
abbrev pub words_row : List (List ℕ) → PlantText → Result PlantText Fault
words_row [] plant = Ok plant
words_row (word ∷ words) plant = do
  _ ← check (is_legal_line word) NotAscii
  kind ← ok_or (kind_in word) UnknownWord
  row_of kind words plant

-- a line that says nothing; its bytes must be legal all the same
abbrev pub passed_row : List ℕ → PlantText → Result PlantText Fault
passed_row line plant = do
  _ ← check (is_legal_line line) NotAscii
  Ok plant

-- A line: empty lines and comments say nothing. An illegal byte of another line is found where it stands, by the word that it is in, so
-- if an earlier word is at fault, that one is found.
abbrev pub line_row : List ℕ → PlantText → Result PlantText Fault
line_row line plant = if is_passed_over line then passed_row line plant else words_row (words_of line) plant
