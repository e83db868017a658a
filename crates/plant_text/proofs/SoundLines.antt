-- What holds of a plant that lines write, line by line, if none has a fault.
use Rattle.std.proofs.Common.{◌≡◌, ◌∙◌, refl, sym, ap, subst, ℕ, ◌+◌, ◌<◌, ◌≤◌, arith, Bool, true, false, List, [], ◌∷◌, ◌++◌, length, drop, Result, Ok, Err, lit≤}
use Rattle.std.specs.Prelude.{nat_lt, is_none}
use Rattle.std.specs.List.{list_all, list_any}
use Rattle.std.specs.Option.{ok_or}
use Rattle.std.proofs.lemmas.Bool.{and_from, and_parts, ltb-true, leb-true}
use Rattle.std.proofs.lemmas.List.{length-append}
use Rattle.petri_atom.specs.Definition.{AtomDefinition}
use Rattle.petri_atom.specs.Name.{is_same_text}
use Rattle.petri_atom.specs.Parts.{definition_by}
use Rattle.petri_atom.proofs.Fitting.{all_weaker}
use Rattle.priority_filter.specs.declared.rule.Rule.{Rule}
use Rattle.plant_model.specs.Rules.{is_known_condition}
use Rattle.plant_model.specs.declared.limits.TheConstants.{MAX_ATOMS, MAX_WIRES, MAX_RULES, MAX_INTERACTIONS}
use Rattle.plant_words.specs.Lines.{is_legal_line}
use Rattle.plant_words.specs.Words.{words_of, is_passed_over}
use Rattle.plant_words.specs.Reading.{first_name, at_end, ◌>>=◌, check}
use Rattle.plant_words.specs.LineKinds.{kind_in}
use Rattle.plant_words.specs.declared.line_kind.AtomPart.{AtomPart}
use Rattle.plant_words.specs.declared.line_kind.AtomPart.TheVariants.{Place, Variable, Port, Transition}
use Rattle.plant_words.specs.declared.line_kind.WirePart.{WirePart}
use Rattle.plant_words.specs.declared.line_kind.RuleKind.{RuleKind}
use Rattle.plant_words.specs.declared.line_kind.LineKind.{LineKind}
use Rattle.plant_words.specs.declared.line_kind.LineKind.TheVariants.{Atom, Connector, OfAtom, OfConnector, Rule as OfRule}
use Rattle.atom_lines.proofs.Growing.{Grows, place_grows, variable_grows, port_grows, transition_grows}
use Rattle.plant_words.proofs.Positions.{none-passes}
use Rattle.connector_tree.specs.TokenMeaning.{interactions_in}
use Rattle.plant_text.specs.Text.{WireText, PlantText}
use Rattle.plant_text.specs.Interactions.{interactions_of}
use Rattle.plant_text.specs.Names.{atom_number}
use Rattle.plant_text.specs.Rows.{told, last_changed, atom_part_row, wire_part_row, atom_row, rule_in, rule_row, row_of, words_row, passed_row, line_row}
use Rattle.plant_text.specs.Meaning.{on_line, lines_row, nothing}
use Rattle.plant_text.specs.declared.fault.Fault.{Fault}
use Rattle.plant_text.specs.declared.fault.Fault.TheVariants.{NotAscii, UnknownWord, Twice, Limit}
use Rattle.plant_words.proofs.Exits.{room_for_one}
use Rattle.plant_words.proofs.Steps.{adds_named, led_on, passed, same_end, either_way}
use Rattle.plant_text.proofs.SoundLists.{was_none, was_found, changed_last, EachAfter, each_of_none, each_and_one, each_before_last, each_weaker}
use Rattle.plant_text.proofs.SoundAtoms.{Extends, extended, extended_last, condition_stays}
use Rattle.plant_text.proofs.SoundRules.{rule_known}
use Rattle.plant_text.proofs.SoundWires.{SoundAfter, stays_after, part_kept, connector_added, interactions_and_more, same_interactions}

-- no atom before has the name of this one
abbrev pub HasNewName : List AtomDefinition → AtomDefinition → Type 0
HasNewName before a = list_any (λ b. is_same_text b.name a.name) before ≡ false

-- a plant as it is written, of which each line was without a fault
pub record SoundText (plant : PlantText) : Type 0 where
  pub few_atoms : length plant.atoms ≤ MAX_ATOMS
  pub few_wires : length plant.wires ≤ MAX_WIRES
  pub few_rules : length plant.rules ≤ MAX_RULES
  pub few_interactions : length (interactions_of plant.wires) ≤ MAX_INTERACTIONS
  pub names : EachAfter HasNewName [] plant.atoms
  pub wires : EachAfter (SoundAfter plant.atoms) [] plant.wires
  pub conditions : list_all (is_known_condition plant.atoms) plant.rules ≡ true

nothing_sound : SoundText nothing
nothing_sound = record {
  few_atoms = lit≤ tt;
  few_wires = lit≤ tt;
  few_rules = lit≤ tt;
  few_interactions = lit≤ tt;
  names = each_of_none HasNewName [];
  wires = each_of_none (SoundAfter []) [];
  conditions = refl;
}

-- as many, with another last one
as_many : {X : Type 0} (bound : ℕ) (front : List X) (last changed : X) → length (front ++ last ∷ []) ≤ bound → length (front ++ changed ∷ []) ≤ bound
as_many bound front last changed few =
    let before : length (front ++ last ∷ []) ≡ length front + 1 = length-append front (last ∷ []) in
    let after : length (front ++ changed ∷ []) ≡ length front + 1 = length-append front (changed ∷ []) in
    omega (arith, before, after, few)

-- ---- atoms

-- what holds of the atoms, and of the connectors by them, with other atoms
with_atoms : (plant : PlantText) (atoms : List AtomDefinition) → SoundText plant → Extends plant.atoms atoms →
    length atoms ≤ MAX_ATOMS → EachAfter HasNewName [] atoms → SoundText (record plant { atoms = atoms })
with_atoms plant atoms sound extends few names = record {
  few_atoms = few;
  few_wires = sound.few_wires;
  few_rules = sound.few_rules;
  few_interactions = sound.few_interactions;
  names = names;
  wires = each_weaker (SoundAfter plant.atoms) (SoundAfter atoms) (stays_after plant.atoms atoms extends) [] plant.wires sound.wires;
  conditions = all_weaker (is_known_condition plant.atoms) (is_known_condition atoms) (condition_stays plant.atoms atoms extends) plant.rules sound.conditions;
}

atom_sound : (words : List (List ℕ)) (plant next : PlantText) → SoundText plant → atom_row words plant ≡ Ok next → SoundText next
atom_sound words plant next sound is =
    let line = adds_named (nat_lt (length plant.atoms) MAX_ATOMS) Limit Twice (told (first_name words)) (λ name. is_none (atom_number plant.atoms name)) (told (at_end (drop 1 words)))
    (λ name end. Ok (record plant { atoms = plant.atoms ++ definition_by name [] [] [] [] ∷ [] })) next is in
    let atom : AtomDefinition = definition_by line.name [] [] [] [] in
    let same : record plant { atoms = plant.atoms ++ atom ∷ [] } ≡ next = same_end (record plant { atoms = plant.atoms ++ atom ∷ [] }) next line.gives in
    let none = was_none (atom_number plant.atoms line.name) line.new in
    let few : length plant.atoms < MAX_ATOMS = ltb-true (length plant.atoms) MAX_ATOMS line.has_room in
    subst SoundText same
    (with_atoms plant (plant.atoms ++ atom ∷ []) sound (extended plant.atoms atom) (room_for_one MAX_ATOMS plant.atoms atom few)
    (each_and_one HasNewName [] plant.atoms atom sound.names (none-passes (λ b. is_same_text b.name line.name) plant.atoms none)))

-- a part of an atom leaves its name and its ports
part_grows : (part : AtomPart) (words : List (List ℕ)) (a grown : AtomDefinition) → atom_part_row part words a ≡ Ok grown → Grows a grown
part_grows Place words a grown is = place_grows words a grown is
part_grows Variable words a grown is = variable_grows words a grown is
part_grows Port words a grown is = port_grows words a grown is
part_grows Transition words a grown is = transition_grows words a grown is

last_grown : (plant : PlantText) (front : List AtomDefinition) (a grown : AtomDefinition) → SoundText plant →
    plant.atoms ≡ front ++ a ∷ [] → Grows a grown → SoundText (record plant { atoms = front ++ grown ∷ [] })
last_grown plant front a grown sound split grows =
    let names = each_before_last HasNewName [] front a (subst (EachAfter HasNewName []) split sound.names) in
    let new : HasNewName front grown = subst (λ name. list_any (λ b. is_same_text b.name name) front ≡ false) (sym grows.name) names.1 in
    with_atoms plant (front ++ grown ∷ []) sound
    (subst (λ atoms. Extends atoms (front ++ grown ∷ [])) (sym split) (extended_last front a grown grows))
    (as_many MAX_ATOMS front a grown (subst (λ atoms. length atoms ≤ MAX_ATOMS) split sound.few_atoms))
    (each_and_one HasNewName [] front grown names.0 new)

atom_part_sound : (part : AtomPart) (words : List (List ℕ)) (plant next : PlantText) → SoundText plant →
    row_of (OfAtom part) words plant ≡ Ok next → SoundText next
atom_part_sound part words plant next sound is =
    let made : List AtomDefinition → Result PlantText Fault = λ atoms. Ok (record plant { atoms = atoms }) in
    let read = led_on (last_changed (atom_part_row part words) plant.atoms) made next is in
    let last = changed_last (atom_part_row part words) plant.atoms read.0 read.1 in
    let same : record plant { atoms = read.0 } ≡ next = same_end (record plant { atoms = read.0 }) next read.2 in
    subst SoundText (ap (λ atoms. record plant { atoms = atoms }) (sym last.after) ∙ same)
    (last_grown plant last.front last.last last.changed sound last.before (part_grows part words last.last last.changed last.by))

-- ---- connectors

-- with other connectors
with_wires : (plant : PlantText) (wires : List WireText) → SoundText plant → length wires ≤ MAX_WIRES →
    length (interactions_of wires) ≤ MAX_INTERACTIONS → EachAfter (SoundAfter plant.atoms) [] wires →
    SoundText (record plant { wires = wires })
with_wires plant wires sound few few_interactions each = record {
  few_atoms = sound.few_atoms;
  few_wires = few;
  few_rules = sound.few_rules;
  few_interactions = few_interactions;
  names = sound.names;
  wires = each;
  conditions = sound.conditions;
}

connector_sound : (words : List (List ℕ)) (plant next : PlantText) → SoundText plant → row_of Connector words plant ≡ Ok next → SoundText next
connector_sound words plant next sound is =
    let adds = connector_added words plant next is in
    let more : length (interactions_of (plant.wires ++ adds.added ∷ [])) ≡ length (interactions_of plant.wires) + length (interactions_in adds.added.tree) = interactions_and_more plant.wires adds.added in
    let room : length (interactions_of plant.wires) + length (interactions_in adds.added.tree) ≤ MAX_INTERACTIONS =
    leb-true (length (interactions_of plant.wires) + length (interactions_in adds.added.tree)) MAX_INTERACTIONS adds.has_room in
    subst SoundText adds.is
    (with_wires plant (plant.wires ++ adds.added ∷ []) sound (room_for_one MAX_WIRES plant.wires adds.added adds.room) (omega (arith, more, room))
    (each_and_one (SoundAfter plant.atoms) [] plant.wires adds.added sound.wires adds.sound))

last_kept : (part : WirePart) (words : List (List ℕ)) (plant : PlantText) (front : List WireText) (last changed : WireText) →
    SoundText plant → plant.wires ≡ front ++ last ∷ [] → wire_part_row part plant.atoms words last ≡ Ok changed →
    SoundText (record plant { wires = front ++ changed ∷ [] })
last_kept part words plant front last changed sound split by =
    let behind = each_before_last (SoundAfter plant.atoms) [] front last (subst (EachAfter (SoundAfter plant.atoms) []) split sound.wires) in
    let kept = part_kept part plant.atoms words last changed behind.1.sound by in
    let named : list_any (λ v. is_same_text v.name changed.name) front ≡ false = subst (λ name. list_any (λ v. is_same_text v.name name) front ≡ false) (sym kept.name) behind.1.name in
    with_wires plant (front ++ changed ∷ []) sound
    (as_many MAX_WIRES front last changed (subst (λ wires. length wires ≤ MAX_WIRES) split sound.few_wires))
    (subst (λ is. length is ≤ MAX_INTERACTIONS) (ap interactions_of split ∙ sym (same_interactions front last changed kept.tree)) sound.few_interactions)
    (each_and_one (SoundAfter plant.atoms) [] front changed behind.0 (record { name = named; sound = kept.sound }))

wire_part_sound : (part : WirePart) (words : List (List ℕ)) (plant next : PlantText) → SoundText plant →
    row_of (OfConnector part) words plant ≡ Ok next → SoundText next
wire_part_sound part words plant next sound is =
    let made : List WireText → Result PlantText Fault = λ wires. Ok (record plant { wires = wires }) in
    let read = led_on (last_changed (wire_part_row part plant.atoms words) plant.wires) made next is in
    let last = changed_last (wire_part_row part plant.atoms words) plant.wires read.0 read.1 in
    let same : record plant { wires = read.0 } ≡ next = same_end (record plant { wires = read.0 }) next read.2 in
    subst SoundText (ap (λ wires. record plant { wires = wires }) (sym last.after) ∙ same)
    (last_kept part words plant last.front last.last last.changed sound last.before last.by)

-- ---- rules

all_and_one : {X : Type 0} (test : X → Bool) (xs : List X) (x : X) → list_all test xs ≡ true → test x ≡ true → list_all test (xs ++ x ∷ []) ≡ true
all_and_one test [] x all one = and_from (test x) true one refl
all_and_one test (y ∷ xs) x all one =
    let parts = and_parts (test y) (list_all test xs) all in
    and_from (test y) (list_all test (xs ++ x ∷ [])) parts.0 (all_and_one test xs x parts.1 one)

rule_sound : (kind : RuleKind) (words : List (List ℕ)) (plant next : PlantText) → SoundText plant →
    rule_row kind words plant ≡ Ok next → SoundText next
rule_sound kind words plant next sound is =
    let made : Rule → Result PlantText Fault = λ rule. Ok (record plant { rules = plant.rules ++ rule ∷ [] }) in
    let room = led_on (check (nat_lt (length plant.rules) MAX_RULES) Limit) (λ _. told (rule_in kind plant.atoms plant.wires words) >>= made) next is in
    let rule = led_on (told (rule_in kind plant.atoms plant.wires words)) made next room.2 in
    let same : record plant { rules = plant.rules ++ rule.0 ∷ [] } ≡ next = same_end (record plant { rules = plant.rules ++ rule.0 ∷ [] }) next rule.2 in
    let few : length plant.rules < MAX_RULES = ltb-true (length plant.rules) MAX_RULES (passed (nat_lt (length plant.rules) MAX_RULES) Limit room.0 room.1) in
    let known = rule_known plant.atoms kind plant.wires words rule.0 (was_found (rule_in kind plant.atoms plant.wires words) rule.0 rule.1) in
    subst SoundText same (record {
      few_atoms = sound.few_atoms;
      few_wires = sound.few_wires;
      few_rules = room_for_one MAX_RULES plant.rules rule.0 few;
      few_interactions = sound.few_interactions;
      names = sound.names;
      wires = sound.wires;
      conditions = all_and_one (is_known_condition plant.atoms) plant.rules rule.0 sound.conditions known;
    })

-- ---- lines

row_sound : (kind : LineKind) (words : List (List ℕ)) (plant next : PlantText) → SoundText plant → row_of kind words plant ≡ Ok next → SoundText next
row_sound Atom words plant next sound is = atom_sound words plant next sound is
row_sound Connector words plant next sound is = connector_sound words plant next sound is
row_sound (OfAtom part) words plant next sound is = atom_part_sound part words plant next sound is
row_sound (OfConnector part) words plant next sound is = wire_part_sound part words plant next sound is
row_sound (OfRule kind) words plant next sound is = rule_sound kind words plant next sound is

words_sound : (words : List (List ℕ)) (plant next : PlantText) → SoundText plant → words_row words plant ≡ Ok next → SoundText next
words_sound [] plant next sound is = subst SoundText (same_end plant next is) sound
words_sound (word ∷ words) plant next sound is =
    let legal = led_on (check (is_legal_line word) NotAscii) (λ _. ok_or (kind_in word) UnknownWord >>= λ kind. row_of kind words plant) next is in
    let kind = led_on (ok_or (kind_in word) UnknownWord) (λ kind. row_of kind words plant) next legal.2 in
    row_sound kind.0 words plant next sound kind.2

-- a line without a fault
pub line_sound : (line : List ℕ) (plant next : PlantText) → SoundText plant → line_row line plant ≡ Ok next → SoundText next
line_sound line plant next sound =
    either_way (is_passed_over line) (passed_row line plant) (words_row (words_of line) plant) next (SoundText next)
    (λ passed. let legal = led_on (check (is_legal_line line) NotAscii) (λ _. Ok plant) next passed in subst SoundText (same_end plant next legal.2) sound)
    (words_sound (words_of line) plant next sound)

pub found_on_line : {A : Type 0} (number : ℕ) (r : Result A Fault) (x : A) → on_line number r ≡ Ok x → r ≡ Ok x
found_on_line number (Ok y) x is = cc
found_on_line number (Err fault) x is = absurd (cc)

-- lines without a fault
pub lines_sound : (number : ℕ) (lines : List (List ℕ)) (plant next : PlantText) → SoundText plant →
    lines_row number lines plant ≡ Ok next → SoundText next
lines_sound number [] plant next sound is = subst SoundText (same_end plant next is) sound
lines_sound number (line ∷ lines) plant next sound is =
    let first = led_on (on_line number (line_row line plant)) (λ p. lines_row (number + 1) lines p) next is in
    lines_sound (number + 1) lines first.0 next (line_sound line plant first.0 sound (found_on_line number (line_row line plant) first.0 first.1)) first.2

pub text_sound : (number : ℕ) (lines : List (List ℕ)) (written : PlantText) → lines_row number lines nothing ≡ Ok written → SoundText written
text_sound number lines written is = lines_sound number lines nothing written nothing_sound is
