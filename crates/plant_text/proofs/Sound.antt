-- A plant that lines without a fault write breaks no rule of plants but the order of its priority rules.
use Rattle.std.proofs.Common.{◌≡◌, ◌∙◌, refl, sym, ap, subst, ℕ, ◌<◌, ◌≤◌, Bool, true, false, not, ◌&&◌, ◌++◌, List, [], length, map, Option, Some, None, Ok, Err}
use Rattle.std.specs.Prelude.{nat_le, nat_lt, option_map, if◌then◌else◌}
use Rattle.std.specs.List.{list_all, list_any}
use Rattle.std.specs.Option.{option_map_or}
use Rattle.std.proofs.lemmas.Bool.{and_from, le-leb, le-ltb, lt-ltb, ltb-true}
use Rattle.std.proofs.lemmas.List.{append-nil, length-map}
use Rattle.petri_atom.specs.Definition.{AtomDefinition, is_each_once}
use Rattle.petri_atom.specs.Expression.{all_variables}
use Rattle.petri_atom.specs.Name.{is_same_text}
use Rattle.petri_atom.proofs.Lists.{list_any-map}
use Rattle.priority_filter.specs.Decided.{order_fault}
use Rattle.priority_filter.specs.declared.fault.OrderFault.{OrderFault}
use Rattle.plant_model.specs.Choice as choice
use Rattle.plant_model.specs.Plant.{WireDefinition, PlantDefinition}
use Rattle.plant_model.specs.Rules.{first_of, first_fault_in, first_broken, is_small_wire, is_within_limits, is_known_port, is_known_export, is_known_input, is_same_export, has_value, names_known, atom_fault, tree_fault, fault_of_wire, wire_fault, early_fault, fault_of_count, late_fault, fault_of_order, fault_of}
use Rattle.plant_model.specs.declared.fault.SystemFault.TheVariants.{Limit, BadAtom, BadConnector, BadWire, Order}
use Rattle.plant_model.specs.declared.limits.TheConstants.{MAX_ATOMS, MAX_WIRES, MAX_RULES, MAX_INPUTS, MAX_INTERACTIONS}
use Rattle.plant_model.proofs.FirstFault.{five}
use Rattle.text_io.specs.declared.reading.TheConstants.{MAX_TEXT}
use Rattle.plant_words.specs.Lines.{lines_of}
use Rattle.connector_tree.specs.Tree as connectors
use Rattle.connector_tree.proofs.TokenFaults.{fault-tree}
use Rattle.connector_tree.proofs.TokenLeaves.{ports-tree}
use Rattle.plant_text.specs.Text.{PlantText, wire_text_of, text_of}
use Rattle.plant_text.specs.Interactions.{interactions_of}
use Rattle.plant_text.specs.Fault.{of_no_line}
use Rattle.plant_words.specs.Reading.{◌>>=◌}
use Rattle.plant_text.specs.Meaning.{lines_row, nothing, with_an_atom, with_an_order, written_in, meaning}
use Rattle.plant_text.specs.declared.fault.Fault.TheVariants as fault
use Rattle.plant_text.proofs.Numbered.{interactions_written}
use Rattle.plant_words.proofs.Steps.{led_on, same_end}
use Rattle.plant_text.proofs.SoundLists.{EachAfter, each_passes, each_mapped, none_told}
use Rattle.plant_text.proofs.SoundWires.{SoundAfter, SoundWire}
use Rattle.plant_text.proofs.SoundLines.{HasNewName, SoundText, text_sound}

-- ---- the rules of plants

-- a connector of which this holds as it is written breaks no rule of connectors
wire_keeps : (atoms : List AtomDefinition) (before : List WireDefinition) (w : WireDefinition) → SoundAfter atoms (map wire_text_of before) (wire_text_of w) → fault_of_wire atoms before w ≡ None
wire_keeps atoms before w sound =
    let named : list_any (λ v. is_same_text v.name w.name) before ≡ false = sym (list_any-map (λ v. is_same_text v.name w.name) wire_text_of before) ∙ sound.name in
    let leaves = ports-tree w.connector in
    let ports = subst (λ ports. list_all (is_known_port atoms) ports ≡ true) leaves sound.sound.ports in
    let variables = subst (λ ports. (list_all (all_variables (is_known_export atoms ports)) w.guards && list_all (names_known atoms ports) w.transfers) ≡ true) leaves
    (and_from _ _ sound.sound.guards.passing sound.sound.transfers.passing) in
    let none = sound.sound.inputs in
    let targets : is_each_once is_same_export (map (λ t. t.target) w.transfers ++ map (λ i. i.target) w.inputs) ≡ true =
    ap (λ is. is_each_once is_same_export (map (λ t. t.target) w.transfers ++ map (λ i. i.target) is)) none
    ∙ ap (is_each_once is_same_export) (append-nil (map (λ t. t.target) w.transfers)) ∙ sound.sound.transfers.once in
    five first_broken named ports (and_from _ _ variables (ap (list_all (is_known_input atoms (connectors.leaves w.connector))) none)) targets (ap (list_all has_value) none)

-- and it is within the limits
is_small : (atoms : List AtomDefinition) (w : WireDefinition) → SoundWire atoms (wire_text_of w) → is_small_wire w ≡ true
is_small atoms w sound =
    and_from _ _ (and_from _ _ sound.guards.small sound.transfers.small) (ap (λ is. nat_le (length is) MAX_INPUTS) sound.inputs)

module _ (plant : PlantDefinition) (sound : SoundText (text_of plant)) where
  -- what holds of a connector by those before it, all as they are written
  abbrev Holds : List WireDefinition → WireDefinition → Type 0
  Holds before w = SoundAfter plant.atoms (map wire_text_of before) (wire_text_of w)

  each : EachAfter Holds [] plant.wires
  each = each_mapped (SoundAfter plant.atoms) wire_text_of [] plant.wires sound.wires

  within : 0 < length plant.atoms → is_within_limits plant ≡ true
  within some =
      let few_wires : length plant.wires ≤ MAX_WIRES = subst (λ n. n ≤ MAX_WIRES) (length-map plant.wires wire_text_of) sound.few_wires in
      let small : list_all is_small_wire plant.wires ≡ true =
      each_passes Holds is_small_wire (λ before w holds. is_small plant.atoms w holds.sound) [] plant.wires each in
      and_from _ _ (and_from _ _ (and_from _ _ (and_from _ _ (lt-ltb 0 (length plant.atoms) some) (le-leb (length plant.atoms) MAX_ATOMS sound.few_atoms))
      (le-leb (length plant.wires) MAX_WIRES few_wires)) (and_from _ _ (le-leb (length plant.rules) MAX_RULES sound.few_rules) sound.conditions)) small

  early_sound : 0 < length plant.atoms → early_fault plant ≡ None
  early_sound some =
      let names : first_fault_in (atom_fault plant.atoms) 0 plant.atoms ≡ None =
      none_told (atom_fault plant.atoms) HasNewName plant.atoms (λ n a new. ap (λ b. if b then Some (BadAtom n) else None) new) [] plant.atoms refl sound.names in
      let trees : first_fault_in tree_fault 0 plant.wires ≡ None =
      none_told tree_fault Holds plant.wires (λ k w holds. ap (option_map (BadConnector k)) (sym (fault-tree w.connector) ∙ holds.sound.tree)) [] plant.wires refl each in
      ap (λ b. if not b then Some Limit else first_of (first_fault_in (atom_fault plant.atoms) 0 plant.atoms) (first_fault_in tree_fault 0 plant.wires)) (within some) ∙
      ap (λ o. first_of o (first_fault_in tree_fault 0 plant.wires)) names ∙ trees

  late_sound : late_fault plant ≡ None
  late_sound =
      let all = choice.plant_interactions plant in
      let wires : first_fault_in (wire_fault plant.atoms plant.wires) 0 plant.wires ≡ None =
      none_told (wire_fault plant.atoms plant.wires) Holds plant.wires (λ k w holds. ap (option_map (BadWire k)) (wire_keeps plant.atoms _ w holds)) [] plant.wires refl each in
      let count : length all ≡ length (interactions_of (text_of plant).wires) = sym (length-map all choice.named) ∙ ap length (interactions_written plant) in
      let few : length all ≤ MAX_INTERACTIONS = subst (λ n. n ≤ MAX_INTERACTIONS) (sym count) sound.few_interactions in
      ap (λ o. first_of o (fault_of_count (length all))) wires ∙
      ap (λ b. if b then Some Limit else None) (le-ltb MAX_INTERACTIONS (length all) few)

-- a plant that lines without a fault write, and that has an atom, breaks no rule but that of the order
pub sound_text : (lines : List (List ℕ)) (number : ℕ) (written : PlantText) (plant : PlantDefinition) →
    lines_row number lines nothing ≡ Ok written → 0 < length written.atoms → text_of plant ≡ written →
    (early_fault plant ≡ None) × (late_fault plant ≡ None)
sound_text lines number written plant is some same =
    let sound : SoundText (text_of plant) = subst SoundText (sym same) (text_sound number lines written is) in
    (early_sound plant sound (subst (λ w. 0 < length w.atoms) (sym same) some), late_sound plant sound)

-- so its fault, if it has one, is that of the order
pub sound_but_order : (lines : List (List ℕ)) (number : ℕ) (written : PlantText) (plant : PlantDefinition) →
    lines_row number lines nothing ≡ Ok written → 0 < length written.atoms → text_of plant ≡ written →
    fault_of plant ≡ fault_of_order plant
sound_but_order lines number written plant is some same =
    let sound = sound_text lines number written plant is some same in
    ap (λ o. first_of o (first_of (late_fault plant) (fault_of_order plant))) sound.0 ∙ ap (λ o. first_of o (fault_of_order plant)) sound.1

-- ---- texts

-- the plant where it has an atom
some_atom : (plant written : PlantText) → with_an_atom plant ≡ Ok written → (plant ≡ written) × (0 < length plant.atoms)
some_atom plant written is = each (nat_lt 0 (length plant.atoms)) refl is
  where
    each : (b : Bool) → nat_lt 0 (length plant.atoms) ≡ b → (if b then Ok plant else Err (of_no_line fault.NoAtom)) ≡ Ok written → (plant ≡ written) × (0 < length plant.atoms)
    each true some told = (same_end plant written told, ltb-true 0 (length plant.atoms) some)
    each false none told = absurd (cc)

-- the plant where its rules put an order on its interactions
some_order : (plant written : PlantText) → with_an_order plant ≡ Ok written → (plant ≡ written) × (order_fault plant.rules (interactions_of plant.wires) ≡ None)
some_order plant written is = each (order_fault plant.rules (interactions_of plant.wires)) refl is
  where
    each : (o : Option OrderFault) → order_fault plant.rules (interactions_of plant.wires) ≡ o → option_map_or (λ told. Err (of_no_line (fault.Order told))) o (Ok plant) ≡ Ok written → (plant ≡ written) × (order_fault plant.rules (interactions_of plant.wires) ≡ None)
    each None none told = (same_end plant written told, none)
    each (Some broken) some told = absurd (cc)

-- what a text means that has a meaning
pub record MeantBy (text : List ℕ) (written : PlantText) : Type 0 where
  pub lines : lines_row 1 (lines_of text) nothing ≡ Ok written
  pub atoms : 0 < length written.atoms
  pub order : order_fault written.rules (interactions_of written.wires) ≡ None

pub meant : (text : List ℕ) (written : PlantText) → meaning text ≡ Ok written → MeantBy text written
meant text written is =
    let last = led_on (written_in text) with_an_order written is in
    let order = some_order last.0 written last.2 in
    let parts = each last.0 (nat_lt MAX_TEXT (length text)) last.1 in
    record {
      lines = parts.0 ∙ ap Ok order.0;
      atoms = subst (λ p. 0 < length p.atoms) order.0 parts.1;
      order = subst (λ p. order_fault p.rules (interactions_of p.wires) ≡ None) order.0 order.1;
    }
  where
    each : (p : PlantText) (long : Bool) → (if long then Err (of_no_line fault.TooLong) else (lines_row 1 (lines_of text) nothing >>= with_an_atom)) ≡ Ok p →
        (lines_row 1 (lines_of text) nothing ≡ Ok p) × (0 < length p.atoms)
    each p true told = absurd (cc)
    each p false told =
        let first = led_on (lines_row 1 (lines_of text) nothing) with_an_atom p told in
        let atom = some_atom first.0 p first.2 in
        (first.1 ∙ ap Ok atom.0, subst (λ q. 0 < length q.atoms) atom.0 atom.1)

-- a plant that is written as a text means breaks no rule
pub meaning_sound : (text : List ℕ) (written : PlantText) (plant : PlantDefinition) → meaning text ≡ Ok written → text_of plant ≡ written → fault_of plant ≡ None
meaning_sound text written plant is same =
    let parts = meant text written is in
    let order : order_fault plant.rules (interactions_of (text_of plant).wires) ≡ None = subst (λ p. order_fault p.rules (interactions_of p.wires) ≡ None) (sym same) parts.order in
    sound_but_order (lines_of text) 1 written plant parts.lines parts.atoms same ∙
    ap (λ is. option_map Order (order_fault plant.rules is)) (interactions_written plant) ∙ ap (option_map Order) order
