-- What a plant holds that keeps the rules: expressions, trees and rules as the laws of their reading want them.
use Rattle.std.proofs.Common.{◌≡◌, ◌∙◌, ap, ℕ, ◌<◌, true, false, ◌&&◌, List, length, ◌∷◌, [], ◌++◌, Contains, Some, None, Ok, slice_get, nat_lt, nat_le}
use Rattle.std.specs.List.{list_all}
use Rattle.std.proofs.lemmas.Bool.{and_parts, and_from}
use Rattle.std.proofs.lemmas.Option.{slice_get-get_or}
use Rattle.petri_atom.specs.Definition.{AtomDefinition, TransitionDefinition, UpdateDefinition, are_below, has_each_once, has_known_numbers_in, has_known_variables, has_known_numbers, is_small_transition, is_small_value, is_well_formed}
use Rattle.petri_atom.specs.Definition as atom
use Rattle.petri_atom.specs.Expression.{Tree, word_count, all_variables, has_variables_below}
use Rattle.petri_atom.specs.declared.parts.TheConstants.{MAX_WORDS, MAX_UPDATES}
use Rattle.connector_tree.specs.Faults as tree
use Rattle.connector_tree.specs.Tree.{leaves}
use Rattle.connector_tree.specs.declared.tree.Port.{Port}
use Rattle.connector_tree.proofs.Sound.{sound}
use Rattle.priority_filter.specs.declared.rule.Rule.{Rule}
use Rattle.plant_model.specs.Plant.{PlantDefinition, TransferDefinition, WireDefinition}
use Rattle.plant_model.specs.Rules.{are_small_guards, are_small_transfers, is_known_export, is_small_wire, names_known}
use Rattle.plant_model.specs.declared.limits.TheConstants.{MAX_GUARDS, MAX_RULES, MAX_TRANSFERS}
use Rattle.plant_model.specs.declared.wire.Export.{Export}
use Rattle.plant_model.proofs.Membership.{all-in}
use Rattle.plant_model.proofs.TreeRules.{early_trees, tree_sound}
use Rattle.plant_words.specs.Words.{words_of}
use Rattle.plant_text.specs.Rows.{words_row}
use Rattle.part_text.specs.Rule.{rule_text}
use Rattle.read_back.specs.Expressions.{has_numbers_in_range, is_over_atom, is_over_ports}
use Rattle.read_back.specs.Names.{are_named, are_named_atoms, names_its_parts}
use Rattle.read_back.specs.Plants.{KeepsTheRules}
use Rattle.read_back.specs.ReadBack.{IsFoundAtPorts, IsFoundInAtom, IsReadAtPorts, IsReadInAtom, IsReadTree}
use Rattle.read_back.specs.Rules.{with_rules}
use Rattle.read_back.proofs.Exports as exports
use Rattle.read_back.proofs.OnePart.{atoms_named, condition_named, early, wire_keeps, wires_named, within_limits}
use Rattle.read_back.proofs.OwnRules.{own_rule}
use Rattle.read_back.proofs.Sides.{rule_read}
use Rattle.read_back.proofs.Trees.{tree_is_read}
use Rattle.read_back.proofs.Variables as variables

module _ (plant : PlantDefinition) (kept : KeepsTheRules plant) where
  named : are_named_atoms plant.atoms ≡ true
  named = atoms_named plant kept.valid kept.names kept.formed

  -- ---- connectors

  module _ (w : WireDefinition) (own : Contains plant.wires w) where
    abbrev ports : List Port
    ports = leaves w.connector

    there : slice_get plant.wires own.0 ≡ Some w
    there = slice_get-get_or plant.wires own.0 w own.1 ∙ ap Some own.2

    known_guards : list_all (all_variables (is_known_export plant.atoms ports)) w.guards ≡ true
    known_guards = (and_parts _ _ (wire_keeps plant kept.valid own.0 w there).2).0

    known_transfers : list_all (names_known plant.atoms ports) w.transfers ≡ true
    known_transfers = (and_parts _ _ (wire_keeps plant kept.valid own.0 w there).2).1

    no_fault : tree.fault_of w.connector ≡ None
    no_fault = tree_sound 0 plant.wires (early_trees plant (early plant kept.valid)) own.0 w there

    apart : tree.has_repeat (tree.atoms ports) ≡ false
    apart = (sound w.connector no_fault).distinct_atoms

    small : (are_small_guards w.guards && are_small_transfers w.transfers) ≡ true
    small = (and_parts _ _ (all-in is_small_wire plant.wires (and_parts _ _ (within_limits plant kept.valid)).1 w own)).0

    pub tree_read : IsReadTree plant.atoms w.connector
    tree_read = tree_is_read plant.atoms named w.connector (wire_keeps plant kept.valid own.0 w there).1 no_fault

    -- what is over its ports, and no longer than an expression may be
    over_ports : (e : Tree Export) → all_variables (is_known_export plant.atoms ports) e ≡ true → nat_le (word_count e) MAX_WORDS ≡ true → has_numbers_in_range e ≡ true → is_over_ports plant.atoms ports e ≡ true
    over_ports e known short numbers = and_from (all_variables (is_known_export plant.atoms ports) e) _ known (and_from (nat_le (word_count e) MAX_WORDS) (has_numbers_in_range e) short numbers)

    pub guard_read : (e : Tree Export) → Contains w.guards e → has_numbers_in_range e ≡ true → IsReadAtPorts plant.atoms ports e
    guard_read e at numbers =
        let short = (and_parts (nat_le (length w.guards) MAX_GUARDS) (list_all (λ clause. nat_le (word_count clause) MAX_WORDS) w.guards) (and_parts (are_small_guards w.guards) (are_small_transfers w.transfers) small).0).1 in
        exports.read_alone plant.atoms ports named kept.formed apart e
        (over_ports e (all-in (all_variables (is_known_export plant.atoms ports)) w.guards known_guards e at) (all-in (λ clause. nat_le (word_count clause) MAX_WORDS) w.guards short e at) numbers)

    module _ (t : TransferDefinition) (at : Contains w.transfers t) where
      names : (is_known_export plant.atoms ports t.target ≡ true) × (all_variables (is_known_export plant.atoms ports) t.value ≡ true)
      names =
          and_parts (is_known_export plant.atoms ports t.target) (all_variables (is_known_export plant.atoms ports) t.value) (all-in (names_known plant.atoms ports) w.transfers known_transfers t at)

      pub target_found : IsFoundAtPorts plant.atoms ports t.target
      target_found = exports.found plant.atoms ports named kept.formed apart t.target names.0

      pub value_read : has_numbers_in_range t.value ≡ true → IsReadAtPorts plant.atoms ports t.value
      value_read numbers =
          let short = (and_parts (nat_le (length w.transfers) MAX_TRANSFERS) (list_all (λ t. nat_le (word_count t.value) MAX_WORDS) w.transfers) (and_parts (are_small_guards w.guards) (are_small_transfers w.transfers) small).1).1 in
          exports.read_alone plant.atoms ports named kept.formed apart t.value
          (over_ports t.value names.1 (all-in (λ t. nat_le (word_count t.value) MAX_WORDS) w.transfers short t at) numbers)

  -- ---- atoms

  module _ (a : AtomDefinition) (own : Contains plant.atoms a) where
    formed : is_well_formed a ≡ true
    formed = all-in is_well_formed plant.atoms kept.formed a own

    variables_named : are_named (λ v. v.name) a.variables ≡ true
    variables_named =
        let parts : names_its_parts a ≡ true = all-in names_its_parts plant.atoms (and_parts _ _ named).1 a own in
        (and_parts _ _ parts).0

    -- what is over its variables, and no longer than an expression may be
    over_atom : (e : Tree ℕ) → has_variables_below (length a.variables) e ≡ true → nat_le (word_count e) MAX_WORDS ≡ true → has_numbers_in_range e ≡ true → is_over_atom a e ≡ true
    over_atom e known short numbers = and_from (has_variables_below (length a.variables) e) _ known (and_from (nat_le (word_count e) MAX_WORDS) (has_numbers_in_range e) short numbers)

    module _ (t : TransitionDefinition) (at : Contains a.transitions t) where
      known : (has_variables_below (length a.variables) t.guard ≡ true) × (list_all (has_known_variables (length a.variables)) t.updates ≡ true)
      known =
          let numbers : has_known_numbers a ≡ true = (and_parts _ _ (and_parts _ _ formed).0).1 in
          let all = (and_parts _ _ numbers).1 in
          let one : has_known_numbers_in (length a.ports) (length a.places) (length a.variables) t ≡ true = all-in (has_known_numbers_in (length a.ports) (length a.places) (length a.variables)) a.transitions all t at in
          let updates = and_parts (nat_lt t.port (length a.ports) && are_below (length a.places) t.sources && are_below (length a.places) t.targets && has_variables_below (length a.variables) t.guard) (list_all (has_known_variables (length a.variables)) t.updates) one in
          let guard = and_parts (nat_lt t.port (length a.ports) && are_below (length a.places) t.sources && are_below (length a.places) t.targets) (has_variables_below (length a.variables) t.guard) updates.0 in
          (guard.1, updates.1)

      short : (nat_le (word_count t.guard) MAX_WORDS ≡ true) × (list_all is_small_value t.updates ≡ true)
      short =
          let limits : atom.is_within_limits a ≡ true = (and_parts _ _ (and_parts _ _ (and_parts _ _ formed).0).0).0 in
          let one : is_small_transition t ≡ true = all-in is_small_transition a.transitions (and_parts _ _ limits).1 t at in
          let updates = and_parts (nat_le (length t.updates) MAX_UPDATES && nat_le (word_count t.guard) MAX_WORDS) (list_all is_small_value t.updates) one in
          ((and_parts (nat_le (length t.updates) MAX_UPDATES) (nat_le (word_count t.guard) MAX_WORDS) updates.0).1, updates.1)

      pub condition_read : has_numbers_in_range t.guard ≡ true → IsReadInAtom a t.guard
      condition_read numbers = variables.read_alone a variables_named t.guard (over_atom t.guard known.0 short.0 numbers)

      module _ (u : UpdateDefinition) (in_it : Contains t.updates u) where
        names_of_update : (nat_lt u.variable (length a.variables) ≡ true) × (has_variables_below (length a.variables) u.value ≡ true)
        names_of_update = and_parts (nat_lt u.variable (length a.variables)) (has_variables_below (length a.variables) u.value) (all-in (has_known_variables (length a.variables)) t.updates known.1 u in_it)

        pub updated_found : IsFoundInAtom a u.variable
        updated_found = variables.found a variables_named u.variable names_of_update.0

        pub update_read : has_numbers_in_range u.value ≡ true → IsReadInAtom a u.value
        update_read numbers = variables.read_alone a variables_named u.value (over_atom u.value names_of_update.1 (all-in is_small_value t.updates short.1 u in_it) numbers)

  -- ---- rules

  pub line_read : (rule : Rule) (rules : List Rule) → Contains plant.rules rule → length rules < MAX_RULES →
      words_row (words_of (rule_text plant rule)) (with_rules plant rules) ≡ Ok (with_rules plant (rules ++ rule ∷ []))
  line_read rule rules own room =
      rule_read plant (wires_named plant kept.valid kept.names) rule rules (own_rule plant kept.valid rule own)
      (condition_named plant kept.valid kept.names kept.formed rule own) room
