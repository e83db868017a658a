-- Expressions over the variables that the ports of a connector's leaves export.
use Rattle.std.proofs.Common.{◌≡◌, ◌∙◌, refl, sym, ap, ℕ, ◌<◌, true, false, List, [], ◌∷◌, ◌++◌, append-nil, append_assoc, length, codes, Option, Some, None, Ok, option_map, option_and_then, slice_get, nat_lt, nat_eq, ltb-true, leb-true, eq-eqb}
use Rattle.std.specs.List.{list_all}
use Rattle.std.specs.Option.{option_map_or}
use Rattle.std.proofs.lemmas.Bool.{and_parts, false≢true}
use Rattle.petri_atom.specs.Definition.{AtomDefinition, PortDefinition, exports_of, variable_name, is_each_once, are_below, exports_once, exports_known, is_well_formed}
use Rattle.petri_atom.specs.Expression.{Tree, word_count}
use Rattle.petri_atom.specs.Name.{is_same_text}
use Rattle.petri_atom.specs.declared.parts.TheConstants.{MAX_WORDS}
use Rattle.petri_atom.specs.declared.parts.Variable.{Variable}
use Rattle.petri_atom.proofs.Fitting.{all_get}
use Rattle.connector_tree.specs.Faults as tree
use Rattle.connector_tree.specs.declared.tree.Port.{Port}
use Rattle.plant_model.specs.Rules.{is_exported, is_known_export}
use Rattle.plant_model.specs.declared.wire.Export.{Export}
use Rattle.plant_words.specs.ExpressionWords.{variable_found, word_in}
use Rattle.plant_words.specs.Expressions.{expression_in}
use Rattle.plant_words.specs.Words.{words_of}
use Rattle.atom_lines.specs.Lookup.{export_number, is_named}
use Rattle.connector_lines.specs.Exports.{leaf_of, export_at, export_of, variable_in}
use Rattle.plant_text.specs.Names.{atom_number, export_named}
use Rattle.part_text.specs.Export.{exported_name, variable_of_port, export_name}
use Rattle.part_text.specs.Expression.{expression_text}
use Rattle.read_back.specs.Expressions.{is_over_ports}
use Rattle.read_back.specs.Names.{are_named, names_its_parts, are_named_atoms}
use Rattle.read_back.specs.ReadBack.{IsFoundAtPorts, IsReadAtPorts}
use Rattle.read_back.proofs.Words.{is_one_word, IsBehind, nothing_after, space_after}
use Rattle.read_back.proofs.Bytes.{IsOfName}
use Rattle.read_back.proofs.ExpressionWords.{variable_reads}
use Rattle.read_back.proofs.Expressions.{text_read}
use Rattle.read_back.proofs.Found.{there_at, passing, first_at, differ_at, same_text_itself, named_at, other_name, found_by_name, leaf_found}
use Rattle.read_back.proofs.Dotted.{dotted, dotted_is_one_word, plain_dotted, dotted_sides}

-- ---- what a port exports

module _ (a : AtomDefinition) (formed : is_well_formed a ≡ true) (port : ℕ) where
  once : list_all exports_once a.ports ≡ true
  once =
      let known = and_parts _ _ formed in
      let limits = and_parts _ _ known.0 in
      let each = and_parts _ _ (and_parts _ _ limits.0).1 in
      (and_parts _ _ each.0).1

  known : list_all (exports_known (length a.variables)) a.ports ≡ true
  known =
      let places = and_parts _ _ formed in
      let numbers = and_parts _ _ places.0 in
      (and_parts _ _ numbers.1).0

  -- each variable once, and variables that are there
  exported_once : is_each_once nat_eq (exports_of a port) ≡ true
  exported_once = each (slice_get a.ports port) refl
    where
      each : (found : Option PortDefinition) → slice_get a.ports port ≡ found → is_each_once nat_eq (option_map_or (λ p. p.exports) found []) ≡ true
      each None there = refl
      each (Some p) there = all_get exports_once a.ports port p once there

  exported_known : are_below (length a.variables) (exports_of a port) ≡ true
  exported_known = each (slice_get a.ports port) refl
    where
      each : (found : Option PortDefinition) → slice_get a.ports port ≡ found → are_below (length a.variables) (option_map_or (λ p. p.exports) found []) ≡ true
      each None there = refl
      each (Some p) there = all_get (exports_known (length a.variables)) a.ports port p known there

  -- such a variable is found by its name
  export_found : are_named (λ v. v.name) a.variables ≡ true → (export variable : ℕ) (declared : Variable) → slice_get (exports_of a port) export ≡ Some variable → slice_get a.variables variable ≡ Some declared →
      export_number a port declared.name ≡ Some export
  export_found named export variable declared exported there =
      first_at (is_named a.variables declared.name) (exports_of a port) export variable exported
      (ap (λ (found : Option Variable). option_map_or (λ v. is_same_text v.name declared.name) found false) there ∙ same_text_itself declared.name)
      (λ j n less at. other n (λ same. both n (differ_at nat_eq (exports_of a port) j export n variable exported_once less at exported) same))
    where
      both : (n : ℕ) → nat_eq variable n ≡ false → n ≡ variable → ⊥
      both n differ same = false≢true (sym differ ∙ eq-eqb variable n (sym same))

      other : (n : ℕ) → (n ≡ variable → ⊥) → is_named a.variables declared.name n ≡ false
      other n differ = each (slice_get a.variables n) refl
        where
          each : (found : Option Variable) → slice_get a.variables n ≡ found → option_map_or (λ v. is_same_text v.name declared.name) found false ≡ false
          each None at = refl
          each (Some v) at = other_name (λ w. w.name) a.variables named n variable v declared differ at there

-- ---- exported variables

-- the parts that an exported variable is written and found by
record IsAt (atoms : List AtomDefinition) (ports : List Port) (e : Export) : Type 0 where
  port : Port
  atom : AtomDefinition
  variable : ℕ
  declared : Variable
  leaf : slice_get ports e.leaf ≡ Some port
  there : slice_get atoms port.atom ≡ Some atom
  exported : slice_get (exports_of atom port.port) e.export ≡ Some variable
  is : slice_get atom.variables variable ≡ Some declared

module _ (atoms : List AtomDefinition) (ports : List Port) (named : are_named_atoms atoms ≡ true) (formed : list_all is_well_formed atoms ≡ true) (unique : tree.has_repeat (tree.atoms ports) ≡ false) where
  atoms_named : are_named (λ a. a.name) atoms ≡ true
  atoms_named = (and_parts _ _ named).0

  variables_named : (n : ℕ) (a : AtomDefinition) → slice_get atoms n ≡ Some a → are_named (λ v. v.name) a.variables ≡ true
  variables_named n a there = (and_parts _ _ (all_get names_its_parts atoms n a (and_parts _ _ named).1 there)).0

  -- each that is known has such parts
  found_at : (e : Export) → is_known_export atoms ports e ≡ true → IsAt atoms ports e
  found_at e known =
      let leaf = passing (λ p. is_exported atoms p e.export) (slice_get ports e.leaf) known in
      let port : Port = leaf.0 in
      let there = passing (λ a. nat_lt e.export (length (exports_of a port.port))) (slice_get atoms port.atom) leaf.2 in
      let atom : AtomDefinition = there.0 in
      let within : e.export < length (exports_of atom port.port) = ltb-true e.export (length (exports_of atom port.port)) there.2 in
      let exported = there_at (exports_of atom port.port) e.export within in
      let below : nat_lt exported.0 (length atom.variables) ≡ true =
      all_get (λ k. nat_lt k (length atom.variables)) (exports_of atom port.port) e.export exported.0 (exported_known atom (all_get is_well_formed atoms port.atom atom formed there.1) port.port) exported.1 in
      let declared = there_at atom.variables exported.0 (ltb-true exported.0 (length atom.variables) below) in
      record {
        port = port;
        atom = atom;
        variable = exported.0;
        declared = declared.0;
        leaf = leaf.1;
        there = there.1;
        exported = exported.1;
        is = declared.1;
      }

  module _ (e : Export) (at : IsAt atoms ports e) where
    atom_name : IsOfName at.atom.name
    atom_name = named_at (λ a. a.name) atoms atoms_named at.port.atom at.atom at.there

    own_name : IsOfName at.declared.name
    own_name = named_at (λ v. v.name) at.atom.variables (variables_named at.port.atom at.atom at.there) at.variable at.declared at.is

    -- it is written by the names of its atom and its own
    told : export_name atoms ports e ≡ dotted at.atom.name at.declared.name
    told =
        ap (λ (o : Option Port). option_map_or (λ p. variable_of_port atoms p e.export) o []) at.leaf
        ∙ ap (λ (o : Option AtomDefinition). option_map_or (λ a. a.name ++ codes "." ++ exported_name a at.port.port e.export) o []) at.there
        ∙ ap (λ (o : Option ℕ). at.atom.name ++ codes "." ++ option_map_or (variable_name at.atom) o []) at.exported
        ∙ ap (λ (o : Option Variable). at.atom.name ++ codes "." ++ option_map_or (λ v. v.name) o []) at.is

    -- and found by them
    by_atom : atom_number atoms at.atom.name ≡ Some at.port.atom
    by_atom = found_by_name (λ a. a.name) atoms atoms_named at.port.atom at.atom at.there

    by_own : export_named atoms at.port at.declared.name ≡ Some e.export
    by_own =
        ap (option_and_then (λ a. export_number a at.port.port at.declared.name)) at.there
        ∙ export_found at.atom (all_get is_well_formed atoms at.port.atom at.atom formed at.there) at.port.port (variables_named at.port.atom at.atom at.there) e.export at.variable at.declared at.exported at.is

    export_is_found : variable_in (atom_number atoms) (export_named atoms) ports (dotted at.atom.name at.declared.name) ≡ Some e
    export_is_found =
        let make : ℕ → Export = λ export. record { leaf = e.leaf; export = export } in
        let own : List ℕ = at.declared.name in
        ap (option_and_then (export_of (atom_number atoms) (export_named atoms) ports)) (dotted_sides at.atom.name own atom_name own_name)
        ∙ ap (λ (n : Option ℕ). option_and_then (export_at (export_named atoms) ports own) (option_and_then (leaf_of ports) n)) by_atom
        ∙ ap (option_and_then (export_at (export_named atoms) ports own)) (leaf_found ports e.leaf at.port unique at.leaf)
        ∙ ap (option_and_then (λ p. option_map make (export_named atoms p own))) at.leaf
        ∙ ap (option_map make) by_own

  pub found : (e : Export) → is_known_export atoms ports e ≡ true → IsFoundAtPorts atoms ports e
  found e known =
      let at = found_at e known in
      ap (variable_in (atom_number atoms) (export_named atoms) ports) (told e at) ∙ export_is_found e at

  -- an exported variable is read by its name
  export_read : (e : Export) → is_known_export atoms ports e ≡ true → word_in (variable_in (atom_number atoms) (export_named atoms) ports) (export_name atoms ports e) ≡ variable_found true (Some e)
  export_read e known =
      let at = found_at e known in
      ap (word_in (variable_in (atom_number atoms) (export_named atoms) ports)) (told e at)
      ∙ variable_reads (variable_in (atom_number atoms) (export_named atoms) ports) (dotted at.atom.name at.declared.name) e
      (plain_dotted at.atom.name at.declared.name (atom_name e at) (own_name e at)) (export_is_found e at)

  -- which is one word
  export_is_one_word : (e : Export) → is_known_export atoms ports e ≡ true → is_one_word (export_name atoms ports e) ≡ true
  export_is_one_word e known =
      let at = found_at e known in
      ap is_one_word (told e at) ∙ dotted_is_one_word at.atom.name at.declared.name (atom_name e at) (own_name e at)

  -- an expression over exported variables is read back, and the words after it are left
  expression_read : (e : Tree Export) → is_over_ports atoms ports e ≡ true → (text : List ℕ) (words : List (List ℕ)) → IsBehind text words →
      expression_in (variable_in (atom_number atoms) (export_named atoms) ports) (words_of (expression_text (export_name atoms ports) e ++ text)) ≡ Ok (e, words)
  expression_read e held text words behind =
      let over = and_parts _ _ held in
      let limits = and_parts _ _ over.1 in
      text_read (export_name atoms ports) (variable_in (atom_number atoms) (export_named atoms) ports) (is_known_export atoms ports) export_read export_is_one_word e
      (leb-true (word_count e) MAX_WORDS limits.0) limits.1 over.0 text words behind

  pub read_alone : (e : Tree Export) → is_over_ports atoms ports e ≡ true → IsReadAtPorts atoms ports e
  read_alone e held =
      ap (λ text. expression_in (variable_in (atom_number atoms) (export_named atoms) ports) (words_of text)) (sym (append-nil (expression_text (export_name atoms ports) e)))
      ∙ expression_read e held [] [] nothing_after

  pub read_before : (e : Tree Export) (behind : List ℕ) → is_over_ports atoms ports e ≡ true →
      expression_in (variable_in (atom_number atoms) (export_named atoms) ports) (words_of (expression_text (export_name atoms ports) e ++ codes " " ++ behind)) ≡ Ok (e, words_of behind)
  read_before e behind held =
      ap (λ text. expression_in (variable_in (atom_number atoms) (export_named atoms) ports) (words_of text)) (append_assoc (expression_text (export_name atoms ports) e) (codes " ") behind)
      ∙ expression_read e held (32 ∷ behind) (words_of behind) (space_after behind)
