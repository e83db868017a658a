-- Which exported variables a word may name.
use Rattle.std.proofs.Common.{◌≡◌, refl, ℕ, Bool, true, List, Option, Some, None, IfSome}
use Rattle.std.specs.Prelude.{slice_get, option_map}
use Rattle.std.specs.Option.{option_and_then}
use Rattle.plant_words.specs.Splits.{export_parts}
use Rattle.connector_tree.specs.declared.tree.Port.{Port}
use Rattle.plant_model.specs.declared.wire.Export.{Export}
use Rattle.connector_lines.specs.Exports.{leaf_of, export_at, export_of, variable_in}
use Rattle.connector_lines.specs.Parts.{Passes}

-- a word names a variable that passes a test, where each variable does that a leaf's port exports by a name
module _ (test : Export → Bool) (atom_named : List ℕ → Option ℕ) (export_named : Port → List ℕ → Option ℕ) (ports : List Port)
    (each : (leaf : ℕ) (port : Port) (name : List ℕ) (export : ℕ) → slice_get ports leaf ≡ Some port → export_named port name ≡ Some export → test (record { leaf = leaf; export = export }) ≡ true) where
  abbrev IsPassed : Option Export → Type 0
  IsPassed found = IfSome found (λ variable. test variable ≡ true)

  at_export : (leaf : ℕ) (found : Option ℕ) →
      ((export : ℕ) → found ≡ Some export → test (record { leaf = leaf; export = export }) ≡ true) →
      IsPassed (option_map (λ export. record { leaf = leaf; export = export }) found)
  at_export leaf None passes = tt
  at_export leaf (Some export) passes = passes export refl

  at_port : (name : List ℕ) (leaf : ℕ) (found : Option Port) → slice_get ports leaf ≡ found →
      IsPassed (option_and_then (λ port. option_map (λ export. record { leaf = leaf; export = export }) (export_named port name)) found)
  at_port name leaf None is = tt
  at_port name leaf (Some port) is = at_export leaf (export_named port name) (λ export there. each leaf port name export is there)

  at_leaf : (name : List ℕ) (found : Option ℕ) → IsPassed (option_and_then (export_at export_named ports name) found)
  at_leaf name None = tt
  at_leaf name (Some leaf) = at_port name leaf (slice_get ports leaf) refl

  at_names : (names : Option (List ℕ × List ℕ)) → IsPassed (option_and_then (export_of atom_named export_named ports) names)
  at_names None = tt
  at_names (Some names) = at_leaf names.1 (option_and_then (leaf_of ports) (atom_named names.0))

  pub variables_pass : Passes test (variable_in atom_named export_named ports)
  variables_pass word = at_names (export_parts word)
