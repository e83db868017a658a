-- Parts of atoms are found by their names as before, whatever the first states are.
use Rattle.std.proofs.Common.{◌≡◌, ◌∙◌, refl, sym, ap, ℕ, ◌+◌, ℤ, Bool, false, List, [], ◌∷◌, Option, Some, None, position, option_map}
use Rattle.std.specs.Prelude.{slice_get}
use Rattle.std.specs.Option.{option_map_or, option_and_then}
use std.Path.{fun_ext}
use Rattle.petri_atom.specs.Definition.{AtomDefinition, exports_of}
use Rattle.petri_atom.specs.Local.{Local}
use Rattle.petri_atom.specs.Name.{is_same_text}
use Rattle.petri_atom.specs.declared.parts.Variable.{Variable}
use Rattle.connector_tree.specs.declared.tree.Port.{Port}
use Rattle.atom_lines.specs.Lookup.{place_number, variable_number, port_number, is_named, export_number}
use Rattle.plant_text.specs.Names.{atom_number, port_at, port_named, place_named, export_named}
use Rattle.restated_text.specs.Plants.{each_numbered, place_with, first_valued, variable_with, atom_in_state, atom_with}
use Rattle.restated_text.proofs.Numbered.{get_numbered, position_numbered}

-- ---- in one atom

variable_keeps_name : (values : List ℤ) (k : ℕ) (v : Variable) → (variable_with values k v).name ≡ v.name
variable_keeps_name values k v = each (slice_get values k)
  where
    each : (o : Option ℤ) → (option_map_or (first_valued v) o v).name ≡ v.name
    each None = refl
    each (Some value) = refl

module _ (a : AtomDefinition) (s : Local) where
  pub same_places : place_number (atom_in_state a s) ≡ place_number a
  same_places = fun_ext (λ name. position_numbered (place_with s.marking) (λ p. is_same_text p.name name) (λ p. is_same_text p.name name) (λ k p. refl) 0 a.places)

  pub same_variables : variable_number (atom_in_state a s) ≡ variable_number a
  same_variables =
      fun_ext (λ name. position_numbered (variable_with s.values) (λ v. is_same_text v.name name) (λ v. is_same_text v.name name)
      (λ k v. ap (λ (n : List ℕ). is_same_text n name) (variable_keeps_name s.values k v)) 0 a.variables)

  same_named : (name : List ℕ) (number : ℕ) → is_named (atom_in_state a s).variables name number ≡ is_named a.variables name number
  same_named name number =
      ap (λ o. option_map_or (λ v. is_same_text v.name name) o false) (get_numbered (variable_with s.values) 0 a.variables number) ∙ each (slice_get a.variables number)
    where
      each : (o : Option Variable) → option_map_or (λ v. is_same_text v.name name) (option_map (variable_with s.values (0 + number)) o) false ≡ option_map_or (λ v. is_same_text v.name name) o false
      each None = refl
      each (Some v) = ap (λ (n : List ℕ). is_same_text n name) (variable_keeps_name s.values (0 + number) v)

  pub same_exports : (port : ℕ) (name : List ℕ) → export_number (atom_in_state a s) port name ≡ export_number a port name
  same_exports port name = ap (λ (test : ℕ → Bool). position test (exports_of a port)) (fun_ext (λ number. same_named name number))

-- ---- in the atoms of a plant

-- what is seen alike of an atom in any state is seen alike where the atom gets one
pub kept : {X : Type 0} (see : AtomDefinition → X) → ((a : AtomDefinition) (s : Local) → see (atom_in_state a s) ≡ see a) →
    (states : List Local) (k : ℕ) (a : AtomDefinition) → see (atom_with states k a) ≡ see a
kept see same states k a = each (slice_get states k)
  where
    each : (o : Option Local) → see (option_map_or (atom_in_state a) o a) ≡ see a
    each None = refl
    each (Some s) = same a s

module _ (states : List Local) (atoms : List AtomDefinition) where
  abbrev pub in_states : List AtomDefinition
  in_states = each_numbered (atom_with states) 0 atoms

  pub same_atoms : atom_number in_states ≡ atom_number atoms
  same_atoms =
      fun_ext (λ name. position_numbered (atom_with states) (λ a. is_same_text a.name name) (λ a. is_same_text a.name name)
      (λ k a. ap (λ (n : List ℕ). is_same_text n name) (kept (λ b. b.name) (λ b s. refl) states k a)) 0 atoms)

  -- what is looked up in the atom with a number
  seen_alike : {X : Type 0} (see : AtomDefinition → Option X) → ((a : AtomDefinition) (s : Local) → see (atom_in_state a s) ≡ see a) →
      (n : ℕ) → option_and_then see (slice_get in_states n) ≡ option_and_then see (slice_get atoms n)
  seen_alike see same n = ap (option_and_then see) (get_numbered (atom_with states) 0 atoms n) ∙ each (slice_get atoms n)
    where
      each : (o : Option AtomDefinition) → option_and_then see (option_map (atom_with states (0 + n)) o) ≡ option_and_then see o
      each None = refl
      each (Some a) = kept see same states (0 + n) a

  pub same_ports : port_named in_states ≡ port_named atoms
  same_ports =
      fun_ext (λ atom. fun_ext (λ port.
      ap (λ (g : ℕ → Option Port). option_and_then g (atom_number in_states atom))
      (fun_ext (λ number. seen_alike (λ a. option_map (λ p. record { atom = number; port = p }) (port_number a port)) (λ a s. refl) number)) ∙
      ap (λ (g : List ℕ → Option ℕ). option_and_then (port_at atoms port) (g atom)) same_atoms))

  pub same_named_places : place_named in_states ≡ place_named atoms
  same_named_places =
      fun_ext (λ number. fun_ext (λ name. seen_alike (λ a. place_number a name) (λ a s. ap (λ (g : List ℕ → Option ℕ). g name) (same_places a s)) number))

  pub same_named_exports : export_named in_states ≡ export_named atoms
  same_named_exports =
      fun_ext (λ port. fun_ext (λ name. seen_alike (λ a. export_number a port.port name) (λ a s. same_exports a s port.port name) port.atom))
