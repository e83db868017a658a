-- An atom with a number, its state, and what is read of both.
use Rattle.std.proofs.Common.{◌≡◌, ℕ, ◌<◌, ◌≤◌, refl, sym, ◌∙◌, ap, List, [], length, map, get_or, arith}
use Rattle.std.specs.Prelude.{Some, None, slice_get, option_map}
use Rattle.std.specs.Option.{option_map_or}
use Rattle.std.proofs.lemmas.List.{length-map}
use Rattle.std.proofs.lemmas.Option.{slice_get-map, slice_get_read, slice_get_past, slice_get-get_or}
use Rattle.petri_atom.specs.Local.{Local}
use Rattle.petri_atom.specs.Atom.{definition_of}
use Rattle.petri_atom.specs.Definition.{AtomDefinition}
use Rattle.petri_atom.specs.declared.atom.Atom.{Atom}
use Rattle.plant_model.specs.Plant.{of_atom}

-- an atom of a plant with a number, as it was written
pub atom-there : (atoms : List Atom) (n : ℕ) (atom : Atom) → n < length atoms → atom ≡ get_or atoms n atom → slice_get (map definition_of atoms) n ≡ Some (definition_of atom)
atom-there atoms n atom within here =
    slice_get-map definition_of atoms n ∙ ap (option_map definition_of) (slice_get_read atoms (length atoms) n atom refl within here)

-- the same where the number stands in a machine word
pub atom-at : (atoms : List Atom) (n k : ℕ) (atom : Atom) → n ≡ k → n < length atoms → atom ≡ get_or atoms n atom → slice_get (map definition_of atoms) k ≡ Some (definition_of atom)
atom-at atoms n k atom same within here =
    ap (slice_get (map definition_of atoms)) (sym same) ∙ atom-there atoms n atom within here

-- and there is none from the number of atoms on
pub atom-past : (atoms : List Atom) (n k : ℕ) → n ≡ k → length atoms ≤ n → slice_get (map definition_of atoms) k ≡ None
atom-past atoms n k same past =
    slice_get_past (map definition_of atoms) k (omega (arith, length-map atoms definition_of))

pub some_state : Local
some_state = record { marking = 0; values = [] }

-- what is read of an atom that is there, and of its state, where n is the number k in a machine word
module _ {X Y : Type 0} (atoms : List Atom) (states : List Local) (n k : ℕ) (same : n ≡ k) (read : AtomDefinition → Local → X) (nothing : X) (f : X → Y) (value : Y) where
  pub of_atom-there : (atom : Atom) → n < length atoms → atom ≡ get_or atoms n atom → length states ≡ length atoms → ((s : Local) → slice_get states n ≡ Some s → value ≡ f (read (definition_of atom) s)) → value ≡ f (of_atom (map definition_of atoms) states k read nothing)
  of_atom-there atom within here as_many known =
      let inside : n < length states = omega arith in
      let there : slice_get states n ≡ Some (get_or states n some_state) = slice_get-get_or states n some_state inside in
      known (get_or states n some_state) there ∙
      sym (ap (λ o. f (option_map_or (λ a. option_map_or (λ s. read a s) (slice_get states n) nothing) o nothing)) (atom-there atoms n atom within here) ∙
      ap (λ o. f (option_map_or (λ s. read (definition_of atom) s) o nothing)) there) ∙
      ap (λ m. f (of_atom (map definition_of atoms) states m read nothing)) same

  -- and of one that is not
  pub of_atom-past : length atoms ≤ n → value ≡ f nothing → value ≡ f (of_atom (map definition_of atoms) states k read nothing)
  of_atom-past past default =
      let none : slice_get (map definition_of atoms) n ≡ None = slice_get_past (map definition_of atoms) n (omega (arith, length-map atoms definition_of)) in
      default ∙ sym (ap (λ o. f (option_map_or (λ a. option_map_or (λ s. read a s) (slice_get states n) nothing) o nothing)) none) ∙
      ap (λ m. f (of_atom (map definition_of atoms) states m read nothing)) same
