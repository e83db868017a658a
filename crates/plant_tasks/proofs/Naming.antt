-- Atoms by their names, as they are kept and as the plant has them.
use Rattle.std.proofs.Common.{◌≡◌, ◌∙◌, ap, refl, sym, ℕ, false, not, List, map, length}
use Rattle.std.specs.List.{list_any, position}
use Rattle.std.specs.Option.{option_map_or}
use Rattle.std.specs.Borrow.{Bor}
use Rattle.std.specs.Prelude.{option_map, Option, Some, None, slice_get}
use Rattle.std.proofs.lemmas.List.{length-map}
use Rattle.std.proofs.lemmas.Option.{slice_get-map}
use Rattle.petri_atom.specs.Atom.{definition_of}
use Rattle.petri_atom.specs.Local.{set_below}
use Rattle.petri_atom.specs.Name.{is_same_text}
use Rattle.petri_atom.specs.declared.atom.Atom.{Atom}
use Rattle.petri_atom.proofs.Lists.{list_any-map}
use Rattle.plant_words.proofs.Positions.{position_of_mapped}
use Rattle.plant_model.specs.Plant.{PlantDefinition}
use Rattle.plant_tasks.specs.Drawn.{drawn_atoms, has_atom, is_named, is_named_at, is_named_in}

-- an atom has a name in the one form where it has it in the other
has_mapped : (atoms : List Atom) (name : List ℕ)
    → list_any (λ a. is_same_text (definition_of a).name name) atoms ≡ has_atom (map definition_of atoms) name
has_mapped atoms name = sym (list_any-map (λ a. is_same_text a.name name) definition_of atoms)

-- the first name that no atom has
pub unknown_mapped : (plant : PlantDefinition) (atoms : List Atom) (names : List (Bor (List ℕ))) → map definition_of atoms ≡ plant.atoms
    → position (λ name. not (list_any (λ a. is_same_text (definition_of a).name name.now) atoms)) names
    ≡ position (λ name. not (has_atom plant.atoms name)) (map (λ name. name.now) names)
unknown_mapped plant atoms names written =
    (λ i. position (λ name. not (has_mapped atoms name.now i)) names)
    ∙ position_of_mapped (λ name. name.now) (λ name. not (has_atom (map definition_of atoms) name)) names
    ∙ ap (λ all. position (λ name. not (has_atom all name)) (map (λ name. name.now) names)) written

-- an atom that may be there has one of the names
named_mapped : (names : List (Bor (List ℕ))) (a : Option Atom)
    → option_map_or (λ a. list_any (λ name. is_same_text name.now (definition_of a).name) names) a false
    ≡ option_map_or (is_named (map (λ name. name.now) names)) (option_map definition_of a) false
named_mapped names None = refl
named_mapped names (Some a) = sym (list_any-map (λ name. is_same_text name (definition_of a).name) (λ name. name.now) names)

-- the set of the atoms that have one of the names
pub set_mapped : (plant : PlantDefinition) (atoms : List Atom) (names : List (Bor (List ℕ))) → map definition_of atoms ≡ plant.atoms
    → set_below (length atoms) (is_named_in names atoms) ≡ drawn_atoms plant (map (λ name. name.now) names)
set_mapped plant atoms names written =
    let each : (k : ℕ) → is_named_in names atoms k ≡ is_named_at (map definition_of atoms) (map (λ name. name.now) names) k =
    λ k. named_mapped names (slice_get atoms k) ∙ ap (λ a. option_map_or (is_named (map (λ name. name.now) names)) a false) (sym (slice_get-map definition_of atoms k)) in
    (λ i. set_below (length atoms) (λ k. each k i))
    ∙ ap (λ n. set_below n (is_named_at (map definition_of atoms) (map (λ name. name.now) names))) (sym (length-map atoms definition_of))
    ∙ ap (λ all. set_below (length all) (is_named_at all (map (λ name. name.now) names))) written
