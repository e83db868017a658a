-- The atoms of a plant, as a program holds them.
use Rattle.std.proofs.Common.{◌≡◌, ◌∙◌, ap, sym, List, length, map}
use Rattle.std.proofs.lemmas.List.{length-map}
use Rattle.petri_atom.specs.Atom.{definition_of}
use Rattle.petri_atom.specs.declared.atom.Atom.{Atom}
use Rattle.plant_model.specs.Plant.{PlantDefinition}

-- there are as many as the plant has
pub as-many : {x plant : PlantDefinition} (atoms : List Atom) → map definition_of atoms ≡ x.atoms → x ≡ plant → length atoms ≡ length plant.atoms
as-many atoms of_x same = sym (length-map atoms definition_of) ∙ ap length (of_x ∙ ap (λ (p : PlantDefinition). p.atoms) same)
