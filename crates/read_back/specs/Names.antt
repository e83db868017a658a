-- Parts of a plant that are found by their names.
use Rattle.std.specs.Prelude.{ℕ, Bool, ◌&&◌, List}
use Rattle.std.specs.List.{list_all}
use Rattle.petri_atom.specs.Definition.{AtomDefinition, is_each_once}
use Rattle.petri_atom.specs.Name.{is_name, is_same_text}
use Rattle.plant_model.specs.Plant.{PlantDefinition}

-- each of the parts has a name
abbrev pub have_names : {X : Type 0} → (X → List ℕ) → List X → Bool
have_names name_of parts = list_all (λ x. is_name (name_of x)) parts

-- each of the parts has a name, and no two have the same
abbrev pub are_named : {X : Type 0} → (X → List ℕ) → List X → Bool
are_named name_of parts = have_names name_of parts && is_each_once (λ x y. is_same_text (name_of x) (name_of y)) parts

-- so it is with the variables of an atom, and with its ports
abbrev pub names_its_parts : AtomDefinition → Bool
names_its_parts a = are_named (λ v. v.name) a.variables && are_named (λ p. p.name) a.ports

-- and with atoms, and the parts of each
abbrev pub are_named_atoms : List AtomDefinition → Bool
are_named_atoms atoms = are_named (λ a. a.name) atoms && list_all names_its_parts atoms

-- the atom, its places, its variables and its ports have names
abbrev pub has_names : AtomDefinition → Bool
has_names a =
    is_name a.name && have_names (λ p. p.name) a.places && have_names (λ v. v.name) a.variables && have_names (λ p. p.name) a.ports

-- so have the atoms and the connectors of a plant, as each name in memory is one
abbrev pub plant_has_names : PlantDefinition → Bool
plant_has_names plant = list_all has_names plant.atoms && have_names (λ w. w.name) plant.wires
