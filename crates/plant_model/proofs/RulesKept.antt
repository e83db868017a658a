-- What a plant that breaks no rule keeps.
use Rattle.std.proofs.Common.{◌≡◌, ◌≤◌, refl, List, [], ◌∷◌, map, length, Bool, true, false, cond, not}
use Rattle.std.specs.Prelude.{Option, Some, None}
use Rattle.std.specs.List.{list_all}
use Rattle.std.proofs.lemmas.Bool.{and_parts, and_from, leb-true}
use Rattle.petri_atom.specs.Atom.{definition_of}
use Rattle.petri_atom.specs.Definition.{is_well_formed}
use Rattle.petri_atom.specs.declared.atom.Atom.{Atom}
use Rattle.plant_model.specs.Plant.{PlantDefinition}
use Rattle.plant_model.specs.Rules.{early_fault, fault_of, fault_of_order, first_of, is_within_limits, late_fault}
use Rattle.plant_model.specs.declared.fault.SystemFault.{SystemFault}
use Rattle.plant_model.specs.declared.fault.SystemFault.TheVariants.{Limit}
use Rattle.plant_model.specs.declared.limits.TheConstants.{MAX_ATOMS, MAX_WIRES}
use Rattle.plant_model.proofs.TreeRules.{first_none}

-- each atom keeps the rules of atoms by its type
pub well_formed : (atoms : List Atom) → list_all is_well_formed (map definition_of atoms) ≡ true
well_formed [] = refl
well_formed (a ∷ rest) =
    and_from (is_well_formed (definition_of a)) (list_all is_well_formed (map definition_of rest)) a.well_formed (well_formed rest)

-- where no limit is told to be passed, none is
within : (b : Bool) (later : Option SystemFault) → cond (not b) (Some Limit) later ≡ None → b ≡ true
within true later none = refl
within false later none = absurd (cc)

-- a plant within its limits has few atoms and few wires
pub few_atoms : (plant : PlantDefinition) → early_fault plant ≡ None → length plant.atoms ≤ MAX_ATOMS
few_atoms plant none =
    let all = and_parts _ _ (within (is_within_limits plant) _ none) in
    let rules = and_parts _ _ all.0 in
    let wires = and_parts _ _ rules.0 in
    leb-true (length plant.atoms) MAX_ATOMS (and_parts _ _ wires.0).1

pub few_wires : (plant : PlantDefinition) → early_fault plant ≡ None → length plant.wires ≤ MAX_WIRES
few_wires plant none =
    let all = and_parts _ _ (within (is_within_limits plant) _ none) in
    let rules = and_parts _ _ all.0 in
    leb-true (length plant.wires) MAX_WIRES (and_parts _ _ rules.0).1

pub few_atoms_of_plant : (plant : PlantDefinition) → fault_of plant ≡ None → length plant.atoms ≤ MAX_ATOMS
few_atoms_of_plant plant none = few_atoms plant (first_none (early_fault plant) (first_of (late_fault plant) (fault_of_order plant)) none)
