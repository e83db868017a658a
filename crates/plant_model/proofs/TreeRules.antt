-- What the early rules of a plant say of each of its wires.
use Rattle.std.proofs.Common.{◌≡◌, refl, subst, ℕ, zero, suc, ◌≤◌, List, [], ◌∷◌, length, true, false, cond, not}
use Rattle.std.specs.Prelude.{Option, Some, None, option_map, slice_get}
use Rattle.std.proofs.lemmas.Option.{same_Some}
use Rattle.connector_tree.specs.Faults as tree
use Rattle.connector_tree.specs.Tree.{leaves}
use Rattle.connector_tree.specs.declared.faults.TreeFault.{TreeFault}
use Rattle.connector_tree.specs.declared.tree.TheConstants.{MAX_LEAVES}
use Rattle.connector_tree.proofs.Sound.{sound}
use Rattle.plant_model.specs.Plant.{WireDefinition, PlantDefinition}
use Rattle.plant_model.specs.Rules.{first_of, first_fault_in, atom_fault, tree_fault, is_within_limits, early_fault}
use Rattle.plant_model.specs.declared.fault.SystemFault.TheVariants.{Limit, BadConnector}

-- where the first of two tells nothing and neither does the second, the second tells nothing
pub second_none : {F : Type 0} (a b : Option F) → first_of a b ≡ None → b ≡ None
second_none None b none = none
second_none (Some f) b none = absurd (cc)

pub first_none : {F : Type 0} (a b : Option F) → first_of a b ≡ None → a ≡ None
first_none None b none = refl
first_none (Some f) b none = none

pub tree_none : (k : ℕ) (o : Option TreeFault) → option_map (BadConnector k) o ≡ None → o ≡ None
tree_none k None none = refl
tree_none k (Some f) none = absurd (cc)

-- where no tree of wires has a fault, none of one of them has
pub tree_sound : (k : ℕ) (ws : List WireDefinition) → first_fault_in tree_fault k ws ≡ None → (n : ℕ) (w : WireDefinition) → slice_get ws n ≡ Some w → tree.fault_of w.connector ≡ None
tree_sound k [] none n w is = absurd (cc)
tree_sound k (v ∷ vs) none zero w is =
    subst (λ x. tree.fault_of x.connector ≡ None) (same_Some v w is)
    (tree_none k (tree.fault_of v.connector) (first_none (tree_fault k v) (first_fault_in tree_fault (suc k) vs) none))
tree_sound k (v ∷ vs) none (suc n) w is = tree_sound (suc k) vs (second_none (tree_fault k v) (first_fault_in tree_fault (suc k) vs) none) n w is

-- where the early rules tell nothing, no tree has a fault
pub early_trees : (plant : PlantDefinition) → early_fault plant ≡ None → first_fault_in tree_fault 0 plant.wires ≡ None
early_trees plant =
    let names = first_fault_in (atom_fault plant.atoms) 0 plant.atoms in
    let trees = first_fault_in tree_fault 0 plant.wires in
    elim (not (is_within_limits plant)) as (λ b. cond b (Some Limit) (first_of names trees) ≡ None → trees ≡ None) [
      | true ↦ λ none. absurd (cc)
      | false ↦ λ none. second_none names trees none
    ]

-- and so each connector has few leaves
pub few_leaves : (wires : List WireDefinition) → first_fault_in tree_fault 0 wires ≡ None → (n : ℕ) (w : WireDefinition) → slice_get wires n ≡ Some w → length (leaves w.connector) ≤ MAX_LEAVES
few_leaves wires none n w is = (sound w.connector (tree_sound 0 wires none n w is)).few_leaves
