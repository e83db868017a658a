-- The expressions of a plant are within the limit of words.
use Rattle.std.proofs.Common.{◌≡◌, ℕ, refl, ◌≤◌, List, Bool, true, false, cond, not}
use Rattle.std.specs.Prelude.{Option, Some, None, slice_get}
use Rattle.std.specs.List.{list_all}
use Rattle.std.proofs.lemmas.Bool.{and_parts, leb-true}
use Rattle.petri_atom.specs.Definition.{AtomDefinition, TransitionDefinition, is_small_transition, is_well_formed}
use Rattle.petri_atom.specs.Expression.{Tree, word_count}
use Rattle.petri_atom.specs.declared.parts.TheConstants.{MAX_WORDS}
use Rattle.plant_model.specs.Plant.{PlantDefinition, WireDefinition}
use Rattle.plant_model.specs.Rules.{are_small_guards, early_fault, fault_of, fault_of_order, first_of, is_small_wire, is_within_limits, late_fault}
use Rattle.plant_model.specs.declared.fault.SystemFault.{SystemFault}
use Rattle.plant_model.specs.declared.fault.SystemFault.TheVariants.{Limit}
use Rattle.plant_model.specs.declared.wire.Export.{Export}
use Rattle.plant_model.proofs.Membership.{all-in, entry-in}
use Rattle.plant_model.proofs.TreeRules.{first_none}

-- an entry passes a test that all pass
pub entry-passes : {X : Type 0} (f : X → Bool) (xs : List X) (k : ℕ) (x : X) → list_all f xs ≡ true → slice_get xs k ≡ Some x → f x ≡ true
entry-passes f xs k x all there = all-in f xs all x (entry-in xs k x there)

-- the guard of a transition within the limits
pub small-guard : (t : TransitionDefinition) → is_small_transition t ≡ true → word_count t.guard ≤ MAX_WORDS
small-guard t small = leb-true (word_count t.guard) MAX_WORDS (and_parts _ _ (and_parts _ _ small).0).1

-- the transitions of a well-formed atom
pub small-transitions : (atoms : List AtomDefinition) (k : ℕ) (a : AtomDefinition) → list_all is_well_formed atoms ≡ true → slice_get atoms k ≡ Some a → list_all is_small_transition a.transitions ≡ true
small-transitions atoms k a formed there =
    (and_parts _ _ (and_parts _ _ (and_parts _ _ (and_parts _ _ (entry-passes is_well_formed atoms k a formed there)).0).0).0).1

-- a clause of guards within the limits
pub small-clause : (guards : List (Tree Export)) (k : ℕ) (clause : Tree Export) → are_small_guards guards ≡ true → slice_get guards k ≡ Some clause → word_count clause ≤ MAX_WORDS
small-clause guards k clause small there =
    leb-true (word_count clause) MAX_WORDS (entry-passes _ guards k clause (and_parts _ _ small).1 there)

-- the guards of a wire of a plant that breaks no rule
pub small-guards : (plant : PlantDefinition) (k : ℕ) (w : WireDefinition) → fault_of plant ≡ None → slice_get plant.wires k ≡ Some w → are_small_guards w.guards ≡ true
small-guards plant k w valid there =
    let kept : is_within_limits plant ≡ true = limits-kept (is_within_limits plant) _ (first_none (early_fault plant) (first_of (late_fault plant) (fault_of_order plant)) valid) in
    (and_parts _ _ (and_parts _ _ (entry-passes is_small_wire plant.wires k w (and_parts _ _ kept).1 there)).0).0
  where
    limits-kept : (b : Bool) (o : Option SystemFault) → cond (not b) (Some Limit) o ≡ None → b ≡ true
    limits-kept true o none = refl
    limits-kept false o none = absurd (cc)
