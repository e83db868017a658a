-- What a change tells of connectors, one change after the other.
use Rattle.std.specs.Prelude.{◌≡◌, ◌≤◌, ℕ, false, List, [], Some, length, slice_get, slice_index_or}
use Rattle.petri_atom.specs.Local.{Local}
use Rattle.petri_atom.specs.Definition.{AtomDefinition, offered_set}
use Rattle.connector_tree.specs.Tree.{leaves}
use Rattle.connector_tree.specs.declared.tree.Port.{Port}
use Rattle.priority_filter.specs.Members.{has_bit}
use Rattle.plant_model.specs.Plant.{WireDefinition}
use Rattle.step_core.specs.Leaves.{is_none}
use Rattle.step_core.specs.declared.changes.Changes.{Changes}

-- a set is that of the transitions that some state offers
abbrev pub IsOfState : AtomDefinition → ℕ → Type 0
IsOfState a set = (state : Local) × (set ≡ offered_set a state)

-- rows by atom are as they were but for that of one atom, which was another one
pub record IsRecounted (atom : ℕ) (before after : List ℕ) (old new : List (List ℕ)) : Type 0 where
  pub was : slice_index_or old atom [] ≡ before
  pub now : slice_index_or new atom [] ≡ after
  pub others : (n : ℕ) → ¬ (n ≡ atom) → slice_index_or new n [] ≡ slice_index_or old n []

-- a connector that is not told to be judged again was not told before, and offers as before at each leaf whether it offers something; one
-- that is not told to be weighed again was not told before, and offers as many transitions as before at each leaf. Connectors that are there
-- alone are told
pub record IsTold (wires : List WireDefinition) (old new : Port → ℕ) (before after : Changes) : Type 0 where
  pub not_dirty : (k : ℕ) → has_bit after.dirty k ≡ false → has_bit before.dirty k ≡ false
  pub not_heavy : (k : ℕ) → has_bit after.heavy k ≡ false → has_bit before.heavy k ≡ false
  pub same_off : (k : ℕ) → has_bit after.dirty k ≡ false → (w : WireDefinition) (leaf : ℕ) (p : Port) → slice_get wires k ≡ Some w → slice_get (leaves w.connector) leaf ≡ Some p → is_none (new p) ≡ is_none (old p)
  pub same_count : (k : ℕ) → has_bit after.heavy k ≡ false → (w : WireDefinition) (leaf : ℕ) (p : Port) → slice_get wires k ≡ Some w → slice_get (leaves w.connector) leaf ≡ Some p → new p ≡ old p
  pub dirty_within : (k : ℕ) → length wires ≤ k → has_bit before.dirty k ≡ false → has_bit after.dirty k ≡ false
  pub heavy_within : (k : ℕ) → length wires ≤ k → has_bit before.heavy k ≡ false → has_bit after.heavy k ≡ false
