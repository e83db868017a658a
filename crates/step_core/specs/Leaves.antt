-- What the leaves of each connector offer, as the bits of words, and what a change of it can change of the connectors.
use Rattle.std.specs.Prelude.{◌≡◌, ◌==◌, nat_lt, ℕ, Bool, true, false, List, Some, slice_get, slice_index_or}
use Rattle.std.specs.Option.{option_map_or}
use Rattle.petri_atom.specs.Local.{is_in}
use Rattle.connector_tree.specs.Masks.{is_set}
use Rattle.connector_tree.specs.Tree.{leaves}
use Rattle.connector_tree.specs.declared.tree.Port.{Port}
use Rattle.priority_filter.specs.Members.{has_bit}
use Rattle.plant_model.specs.Plant.{WireDefinition}
use Rattle.plant_model.specs.Reach.{can_read}
use Rattle.step_core.specs.EnabledTransitions.{count_at}
use Rattle.step_core.specs.declared.changes.Changes.{Changes}
use Rattle.step_core.specs.declared.leaves.Leaves.{Leaves}

-- how many transitions are kept for a port
abbrev pub count_of : List (List ℕ) → Port → ℕ
count_of counts p = count_at counts p.atom p.port

-- a number is that of nothing, and it is that of more than one
abbrev pub is_none : ℕ → Bool
is_none count = count == 0

abbrev pub is_many : ℕ → Bool
is_many count = nat_lt 1 count

-- the leaf of the connector is there, and the number that is kept for its port passes the test
abbrev pub is_leaf_where : (ℕ → Bool) → List WireDefinition → List (List ℕ) → ℕ → ℕ → Bool
is_leaf_where test wires counts connector leaf =
    option_map_or (λ w. option_map_or (λ p. test (count_of counts p)) (slice_get (leaves w.connector) leaf) false) (slice_get wires connector) false

-- the words have the bits of the leaves that offer nothing, and of those that offer more than one transition
pub record AreLeaves (wires : List WireDefinition) (counts : List (List ℕ)) (l : Leaves) : Type 0 where
  pub off : (connector leaf : ℕ) → is_set (slice_index_or l.off connector 0) leaf ≡ is_leaf_where is_none wires counts connector leaf
  pub many : (connector leaf : ℕ) → is_set (slice_index_or l.many connector 0) leaf ≡ is_leaf_where is_many wires counts connector leaf

-- each leaf of the connector offers as many transitions as before; and it offers something exactly where it did
abbrev pub IsSameCount : List WireDefinition → List (List ℕ) → List (List ℕ) → ℕ → Type 0
IsSameCount wires old new connector =
    (w : WireDefinition) (leaf : ℕ) (p : Port) → slice_get wires connector ≡ Some w → slice_get (leaves w.connector) leaf ≡ Some p → count_of new p ≡ count_of old p

abbrev pub IsSameOff : List WireDefinition → List (List ℕ) → List (List ℕ) → ℕ → Type 0
IsSameOff wires old new connector =
    (w : WireDefinition) (leaf : ℕ) (p : Port) → slice_get wires connector ≡ Some w → slice_get (leaves w.connector) leaf ≡ Some p → is_none (count_of new p) ≡ is_none (count_of old p)

-- a connector that is not told to be judged again offers as before at each leaf whether it offers something, and its guards can read none of the
-- changed atoms; one that is not told to be weighed again offers as many transitions as before at each leaf
pub record AreToldOf (wires : List WireDefinition) (changed : List ℕ) (old new : List (List ℕ)) (c : Changes) : Type 0 where
  pub dirty : (connector : ℕ) → has_bit c.dirty connector ≡ false → IsSameOff wires old new connector
  pub read : (connector atom : ℕ) → has_bit c.dirty connector ≡ false → is_in changed atom ≡ true → can_read wires atom connector ≡ false
  pub heavy : (connector : ℕ) → has_bit c.heavy connector ≡ false → IsSameCount wires old new connector
