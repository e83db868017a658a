-- What a firing changes at the leaves of the connectors, where the marking behind it alone decides what its atom offers.
use Rattle.std.specs.Prelude.{◌≡◌, ◌<◌, ◌≤◌, ◌==◌, ◌&&◌, not, nat_lt, min, ℕ, Bool, true, false, List, length, map, Option, Some, slice_get, slice_index_or}
use Rattle.std.specs.List.{list_any}
use Rattle.std.specs.Option.{option_map_or}
use Rattle.petri_atom.specs.Behind.{movable_set}
use Rattle.petri_atom.specs.Definition.{AtomDefinition, enabled, offered_set}
use Rattle.petri_atom.specs.Local.{Local}
use Rattle.petri_atom.specs.declared.parts.TheConstants.{MAX_TRANSITIONS}
use Rattle.connector_tree.specs.Masks.{is_set}
use Rattle.connector_tree.specs.Tree.{leaves}
use Rattle.connector_tree.specs.declared.tree.Port.{Port}
use Rattle.priority_filter.specs.Members.{has_bit}
use Rattle.plant_model.specs.Plant.{WireDefinition}
use Rattle.plant_model.specs.declared.usual.Put.{Put}
use Rattle.plant_model.specs.declared.usual.Usual.{Usual}

-- ---- the leaves of connectors on an atom

-- the leaves of each connector
abbrev pub leaves_of : List WireDefinition → List (List Port)
leaves_of wires = map (λ w. leaves w.connector) wires

-- how many transitions a port has in a row of numbers; none past the row
abbrev pub count_in : List ℕ → ℕ → ℕ
count_in counts port = slice_index_or counts port 0

-- a number is that of nothing, and it is that of more than one
abbrev pub is_nothing : ℕ → Bool
is_nothing count = count == 0

abbrev pub is_several : ℕ → Bool
is_several count = nat_lt 1 count

-- of the leaves of a connector the one with a number is there, its port is of the atom, and the number in the row for that port passes the test
abbrev pub is_on : (ℕ → Bool) → ℕ → List ℕ → List Port → ℕ → Bool
is_on test atom counts ports leaf =
    option_map_or (λ p. p.atom == atom && test (count_in counts p.port)) (slice_get ports leaf) false

-- the same of a leaf of the connector with a number
abbrev pub is_leaf_on : (ℕ → Bool) → List (List Port) → ℕ → List ℕ → ℕ → ℕ → Bool
is_leaf_on test all atom counts connector leaf =
    option_map_or (λ ports. is_on test atom counts ports leaf) (slice_get all connector) false

-- a port is of the atom, and has another number in one row than in another; of numbers above a greatest one it is all the same which
abbrev pub is_other : ℕ → ℕ → List ℕ → List ℕ → Port → Bool
is_other most atom before after p = p.atom == atom && not (min (count_in after p.port) most == min (count_in before p.port) most)

-- the connector with a number has such a leaf
abbrev pub has_other : ℕ → ℕ → List ℕ → List ℕ → List (List Port) → ℕ → Bool
has_other most atom before after all connector =
    option_map_or (list_any (is_other most atom before after)) (slice_get all connector) false

-- ---- what a firing changes

-- a put is of a connector that is there, and has of its leaves on the atom all, those that offer nothing, and those that offer more than
-- one transition
pub record IsPut (all : List (List Port)) (atom : ℕ) (counts : List ℕ) (put : Put) : Type 0 where
  pub there : put.connector < length all
  pub mask : (leaf : ℕ) → is_set put.mask leaf ≡ is_leaf_on (λ count. true) all atom counts put.connector leaf
  pub off : (leaf : ℕ) → is_set put.off leaf ≡ is_leaf_on is_nothing all atom counts put.connector leaf
  pub many : (leaf : ℕ) → is_set put.many leaf ≡ is_leaf_on is_several all atom counts put.connector leaf

-- one of the puts is of the connector
abbrev pub has_put : List Put → ℕ → Bool
has_put puts connector = list_any (λ put. put.connector == connector) puts

-- what a firing of the atom with a number changes, among connectors that have these leaves
pub record IsUsual (a : AtomDefinition) (all : List (List Port)) (atom : ℕ) (u : Usual) : Type 0 where
  -- the marking behind it alone decides what can move and what is offered then
  pub movable : (state : Local) → state.marking ≡ u.places → movable_set a state ≡ u.after
  pub offered : (state : Local) → state.marking ≡ u.places → offered_set a state ≡ u.after
  -- the row has how many transitions each port has in that, and 0 past the last port
  pub counts : (s : Local) (port : ℕ) → u.after ≡ offered_set a s → count_in u.counts port ≡ length (enabled a s port)
  pub past : (port : ℕ) → length a.ports ≤ port → count_in u.counts port ≡ 0
  pub few : (port : ℕ) → count_in u.counts port ≤ MAX_TRANSITIONS
  -- a connector that is not heavy has on the atom only leaves that offer as many transitions as where the atom offered `before`
  pub heavy : (k leaf : ℕ) (ps : List Port) (p : Port) (s : Local) → has_bit u.heavy k ≡ false → slice_get all k ≡ Some ps → slice_get ps leaf ≡ Some p → p.atom ≡ atom → u.before ≡ offered_set a s
      → count_in u.counts p.port ≡ length (enabled a s p.port)
  -- one that is not dirty has only leaves that offer something exactly where they did
  pub dirty : (k leaf : ℕ) (ps : List Port) (p : Port) (s : Local) → has_bit u.dirty k ≡ false → slice_get all k ≡ Some ps → slice_get ps leaf ≡ Some p → p.atom ≡ atom → u.before ≡ offered_set a s
      → is_nothing (count_in u.counts p.port) ≡ is_nothing (length (enabled a s p.port))
  -- both words have connectors that are there alone
  pub within : (k : ℕ) → length all ≤ k → (has_bit u.dirty k ≡ false) × (has_bit u.heavy k ≡ false)
  -- each heavy connector has a put, and each put is right
  pub put : (k : ℕ) → has_bit u.heavy k ≡ true → has_put u.puts.items k ≡ true
  pub right : (n : ℕ) (p : Put) → slice_get u.puts.items n ≡ Some p → IsPut all atom u.counts p

-- there is a row for each atom, with an entry or none for each of its transitions, and each entry is right
pub record AreUsual (atoms : List AtomDefinition) (all : List (List Port)) (rows : List (List (Option Usual))) : Type 0 where
  pub as_many : length rows ≡ length atoms
  pub in_row : (n : ℕ) (a : AtomDefinition) (row : List (Option Usual)) → slice_get atoms n ≡ Some a → slice_get rows n ≡ Some row → length row ≡ length a.transitions
  pub right : (n t : ℕ) (a : AtomDefinition) (row : List (Option Usual)) (u : Usual) → slice_get atoms n ≡ Some a → slice_get rows n ≡ Some row → slice_get row t ≡ Some (Some u) → IsUsual a all n u
