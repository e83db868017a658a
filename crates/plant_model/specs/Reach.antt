-- Which leaves of which connectors stand on a port, and which connectors have guards that can read an atom.
use Rattle.std.specs.Prelude.{◌≡◌, ◌<◌, ◌+◌, ◌*◌, ◌==◌, ◌&&◌, ◌++◌, min, nat_lt, ℕ, suc, Bool, false, if◌then◌else◌, List, [], ◌∷◌, length, Some, slice_get, slice_index_or}
use Rattle.std.specs.List.{list_any}
use Rattle.std.specs.Option.{option_map_or}
use Rattle.connector_tree.specs.Tree.{leaves}
use Rattle.connector_tree.specs.declared.tree.Port.{Port}
use Rattle.petri_atom.specs.declared.parts.TheConstants.{MAX_PORTS}
use Rattle.priority_filter.specs.Members.{has_bit}
use Rattle.plant_model.specs.Plant.{WireDefinition}
use Rattle.plant_model.specs.declared.reach.ConnectorLeaf.{ConnectorLeaf}
use Rattle.plant_model.specs.declared.reach.PortReach.{PortReach}
use Rattle.plant_model.specs.declared.reach.Reach.{Reach}
use Rattle.plant_model.specs.declared.reach.TheConstants.{ATOM_ROWS}

-- the place of the row of a port of an atom: the atom has a row for each port that an atom may have, and a last one for all numbers past
-- those
abbrev pub row_of_port : ℕ → ℕ → ℕ
row_of_port atom port = atom * ATOM_ROWS + min port MAX_PORTS

-- the same of a port
abbrev pub at_port : Port → ℕ
at_port p = row_of_port p.atom p.port

-- one of the ports has its row at the place
abbrev pub has_row : List Port → ℕ → Bool
has_row ports place = list_any (λ p. at_port p == place) ports

-- the leaf of the connector is there, and its port has its row at the place
abbrev pub has_leaf_at : List WireDefinition → ℕ → ConnectorLeaf → Bool
has_leaf_at wires place l =
    option_map_or (λ w. option_map_or (λ p. at_port p == place) (slice_get (leaves w.connector) l.leaf) false) (slice_get wires l.connector) false

-- of ports that are the leaves of a connector from one on, those whose row is at the place
abbrev pub leaves_from : ℕ → ℕ → ℕ → List Port → List ConnectorLeaf
leaves_from place connector leaf [] = []
leaves_from place connector leaf (p ∷ ps) =
    if at_port p == place then record { connector = connector; leaf = leaf } ∷ leaves_from place connector (suc leaf) ps else leaves_from place connector (suc leaf) ps

-- of the leaves of wires that are numbered from one on, those whose port has its row at the place, by connector and then by leaf
abbrev pub leaves_at : ℕ → ℕ → List WireDefinition → List ConnectorLeaf
leaves_at place connector [] = []
leaves_at place connector (w ∷ ws) = leaves_from place connector 0 (leaves w.connector) ++ leaves_at place (suc connector) ws

-- the connector has a leaf whose port has its row at the place
abbrev pub is_at : List WireDefinition → ℕ → ℕ → Bool
is_at wires place connector = option_map_or (λ w. has_row (leaves w.connector) place) (slice_get wires connector) false

-- one of the ports is of the atom
abbrev pub has_atom : List Port → ℕ → Bool
has_atom ports atom = list_any (λ p. p.atom == atom) ports

-- the connector has guards, and one of its leaves is of the atom: so its guards can read the atom's state
abbrev pub can_read : List WireDefinition → ℕ → ℕ → Bool
can_read wires atom connector =
    option_map_or (λ w. nat_lt 0 (length w.guards) && has_atom (leaves w.connector) atom) (slice_get wires connector) false

-- what stands on the port whose row is at the place: these leaves, and as the bits of a word their connectors
pub record IsPortReach (wires : List WireDefinition) (place : ℕ) (r : PortReach) : Type 0 where
  pub leaves : r.leaves.items ≡ leaves_at place 0 wires
  pub connectors : (k : ℕ) → has_bit r.connectors k ≡ is_at wires place k

-- what stands on each port of so many atoms, and as the bits of a word for each atom the connectors whose guards can read it
pub record IsReach (atoms : ℕ) (wires : List WireDefinition) (r : Reach) : Type 0 where
  pub port_count : length r.ports.items ≡ atoms * ATOM_ROWS
  pub ports : (place : ℕ) (p : PortReach) → slice_get r.ports.items place ≡ Some p → IsPortReach wires place p
  pub reader_count : length r.readers.items ≡ atoms
  pub readers : (atom k : ℕ) → atom < atoms → has_bit (slice_index_or r.readers.items atom 0) k ≡ can_read wires atom k
