-- The names of the drawing's nodes. They are built from numbers, so that none is a word of the graph language.
use Rattle.std.specs.Prelude.{ℕ, List, ◌++◌, codes, decimal}

-- a part of an atom: what it is, the atom's number, and its own number in the atom
abbrev pub part_node : List ℕ → ℕ → ℕ → List ℕ
part_node kind atom number = kind ++ codes "_" ++ decimal atom ++ codes "_" ++ decimal number

-- the connector with a number
abbrev pub connector_node : ℕ → List ℕ
connector_node number = codes "connector_" ++ decimal number

-- the atom with a number, if it is one node
abbrev pub atom_node : ℕ → List ℕ
atom_node number = codes "atom_" ++ decimal number
