-- The port sets of a connector, as in the algebra of connectors of BIP.
--
-- A port p means {{p}}. With no trigger among the children of a bracket the meaning is the product of
-- theirs, which is all unions of one set from each. With triggers it is the sum, over each trigger i, of its
-- sets times the product over all other children j of (1 + |xj|), where 1 is the set that holds the empty
-- set. The root means what a bracket of its children does.
use Rattle.std.specs.Prelude.{◌==◌, Bool, ◌&&◌, if◌then◌else◌, List, [], ◌∷◌, ◌++◌, map}
use Rattle.std.specs.List.{flat_map, list_any, list_all}
use Rattle.connector_tree.specs.declared.tree.Port.{Port}
use Rattle.connector_tree.specs.Tree.{Tree, no_child, child, Branch, leaf, bracket}

-- whether both are the same port of the same atom
abbrev pub same_port : Port → Port → Bool
same_port p q = (p.atom == q.atom) && (p.port == q.port)

-- whether the port is among these
abbrev pub holds_port : List Port → Port → Bool
holds_port set p = list_any (same_port p) set

-- whether two sets have the same ports
abbrev pub same_set : List Port → List Port → Bool
same_set s t = list_all (holds_port t) s && list_all (holds_port s) t

-- Sets of ports. A set is written as a list of its ports, and a set of sets as a list of these. Order and
-- repetition in either say nothing: sets are compared by `same_set` alone.
abbrev pub Sets : Type 0
Sets = List (List Port)

-- 1: the set that holds the empty set
abbrev pub one : Sets
one = [] ∷ []

-- all unions of a set of the first and a set of the second
abbrev pub unions : Sets → Sets → Sets
unions xs ys = flat_map (λ x. map (λ y. x ++ y) ys) xs

-- the product: all unions of one set from each
abbrev pub product : List Sets → Sets
product [] = one
product (sets ∷ rest) = unions sets (product rest)

-- A child as the algebra sees it: whether it is a trigger, and its sets.
pub record Part : Type 0 where
  pub trigger : Bool
  pub sets : Sets

-- 1 + |x|: the empty set, or one of the part's sets
abbrev pub optional : Part → Sets
optional part = one ++ part.sets

-- the sum over each trigger after `before`: its sets, times the product over all other parts of (1 + |x|)
abbrev pub sum_after : List Part → List Part → Sets
sum_after before [] = []
sum_after before (part ∷ after) =
    (if part.trigger then product (map optional before ++ (part.sets ∷ map optional after)) else [])
    ++ sum_after (before ++ (part ∷ [])) after

-- the sets of a fusion: with a trigger among its parts the sum over the triggers, else the product
abbrev pub fused : List Part → Sets
fused parts =
    if list_any (λ part. part.trigger) parts then sum_after [] parts
    else product (map (λ part. part.sets) parts)

-- |x| of a branch: {{p}} for a port p, and for a bracket the fusion of its children, each as a part
abbrev mutual
  pub parts : Tree → List Part
  parts no_child = []
  parts (child trigger branch rest) = record { trigger = trigger; sets = branch_sets branch } ∷ parts rest

  pub branch_sets : Branch → Sets
  branch_sets (leaf atom port) = (record { atom = atom; port = port } ∷ []) ∷ []
  branch_sets (bracket tree) = fused (parts tree)

-- |x| of a connector: the root is a fusion of its children
abbrev pub port_sets : Tree → Sets
port_sets tree = fused (parts tree)

-- whether the set is one of these
abbrev pub is_among : Sets → List Port → Bool
is_among sets set = list_any (same_set set) sets

-- whether the set is one of the connector's port sets
abbrev pub is_port_set : Tree → List Port → Bool
is_port_set tree set = is_among (port_sets tree) set
