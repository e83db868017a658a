-- Which fault a tree has.
use Rattle.std.specs.Prelude.{◌≡◌, ◌≤◌, ℕ, ◌==◌, nat_lt, Bool, false, ◌||◌, if◌then◌else◌, List, [], ◌∷◌, ◌++◌, codes, map, length, Option, Some, None, Result, Ok, Err}
use Rattle.std.specs.List.{list_any}
use Rattle.std.specs.Fmt.{decimal}
use Rattle.connector_tree.specs.declared.tree.Port.{Port}
use Rattle.connector_tree.specs.declared.tree.TheConstants.{MAX_LEAVES, MAX_DEPTH}
use Rattle.connector_tree.specs.declared.faults.TreeFault.{TreeFault}
use Rattle.connector_tree.specs.declared.faults.TreeFault.TheVariants.{TooManyLeaves, TooDeep, SameAtom, Empty, Memory}
use Rattle.connector_tree.specs.Tree.{Tree, leaves, depth, has_empty}

-- whether a number stands twice in the list
abbrev pub has_repeat : List ℕ → Bool
has_repeat [] = false
has_repeat (n ∷ ns) = list_any (λ m. n == m) ns || has_repeat ns

-- the atoms of ports
abbrev pub atoms : List Port → List ℕ
atoms ports = map (λ port. port.atom) ports

-- the first fault of a connector in the order of their numbers; Memory is none of the tree's
abbrev pub fault_of : Tree → Option TreeFault
fault_of tree =
    if nat_lt MAX_LEAVES (length (leaves tree)) then Some TooManyLeaves
    else (if nat_lt MAX_DEPTH (depth tree) then Some TooDeep
    else (if has_repeat (atoms (leaves tree)) then Some SameAtom
    else (if has_empty tree then Some Empty
    else None)))

-- no fault applies
pub record IsSound (tree : Tree) : Type 0 where
  pub few_leaves : length (leaves tree) ≤ MAX_LEAVES
  pub shallow : depth tree ≤ MAX_DEPTH
  pub distinct_atoms : has_repeat (atoms (leaves tree)) ≡ false
  pub none_empty : has_empty tree ≡ false

-- the fault of the tree that a result has; want of memory is none
abbrev pub fault_of_result : {X : Type 0} → Result X TreeFault → Option TreeFault
fault_of_result (Ok x) = None
fault_of_result (Err TooManyLeaves) = Some TooManyLeaves
fault_of_result (Err TooDeep) = Some TooDeep
fault_of_result (Err SameAtom) = Some SameAtom
fault_of_result (Err Empty) = Some Empty
fault_of_result (Err Memory) = None

-- what a fault says to a person
abbrev pub message_of : TreeFault → List ℕ
message_of TooManyLeaves = codes "a connector may have at most " ++ decimal MAX_LEAVES ++ codes " ports"
message_of TooDeep = codes "a connector may nest at most " ++ decimal MAX_DEPTH ++ codes " levels, the root included"
message_of SameAtom = codes "an atom may stand only once in a connector"
message_of Empty = codes "a connector and its brackets may not be empty"
message_of Memory = codes "not enough memory to list a connector's interactions"
