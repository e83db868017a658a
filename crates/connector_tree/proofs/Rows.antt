-- The interactions of small connectors, computed from the definition.
use Rattle.std.proofs.Common.{◌≡◌, ℕ, zero, suc, Bool, true, false, [], ◌∷◌, codes, Some, None, refl, ap, ◌∙◌}
use Rattle.std.specs.Fmt.{digits}
use Rattle.std.specs.declared.vec.Vec.{Vec}
use Rattle.std.specs.declared.alloc.Global.{Global}
use Rattle.connector_tree.specs.declared.tree.Port.{Port}
use Rattle.connector_tree.specs.declared.tree.Child.{Child}
use Rattle.connector_tree.specs.declared.tree.TheConstants.{MAX_LEAVES, MAX_DEPTH}
use Rattle.connector_tree.specs.declared.tree.Node.{Node}
use Rattle.connector_tree.specs.declared.tree.Node.TheVariants.{Leaf, Fusion}
use Rattle.connector_tree.specs.declared.faults.TreeFault.TheVariants.{TooManyLeaves, TooDeep, SameAtom, Empty, Memory}
use Rattle.connector_tree.specs.Tree.{Tree, no_child, child, Branch, leaf, bracket, Row, tree_with, tree_in, tree_of, leaves, depth}
use Rattle.connector_tree.specs.Faults.{has_repeat, fault_of, message_of}
use Rattle.connector_tree.specs.PortSets.{port_sets}
use Rattle.connector_tree.specs.Masks.{interactions_of}
use Rattle.connector_tree.proofs.Trees.{branch-leaf, branch-fusion}

-- port 0 of an atom, a bracket, and both kinds of children
abbrev port : ℕ → Branch
port atom = leaf atom 0

abbrev group : Row → Branch
group row = bracket (tree_with row)

abbrev synchron : Branch → Bool × Branch
synchron branch = (false, branch)

abbrev trigger : Branch → Bool × Branch
trigger branch = (true, branch)

-- s r1 r2 r3
rendezvous : interactions_of (tree_with (synchron (port 0) ∷ synchron (port 1) ∷ synchron (port 2) ∷ synchron (port 3) ∷ [])) ≡ 15 ∷ []
rendezvous = refl

-- s' r1 r2 r3
broadcast : interactions_of (tree_with (trigger (port 0) ∷ synchron (port 1) ∷ synchron (port 2) ∷ synchron (port 3) ∷ [])) ≡ 1 ∷ 3 ∷ 5 ∷ 7 ∷ 9 ∷ 11 ∷ 13 ∷ 15 ∷ []
broadcast = refl

-- s' [ r1 r2 r3 ]
atomic_broadcast : interactions_of (tree_with (trigger (port 0) ∷ synchron (group (synchron (port 1) ∷ synchron (port 2) ∷ synchron (port 3) ∷ [])) ∷ [])) ≡ 1 ∷ 15 ∷ []
atomic_broadcast = refl

-- s' [ r1' [ r2' r3 ] ]
causal_chain : interactions_of (tree_with (trigger (port 0) ∷ synchron (group (trigger (port 1) ∷ synchron (group (trigger (port 2) ∷ synchron (port 3) ∷ [])) ∷ [])) ∷ [])) ≡ 1 ∷ 3 ∷ 7 ∷ 15 ∷ []
causal_chain = refl

-- a' b' c
two_triggers : interactions_of (tree_with (trigger (port 0) ∷ trigger (port 1) ∷ synchron (port 2) ∷ [])) ≡ 1 ∷ 2 ∷ 3 ∷ 5 ∷ 6 ∷ 7 ∷ []
two_triggers = refl

-- [ a' b ] c
bracket_of_a_trigger : interactions_of (tree_with (synchron (group (trigger (port 0) ∷ synchron (port 1) ∷ [])) ∷ synchron (port 2) ∷ [])) ≡ 5 ∷ 7 ∷ []
bracket_of_a_trigger = refl

-- [ a' b ]' c
trigger_bracket_of_a_trigger : interactions_of (tree_with (trigger (group (trigger (port 0) ∷ synchron (port 1) ∷ [])) ∷ synchron (port 2) ∷ [])) ≡ 1 ∷ 3 ∷ 5 ∷ 7 ∷ []
trigger_bracket_of_a_trigger = refl

-- [ a b ]' c
trigger_bracket_of_synchrons : interactions_of (tree_with (trigger (group (synchron (port 0) ∷ synchron (port 1) ∷ [])) ∷ synchron (port 2) ∷ [])) ≡ 3 ∷ 7 ∷ []
trigger_bracket_of_synchrons = refl

-- c [ a' b' ]
two_triggers_in_a_bracket : interactions_of (tree_with (synchron (port 0) ∷ synchron (group (trigger (port 1) ∷ trigger (port 2) ∷ [])) ∷ [])) ≡ 3 ∷ 5 ∷ 7 ∷ []
two_triggers_in_a_bracket = refl

-- a, and a'
port_alone : interactions_of (tree_with (synchron (port 0) ∷ [])) ≡ 1 ∷ []
port_alone = refl

trigger_alone : interactions_of (tree_with (trigger (port 0) ∷ [])) ≡ 1 ∷ []
trigger_alone = refl

-- s' [ r1 r2 ]
abbrev small_broadcast : Tree
small_broadcast = tree_with (trigger (port 0) ∷ synchron (group (synchron (port 1) ∷ synchron (port 2) ∷ [])) ∷ [])

-- port 0 of an atom in a set
abbrev at : ℕ → Port
at atom = record { atom = atom; port = 0 }

-- its sets themselves: the sender alone, and all
the_sets : port_sets small_broadcast ≡ (at 0 ∷ []) ∷ (at 0 ∷ at 1 ∷ at 2 ∷ []) ∷ []
the_sets = refl

-- children in memory
abbrev in_memory : Bool → Node → Child
in_memory trigger node = record { trigger = trigger; node = node }

-- it is the tree of the connector in memory, wherever its children lie
tree_of_a_broadcast : (root inner : Vec Child Global) → root.items ≡ in_memory true (Leaf 0 0) ∷ in_memory false (Fusion inner) ∷ [] → inner.items ≡ in_memory false (Leaf 1 0) ∷ in_memory false (Leaf 2 0) ∷ [] → tree_of (record { root = root }) ≡ small_broadcast
tree_of_a_broadcast root inner at_root inside = ap tree_in at_root ∙ simp (branch-leaf, branch-fusion, inside)

-- an atom that stands twice, next to itself and further off, and one that does not
atom_twice : has_repeat (3 ∷ 1 ∷ 3 ∷ []) ≡ true
atom_twice = refl

atoms_once : has_repeat (3 ∷ 1 ∷ 2 ∷ []) ≡ false
atoms_once = refl

-- a port in so many brackets has one level more than these, the root's
depth_in_brackets : depth (tree_with (synchron (group (synchron (port 0) ∷ [])) ∷ [])) ≡ 2
depth_in_brackets = refl

-- the leaves of a [ b c' ] d stand from left to right
leaves_from_left_to_right : leaves (tree_with (synchron (port 7) ∷ synchron (group (synchron (port 5) ∷ trigger (port 2) ∷ [])) ∷ synchron (port 1) ∷ [])) ≡ at 7 ∷ at 5 ∷ at 2 ∷ at 1 ∷ []
leaves_from_left_to_right = refl

-- a root without children, which no text can write, and an empty bracket
empty_root : fault_of no_child ≡ Some Empty
empty_root = refl

empty_bracket : fault_of (tree_with (synchron (port 0) ∷ synchron (group []) ∷ [])) ≡ Some Empty
empty_bracket = refl

-- what the faults say
messages : (message_of TooManyLeaves ≡ codes "a connector may have at most 16 ports") × (message_of TooDeep ≡ codes "a connector may nest at most 8 levels, the root included") × (message_of SameAtom ≡ codes "an atom may stand only once in a connector") × (message_of Empty ≡ codes "a connector and its brackets may not be empty") × (message_of Memory ≡ codes "not enough memory to list a connector's interactions")
unfolding digits
messages = (refl, refl, refl, refl, refl)

-- ---- limits

sixteen_leaves_at_most : MAX_LEAVES ≡ 16
sixteen_leaves_at_most = refl

eight_levels_at_most : MAX_DEPTH ≡ 8
eight_levels_at_most = refl

-- so many ports side by side, each of an atom of its own
abbrev ports_of_atoms : ℕ → Tree
ports_of_atoms zero = no_child
ports_of_atoms (suc n) = child false (port n) (ports_of_atoms n)

-- a port in so many brackets
abbrev port_in_brackets : ℕ → Tree
port_in_brackets zero = child false (port 0) no_child
port_in_brackets (suc n) = child false (bracket (port_in_brackets n)) no_child

sixteen_leaves_and_seventeen : (fault_of (ports_of_atoms 16) ≡ None) × (fault_of (ports_of_atoms 17) ≡ Some TooManyLeaves)
sixteen_leaves_and_seventeen = (refl, refl)

eight_levels_and_nine : (fault_of (port_in_brackets 7) ≡ None) × (fault_of (port_in_brackets 8) ≡ Some TooDeep)
eight_levels_and_nine = (refl, refl)
