-- Which fault of a connector is found first, and what holds of one without a fault.
use Rattle.std.proofs.Common.{◌≡◌, Bool, true, false, cond, length, nat_lt, Option, Some, None, Err, refl, sym, ap, ◌∙◌}
use Rattle.std.proofs.lemmas.Bool.{ltb-false}
use Rattle.connector_tree.specs.declared.tree.TheConstants.{MAX_LEAVES, MAX_DEPTH}
use Rattle.connector_tree.specs.declared.faults.TreeFault.{TreeFault}
use Rattle.connector_tree.specs.declared.faults.TreeFault.TheVariants.{TooManyLeaves, TooDeep, SameAtom, Empty, Memory}
use Rattle.connector_tree.specs.Tree.{Tree, leaves, depth, has_empty}
use Rattle.connector_tree.specs.Faults.{has_repeat, atoms, fault_of, fault_of_result, IsSound}

-- the first fault, by the tests of the four rules
abbrev pub first_of : Bool → Bool → Bool → Bool → Option TreeFault
first_of many deep repeat empty =
    cond many (Some TooManyLeaves) (cond deep (Some TooDeep) (cond repeat (Some SameAtom) (cond empty (Some Empty) None)))

-- too many levels are a fault if the leaves are few
pub deep_next : (many deep repeat empty : Bool) → many ≡ false → deep ≡ true → Some TooDeep ≡ first_of many deep repeat empty
deep_next many deep repeat empty few is =
    sym (ap (λ b. first_of b deep repeat empty) few ∙ ap (λ b. first_of false b repeat empty) is)

-- want of memory is no fault of a tree
not_memory : (many deep repeat empty : Bool) → first_of many deep repeat empty ≡ Some Memory → ⊥
not_memory true deep repeat empty h = absurd (cc h)
not_memory false true repeat empty h = absurd (cc h)
not_memory false false true empty h = absurd (cc h)
not_memory false false false true h = absurd (cc h)
not_memory false false false false h = absurd (cc h)

-- a fault of a tree that a result has is the tree's
pub fault_itself : (X : Type 0) (fault : TreeFault) (tree : Tree) → fault_of tree ≡ Some fault → fault_of_result {X = X} (Err fault) ≡ fault_of tree
fault_itself X TooManyLeaves tree is = sym is
fault_itself X TooDeep tree is = sym is
fault_itself X SameAtom tree is = sym is
fault_itself X Empty tree is = sym is
fault_itself X Memory tree is = absurd (not_memory (nat_lt MAX_LEAVES (length (leaves tree))) (nat_lt MAX_DEPTH (depth tree)) (has_repeat (atoms (leaves tree))) (has_empty tree) is)

-- a connector without a fault is sound
no_fault : (many deep repeat empty : Bool) → first_of many deep repeat empty ≡ None → (many ≡ false) × (deep ≡ false) × (repeat ≡ false) × (empty ≡ false)
no_fault true deep repeat empty h = absurd (cc h)
no_fault false true repeat empty h = absurd (cc h)
no_fault false false true empty h = absurd (cc h)
no_fault false false false true h = absurd (cc h)
no_fault false false false false h = (refl, refl, refl, refl)

pub sound : (tree : Tree) → fault_of tree ≡ None → IsSound tree
sound tree h =
    let parts = no_fault (nat_lt MAX_LEAVES (length (leaves tree))) (nat_lt MAX_DEPTH (depth tree)) (has_repeat (atoms (leaves tree))) (has_empty tree) h in
    record { few_leaves = ltb-false _ _ parts.0; shallow = ltb-false _ _ parts.1; distinct_atoms = parts.2; none_empty = parts.3 }
