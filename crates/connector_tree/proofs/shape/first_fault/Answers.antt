use Rattle.std.proofs.Common.{◌≤◌, ◌∙◌, ap, sym, length, nat_lt, arith}
use Rattle.std.proofs.lemmas.Bool.{le-ltb}
use Rattle.connector_tree.specs.Tree.{tree_of, tree_in, leaves, depth, has_empty}
use Rattle.connector_tree.specs.Faults.{has_repeat, atoms}
use Rattle.connector_tree.specs.declared.tree.TheConstants.{MAX_LEAVES, MAX_DEPTH}
use Rattle.connector_tree.proofs.Sound.{deep_next}
use Rattle.connector_tree.proofs.shape.first_fault.Goals as goal

pub returns-then-is_deeper-clause-fault : goal.returns-then-is_deeper-clause-fault
returns-then-is_deeper-clause-fault c =
    let tree = tree_of c.args.connector.now in
    let counted = rw c.deref.ensures.value at c.count_leaves.ensures in
    let few : length (leaves tree) ≤ MAX_LEAVES = omega (arith, counted) in
    deep_next (nat_lt MAX_LEAVES (length (leaves tree))) (nat_lt MAX_DEPTH (depth tree)) (has_repeat (atoms (leaves tree))) (has_empty tree)
    (le-ltb MAX_LEAVES (length (leaves tree)) few)
    (ap (λ items. nat_lt MAX_DEPTH (depth (tree_in items))) (sym c.deref-2.ensures.value) ∙ sym c.is_deeper.ensures ∙ c.if-is_deeper.true)
