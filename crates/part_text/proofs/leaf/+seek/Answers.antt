use Rattle.std.proofs.Common.{◌≡◌, ◌+◌, ◌∙◌, ap, sym, drop, arith}
use Rattle.connector_tree.specs.Tree.{tree_in, branch_of, leaves, branch_leaves}
use Rattle.part_text.specs.Sought.{sought}
use Rattle.part_text.specs.declared.leaf.Sought.TheVariants.{Found, After}
use Rattle.part_text.proofs.Seeking.{further, sought-child}
use Rattle.part_text.proofs.leaf.+seek.Goals as goal

pub seek-returns-in-Found : goal.seek-returns-in-Found
seek-returns-in-Found t c =
    let i = c.loop-child.child-index in
    let rest = leaves (tree_in (drop (i + 1) c.args.children.now)) in
    let printed : sought c.loop-child.left (branch_leaves (branch_of c.child-item.result.node)) ≡ Found c.in-Found.port = sym c.seek_in.ensures ∙ c.in-Found.is in
    sym (sym c.loop-child.invariant
    ∙ sought-child c.args.children.now i c.child-item.result c.loop-child.left (omega arith) c.child-item.is
    ∙ ap (λ s. further s rest) printed)

pub seek-loop-child-preserved : goal.seek-loop-child-preserved
seek-loop-child-preserved t c =
    let i = c.loop-child.child-index in
    let rest = leaves (tree_in (drop (i + 1) c.args.children.now)) in
    let printed : sought c.loop-child.left (branch_leaves (branch_of c.child-item.result.node)) ≡ After c.in-After.later = sym c.seek_in.ensures ∙ c.in-After.is in
    sym (sought-child c.args.children.now i c.child-item.result c.loop-child.left (omega arith) c.child-item.is
    ∙ ap (λ s. further s rest) printed)
    ∙ c.loop-child.invariant
