use Rattle.std.proofs.Common.{◌≡◌, ◌-◌, ◌≤◌, ◌∙◌, sym, ap, subst, IfOk, take, arith}
use Rattle.connector_tree.specs.declared.tree.TheConstants.{MAX_LEAVES}
use Rattle.connector_tree.specs.Tree.{branch_of, tree_in}
use Rattle.connector_tree.specs.Walk.{seen, seen_children, count_all}
use Rattle.connector_tree.specs.MaskLists.{joined, masks_taken}
use Rattle.connector_tree.proofs.Walks.{is_seen}
use Rattle.connector_tree.proofs.NextChild.{seen_child, next_child, child_taken, all_taken, same_marks}
use Rattle.connector_tree.proofs.FromTree.{count_all-push, is_local, are_local, candidates, candidates-push, candidates_below, candidates_part_below, choices_made, masks_taken-seen}
use Rattle.connector_tree.proofs.walk.+masks.Goals as goal

pub children_masks-joined-requires-clause-low : goal.children_masks-joined-requires-clause-low
children_masks-joined-requires-clause-low t c =
    let l = c.loop-child in
    let before = seen_children (tree_in (take l.child-index c.args.children.now)) in
    rw (c.deref-in-loop-child.ensures.value, l.invariant.candidates, l.invariant.at) (candidates_below c.has_trigger-triggers.result before)

pub children_masks-joined-requires-clause-high : goal.children_masks-joined-requires-clause-high
children_masks-joined-requires-clause-high t c =
    let l = c.loop-child in
    let child = c.child-item.result in
    let branch = branch_of child.node in
    let triggers = c.has_trigger-triggers.result in
    let counted = ap count_all (next_child c.args.children.now l.child-index child c.loop-child-test.true c.child-item.is) in
    let few : (seen branch).count ≤ MAX_LEAVES - l.at = omega (arith, counted, l.invariant.room, c.requires) in
    let own = c.deref.ensures.value ∙ c.in_ok-own.ensures in
    let made = choices_made triggers child.trigger branch c.deref.result.now c.in_ok-part.part.items own c.in_ok-part.ensures in
    rw (c.deref-in-loop-child-2.ensures.value, made) (candidates_part_below triggers (seen_child child) (MAX_LEAVES - l.at) few)

pub children_masks-loop-child-preserved : goal.children_masks-loop-child-preserved
children_masks-loop-child-preserved t c =
    let l = c.loop-child in
    let children = c.args.children.now in
    let child = c.child-item.result in
    let branch = branch_of child.node in
    let triggers = c.has_trigger-triggers.result in
    let before = seen_children (tree_in (take l.child-index children)) in
    let counted = ap count_all (next_child children l.child-index child c.loop-child-test.true c.child-item.is) in
    let taken = child_taken children l.child-index child c.loop-child-test.true c.child-item.is in
    let count : c.count_node-at.result ≡ (seen branch).count = omega (arith, counted, l.invariant.room, c.requires, c.count_node-at.ensures, (is_seen branch).count) in
    let low = c.deref-in-loop-child.ensures.value ∙ l.invariant.candidates in
    let own = c.deref.ensures.value ∙ c.in_ok-own.ensures in
    let high = c.deref-in-loop-child-2.ensures.value ∙ choices_made triggers child.trigger branch c.deref.result.now c.in_ok-part.part.items own c.in_ok-part.ensures in
    record {
      at = omega (arith, l.invariant.at, count, count_all-push before (seen_child child), ap count_all taken);
      room = omega (arith, l.invariant.room, count, counted);
      candidates =
          c.in_ok-candidates-2.ensures
          ∙ (λ i. joined (low i) (l.invariant.at i) (high i))
          ∙ sym (candidates-push triggers before (seen_child child) (are_local (tree_in (take l.child-index children))) (is_local branch))
          ∙ ap (candidates triggers) (sym taken);
    }

pub children_masks-returns : goal.children_masks-returns
children_masks-returns t c =
    let l = c.loop-child in
    let children = c.args.children.now in
    let triggers = c.has_trigger-triggers.result in
    let marks = c.has_trigger-triggers.ensures ∙ same_marks children in
    let all = c.deref-2.ensures.value ∙ l.invariant.candidates ∙ ap (candidates triggers) (all_taken children l.child-index c.loop-child-test.false) in
    let are = ap (masks_taken triggers) all ∙ masks_taken-seen triggers (seen_children (tree_in children)) marks in
    subst (λ list. IfOk c.masks_taken.result (λ masks. masks.items ≡ list)) are c.masks_taken.ensures
