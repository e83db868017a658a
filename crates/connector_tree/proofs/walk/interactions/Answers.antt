use Rattle.std.proofs.Common.{◌≡◌, ℕ, ◌^◌, sym, ap, ◌∙◌, arith}
use Rattle.std.specs.declared.vec.Vec.{Vec}
use Rattle.std.specs.declared.alloc.Global.{Global}
use Rattle.connector_tree.specs.Tree.{bracket, tree_of, tree_in}
use Rattle.connector_tree.specs.Masks.{interactions_of}
use Rattle.connector_tree.specs.Walk.{seen, takes}
use Rattle.connector_tree.specs.MaskLists.{masks_seen}
use Rattle.connector_tree.proofs.Sound.{fault_itself}
use Rattle.connector_tree.proofs.Walks.{is_seen}
use Rattle.connector_tree.proofs.Filtered.{passing}
use Rattle.connector_tree.proofs.Exact.{interactions_are, interactions_exact, interactions_rise}
use Rattle.connector_tree.proofs.walk.interactions.Goals as goal
use Rattle.connector_tree.proofs.walk.interactions.Goals.{In_ok-masks-in-None}

pub children_masks-requires : goal.children_masks-requires
children_masks-requires c =
    let is_sound = c.in-None.ensures.sound in
    let counted = (is_seen (bracket (tree_of c.args.connector.now))).count in
    rw c.deref.ensures.value (omega (arith, is_sound.few_leaves, counted))

pub returns-in-Some-clause-fault : goal.returns-in-Some-clause-fault
returns-in-Some-clause-fault c =
    fault_itself (Vec ℕ Global) c.in-Some.fault (tree_of c.args.connector.now) (sym c.first_fault.ensures.fault ∙ c.in-Some.is)

-- the masks that the tree gives are the interactions
listed : (c : In_ok-masks-in-None) → c.in_ok-masks-in-None.masks.items ≡ interactions_of (tree_of c.args.connector.now)
listed c =
    let is_sound = c.in-None.ensures.sound in
    let counted = (is_seen (bracket (tree_of c.args.connector.now))).count in
    c.in_ok-masks-in-None.ensures
    ∙ ap (λ items. masks_seen (seen (bracket (tree_in items)))) c.deref.ensures.value
    ∙ ap (λ n. passing (takes (tree_of c.args.connector.now)) (2 ^ n)) counted
    ∙ sym (interactions_are (tree_of c.args.connector.now) is_sound.distinct_atoms)

pub returns-in_ok-masks-in-None-clause-list : goal.returns-in_ok-masks-in-None-clause-list
returns-in_ok-masks-in-None-clause-list c = listed c

pub returns-in_ok-masks-in-None-clause-exact : goal.returns-in_ok-masks-in-None-clause-exact
returns-in_ok-masks-in-None-clause-exact c = interactions_exact (tree_of c.args.connector.now) c.in_ok-masks-in-None.masks.items (listed c)

pub returns-in_ok-masks-in-None-clause-rising : goal.returns-in_ok-masks-in-None-clause-rising
returns-in_ok-masks-in-None-clause-rising c = interactions_rise (tree_of c.args.connector.now) c.in_ok-masks-in-None.masks.items (listed c)
