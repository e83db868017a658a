use Rattle.std.proofs.Common.{◌+◌, ◌++◌, ◌∙◌, sym, ap, drop}
use Rattle.connector_tree.specs.Masks.{chosen}
use Rattle.plant_model.proofs.Ports.{chosen-taken, chosen-passed}
use Rattle.plant_model.proofs.interactions.ports_of_mask.Goals as goal
use Rattle.plant_model.proofs.interactions.ports_of_mask.Goals.{then-has_leaf+in_ok-push, else-has_leaf}

pub loop-leaf-preserved : goal.loop-leaf-preserved
loop-leaf-preserved c =
    elim c.if-has_leaf.branch [
      | then-has_leaf+in_ok-push w ↦ chosen-taken c.args.mask c.loop-leaf.leaf c.args.leaves.now _ c.loop-leaf-test.true c.loop-leaf.ports.items c.if-has_leaf.ports.items _ (sym c.has_leaf.ensures ∙ w.if-has_leaf.true) (ap (λ v. v.items) w.ports-is ∙ w.in_ok-push.ensures.items) c.loop-leaf.invariant
      | else-has_leaf w ↦ ap (λ v. v.items ++ chosen c.args.mask (c.loop-leaf.leaf + 1) (drop (c.loop-leaf.leaf + 1) c.args.leaves.now)) w.ports-is ∙ chosen-passed c.args.mask c.loop-leaf.leaf c.args.leaves.now (record { atom = 0; port = 0 }) c.loop-leaf-test.true c.loop-leaf.ports.items _ (sym c.has_leaf.ensures ∙ w.if-has_leaf.false) c.loop-leaf.invariant
    ]
