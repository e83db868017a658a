use Rattle.std.proofs.Common.{◌≡◌, false, drop}
use Rattle.priority_filter.specs.Active.{AskAlike, may_be_marked}
use Rattle.plant_model.specs.Sights.{AreSeenBut}
use Rattle.step_core.proofs.sights.see_again.Given as goal

-- all is right but what is seen of the changed atoms that are left
abbrev pub invariant-loop-atom : goal.invariant-loop-atom
invariant-loop-atom g l = record {
  others : AreSeenBut (drop l.atom-index l.changed) l.order.rules (g.S.Sights.marked l.states) l.seen;
  same : l.is_new ≡ false → AskAlike l.order.rules (may_be_marked l.seen) (may_be_marked l.initial.seen);
}
