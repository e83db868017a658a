use Rattle.std.proofs.Common.{◌∙◌, ap, sym, ◌+◌, ◌-◌}
use Rattle.shown_fault.specs.Lent.{lists_of}
use Rattle.shown_fault.specs.Circle.{reached}
use Rattle.shown_fault.proofs.Circling.{one_round}
use Rattle.shown_fault.proofs.circle.reached.Goals as goal

pub loop-round-preserved : goal.loop-round-preserved
loop-round-preserved c =
    ap (λ names. reached (c.args.rounds - (c.loop-round._round + 1)) c.args.is_up names (lists_of c.args.lines.now)) c.in_ok-spread.ensures ∙
    sym (one_round c.args.rounds c.loop-round._round c.args.is_up (lists_of c.loop-round.names.items) (lists_of c.args.lines.now) c.loop-round-test.true) ∙
    c.loop-round.invariant
