use Rattle.std.proofs.Common.{MatchOption, Option, subst}
use Rattle.crash_explorer.specs.Watching.{IsStoppedAt}
use Rattle.crash_explorer.specs.declared.watched.Cut.{Cut}
use Rattle.crash_explorer.proofs.halted.Halted.at.Goals as goal

pub invariant_of-result : goal.invariant_of-result
invariant_of-result c =
    record {
      stopped = subst (λ (o : Option Cut). MatchOption o (Unit {0}) (λ cut. ∥ IsStoppedAt c.args.stop cut c.in_ok-ended.ended.disk.disk ∥₁)) c.in_ok-cut.ensures.ok_part c.cut_at.ensures;
      ended = c.in_ok-ended.ensures.ended;
      made = c.in_ok-ended.ensures.made;
    }
