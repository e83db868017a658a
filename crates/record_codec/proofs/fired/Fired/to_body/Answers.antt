use Rattle.std.proofs.Common.{subst, lit<, lit≤, arith}
use Rattle.record_codec.specs.declared.layout.TheConstants.{MOST_ENTRIES}
use Rattle.record_codec.specs.Fired.{IsFired, fired_in}
use Rattle.record_codec.proofs.fired.Fired.to_body.Goals as goal

pub spelled-requires : goal.spelled-requires
spelled-requires c =
    let ranges : IsFired c.args.self.now = subst IsFired c.self.view_is c.self.invariant.1 in
    (lit< tt, (omega (arith, ranges.entries_within), lit≤ tt))

pub returns-clause-reads_back : goal.returns-clause-reads_back
unfolding fired_in
returns-clause-reads_back c =
    let ranges : IsFired c.args.self.now = subst IsFired c.self.view_is c.self.invariant.1 in
    c.spelled.ensures.reads_back MOST_ENTRIES ranges.entries_within
