use Rattle.std.proofs.Common.{refl, arith}
use Rattle.priority_filter.proofs.CommonMembers.{cleared_more, cleared_rest}
use Rattle.priority_filter.proofs.interaction_set.subtract.Goals as goal

pub loop-k-preserved : goal.loop-k-preserved
loop-k-preserved c = record {
  cleared = cleared_more c.args.words.now c.loop-k.words _ c.args.other.now c.loop-k.k (omega arith) (omega arith) refl c.loop-k.invariant.cleared c.loop-k.invariant.rest;
  rest = cleared_rest c.args.words.now c.loop-k.words _ c.args.other.now c.loop-k.k refl c.loop-k.invariant.rest;
}
