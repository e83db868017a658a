use Rattle.std.proofs.Common.{arith}
use Rattle.priority_filter.proofs.TableLaws.{above_within}
use Rattle.priority_filter.proofs.table.first_cyclic.Goals as goal

pub returns-clause-none : goal.returns-clause-none
returns-clause-none c = λ a above. c.loop-number.invariant a (let within = above_within c.args.rows.now a a above in omega arith) above
