use Rattle.std.proofs.Common.{◌≡◌, length, vec_len, vec_capacity}
use Rattle.priority_filter.proofs.TableLaws.{TurnedBelow}
use Rattle.priority_filter.proofs.table.turned.Given as goal

abbrev pub invariant-loop-upper : goal.invariant-loop-upper
invariant-loop-upper l = record {
  size : vec_len l.lower ≡ l.upper;
  room : vec_capacity l.lower ≡ length l.rows;
  turned : TurnedBelow l.rows l.upper l.lower.items;
}
