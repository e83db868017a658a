use Rattle.std.proofs.Common.{rules}
use Rattle.record_codec.proofs.entry.Entry.is_within.Goals as goal

pub returns-then-self-ge1 : goal.returns-then-self-ge1
returns-then-self-ge1 c = search rules

pub returns-else-self-ge1 : goal.returns-else-self-ge1
returns-else-self-ge1 c = search rules
