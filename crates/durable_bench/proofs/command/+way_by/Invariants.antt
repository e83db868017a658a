use Rattle.std.proofs.Common.{length}
use Rattle.durable_bench.proofs.command.+way_by.Given as goal

abbrev pub decreases-way_by : goal.decreases-way_by
decreases-way_by l = length l.words.now
