use Rattle.std.proofs.Common.{◌≡◌, take}
use Rattle.crash_explorer.proofs.outcome.copies_of.Given as goal

abbrev pub invariant-loop-firing : goal.invariant-loop-firing
invariant-loop-firing l = l.copies.items ≡ take l.firing-index l.firings
