use Rattle.std.proofs.Common.{◌≡◌, take}
use Rattle.crash_explorer.proofs.states.are_same.Given as goal

abbrev pub invariant-loop-atom : goal.invariant-loop-atom
invariant-loop-atom l = take l.atom l.one ≡ take l.atom l.other
