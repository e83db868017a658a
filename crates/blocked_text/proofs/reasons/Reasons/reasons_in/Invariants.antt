use Rattle.std.specs.Prelude.{None}
use Rattle.blocked_text.specs.Asked.{plant_asked}
use Rattle.blocked_text.specs.Reason.{reason_of}
use Rattle.blocked_text.proofs.Filling.{Filled}
use Rattle.blocked_text.proofs.reasons.Reasons.reasons_in.Given as goal

-- the reasons of the first interactions are there
abbrev pub invariant-loop-number : goal.invariant-loop-number
invariant-loop-number l = Filled (reason_of (plant_asked l.self) l.states) None l.number l.reasons
