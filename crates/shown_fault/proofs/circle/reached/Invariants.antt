-- The rounds that are left reach what all would have reached.
use Rattle.std.proofs.Common.{◌≡◌, ◌-◌, [], ◌∷◌}
use Rattle.shown_fault.specs.Lent.{lists_of}
use Rattle.shown_fault.specs.Circle.{reached}
use Rattle.shown_fault.proofs.circle.reached.Given as goal

abbrev pub invariant-loop-round : goal.invariant-loop-round
invariant-loop-round l = reached (l.rounds - l._round) l.is_up (lists_of l.names.items) (lists_of l.lines) ≡ reached l.rounds l.is_up (l.connector ∷ []) (lists_of l.lines)
