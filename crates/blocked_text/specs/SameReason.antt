-- When two interactions have the same reason.
use Rattle.std.specs.Prelude.{Bool, false, ◌&&◌, ◌==◌}
use Rattle.connector_tree.specs.declared.tree.Port.{Port}
use Rattle.blocked_text.specs.declared.reason.Reason.{Reason}
use Rattle.blocked_text.specs.declared.reason.Reason.TheVariants.{NotOffered, GuardIsZero, GivesWay}

-- two ports are the same
abbrev pub is_same_port : Port → Port → Bool
is_same_port p q = p.atom == q.atom && p.port == q.port

-- two reasons are of the same kind, and of the same port, clause or interaction
abbrev pub is_same_reason : Reason → Reason → Bool
is_same_reason (NotOffered p) (NotOffered q) = is_same_port p q
is_same_reason (GuardIsZero k) (GuardIsZero j) = k == j
is_same_reason (GivesWay m) (GivesWay n) = m == n
is_same_reason r s = false
