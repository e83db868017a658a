use Rattle.blocked_text.proofs.Hindering.{idle, none-of, right}
use Rattle.blocked_text.proofs.laws.a_hindrance_is_right.Goals as goal

pub returns : goal.returns
returns c = record { right = right; none = none-of; idle = idle }
