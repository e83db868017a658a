use Rattle.std.proofs.Common.{◌≡◌, ◌&&◌, nat_lt, ℕ, map}
use Rattle.priority_filter.specs.Members.{has_bit}
use Rattle.plant_model.specs.Usual.{has_other}
use Rattle.plant_model.proofs.usual.Counts.differing.Given as goal

abbrev pub invariant-loop-number : goal.invariant-loop-number
invariant-loop-number l =
    (k : ℕ) → has_bit l.connectors k ≡ (nat_lt k l.number && has_other l.most l.self.atom l.self.before l.self.after (map (λ list. list.items) l.ports) k)
