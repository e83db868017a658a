use Rattle.std.proofs.Common.{◌≡◌, ◌&&◌, nat_lt, ℕ, true}
use Rattle.connector_tree.specs.Masks.{is_set}
use Rattle.plant_model.specs.Usual.{is_nothing, is_on, is_several}
use Rattle.plant_model.proofs.usual.Counts.put.Given as goal

abbrev pub invariant-loop-number : goal.invariant-loop-number
invariant-loop-number l =
    (l.put.connector ≡ l.connector) ×
    ((k : ℕ) → is_set l.put.mask k ≡ (nat_lt k l.number && is_on (λ count. true) l.self.atom l.self.after l.leaves k)) ×
    ((k : ℕ) → is_set l.put.off k ≡ (nat_lt k l.number && is_on is_nothing l.self.atom l.self.after l.leaves k)) ×
    ((k : ℕ) → is_set l.put.many k ≡ (nat_lt k l.number && is_on is_several l.self.atom l.self.after l.leaves k))
