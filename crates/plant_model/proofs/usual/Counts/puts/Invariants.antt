use Rattle.std.proofs.Common.{◌≡◌, ◌<◌, ℕ, true, map}
use Rattle.std.specs.Prelude.{Some, slice_get}
use Rattle.priority_filter.specs.Members.{has_bit}
use Rattle.plant_model.specs.Usual.{IsPut, has_put}
use Rattle.plant_model.specs.declared.usual.Put.{Put}
use Rattle.plant_model.proofs.usual.Counts.puts.Given as goal

abbrev pub invariant-loop-number : goal.invariant-loop-number
invariant-loop-number l =
    ((k : ℕ) → k < l.number → has_bit l.connectors k ≡ true → has_put l.puts.items k ≡ true) ×
    ((n : ℕ) (p : Put) → slice_get l.puts.items n ≡ Some p → IsPut (map (λ list. list.items) l.ports) l.self.atom l.self.after p)
