use Rattle.std.proofs.Common.{◌≡◌, ◌≤◌, ◌/◌, ◌%◌, ℕ, length, true, false}
use Rattle.priority_filter.specs.Members.{has_bit}
use Rattle.plant_model.specs.ConnectorRows.{is_of_connector}
use Rattle.plant_model.specs.System.{interactions_in, plant_of}
use Rattle.step_core.proofs.choices.connectors_of.Given as goal

-- what is left are bits of the word, and the connectors of all others are told
abbrev pub invariant-loop-left : goal.invariant-loop-left
invariant-loop-left l =
    ((j : ℕ) → has_bit l.left j ≡ true → has_bit l.word j ≡ true) ×
    ((k : ℕ) → length (plant_of l.system).wires ≤ k → has_bit l.connectors k ≡ false) ×
    ((n k : ℕ) → n / 64 ≡ l.place → is_of_connector (interactions_in l.system) k n ≡ true → has_bit l.word (n % 64) ≡ true → has_bit l.left (n % 64) ≡ false → has_bit l.connectors k ≡ true)

abbrev pub decreases-loop-left : goal.decreases-loop-left
decreases-loop-left l = l.left
