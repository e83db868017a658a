use Rattle.std.proofs.Common.{◌≡◌, ◌/◌, ◌%◌, ℕ, true, false}
use Rattle.connector_tree.specs.Masks.{is_set}
use Rattle.priority_filter.specs.Members.{has_bit}
use Rattle.plant_model.specs.ConnectorRows.{is_in_row}
use Rattle.plant_model.proofs.connector_judge.word_on.Given as goal

-- what is left are some of the leaves, the word has what is on the others, and nothing that is on none
abbrev pub invariant-loop-left : goal.invariant-loop-left
invariant-loop-left l =
    ((j : ℕ) → has_bit l.left j ≡ true → is_set l.off j ≡ true) ×
    ((n j : ℕ) → n / 64 ≡ l.place → is_set l.off j ≡ true → has_bit l.left j ≡ false → is_in_row l.on_leaf n j ≡ true → has_bit l.word (n % 64) ≡ true) ×
    ((n : ℕ) → n / 64 ≡ l.place → ((j : ℕ) → is_set l.off j ≡ true → is_in_row l.on_leaf n j ≡ false) → has_bit l.word (n % 64) ≡ false)

abbrev pub decreases-loop-left : goal.decreases-loop-left
decreases-loop-left l = l.left
