use Rattle.std.proofs.Common.{◌≡◌, ℕ, true, false}
use Rattle.std.specs.Prelude.{slice_index}
use Rattle.connector_tree.specs.Masks.{is_set}
use Rattle.priority_filter.specs.Members.{has_bit}
use Rattle.plant_model.proofs.connector_judge.joined.Given as goal

-- what is left are some of the leaves, the word has what the words of the others have, and nothing that none has
abbrev pub invariant-loop-left : goal.invariant-loop-left
invariant-loop-left l =
    ((j : ℕ) → has_bit l.left j ≡ true → is_set l.off j ≡ true) ×
    ((k j : ℕ) → is_set l.off j ≡ true → has_bit l.left j ≡ false → has_bit (slice_index l.on_leaf j) k ≡ true → has_bit l.word k ≡ true) ×
    ((k : ℕ) → ((j : ℕ) → is_set l.off j ≡ true → has_bit (slice_index l.on_leaf j) k ≡ false) → has_bit l.word k ≡ false)

abbrev pub decreases-loop-left : goal.decreases-loop-left
decreases-loop-left l = l.left
