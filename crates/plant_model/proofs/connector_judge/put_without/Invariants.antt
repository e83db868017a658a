use Rattle.std.proofs.Common.{◌≡◌, ◌<◌, ◌/◌, ℕ, true, false}
use Rattle.std.specs.FinSet.{contains}
use Rattle.connector_tree.specs.Masks.{is_set}
use Rattle.plant_model.specs.ConnectorRows.{is_in_row}
use Rattle.plant_model.proofs.connector_judge.put_without.Given as goal

-- the connector's interactions in the words before the place are right, and all others are as they were
abbrev pub invariant-loop-place : goal.invariant-loop-place
invariant-loop-place l =
    ((n : ℕ) → contains l.rows.own n ≡ true → n / 64 < l.place → ((j : ℕ) → is_set l.off j ≡ true → is_in_row l.rows.on_leaf.items n j ≡ false) → contains l.possible n ≡ true) ×
    ((n j : ℕ) → contains l.rows.own n ≡ true → n / 64 < l.place → is_set l.off j ≡ true → is_in_row l.rows.on_leaf.items n j ≡ true → contains l.possible n ≡ false) ×
    ((n : ℕ) → contains l.rows.own n ≡ false → contains l.possible n ≡ contains l.fn.possible n)
