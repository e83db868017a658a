use Rattle.std.proofs.Common.{◌≡◌, ◌/◌, ◌&&◌, nat_lt, ℕ, List, [], false}
use Rattle.std.specs.Prelude.{bit_and}
use Rattle.std.specs.FinSet.{contains}
use Rattle.petri_atom.specs.Local.{Local}
use Rattle.plant_model.specs.ConnectorRows.{IsJudged}
use Rattle.plant_model.specs.declared.bound_expressions.Clause.{Clause}
use Rattle.plant_model.proofs.connector_judge.judge_each_word.Given as goal

-- the set is right at those in the words before the place
abbrev pub invariant-loop-place : goal.invariant-loop-place
invariant-loop-place l =
    ((clauses : List Clause) (states : List Local) → (bit_and l.off l.rows.must ≡ 0 → clauses ≡ []) → IsJudged (λ n. contains l.rows.own n && nat_lt (n / 64) l.place) l.rows l.off clauses states l.fn.possible l.possible) ×
    (l.changed ≡ false → (n : ℕ) → contains l.possible n ≡ contains l.fn.possible n)
