use Rattle.std.proofs.Common.{◌≡◌, Bool, true, false, not, ◌&&◌, ◌||◌, ◌∙◌, ap, sym, refl, arith}
use Rattle.petri_atom.specs.Expression.{is_true, value_of}
use Rattle.priority_filter.specs.Members.{has_bit}
use Rattle.plant_model.specs.BoundExpressions.{clause_of}
use Rattle.plant_model.specs.Values.{value_there}
use Rattle.plant_model.proofs.WordSets.{bit-without, no-common}
use Rattle.plant_model.proofs.connector_judge.word_under.Goals as goal
use Rattle.plant_model.proofs.connector_judge.word_under.Goals.{else-word-row-ne0-via-else-word-row-ne0, else-word-row-ne0-via-then-word-row-ne0+else-not-is_true}

-- what a clause leaves of an interaction
where-zero : (x y holds : Bool) → holds ≡ false → (x && not y) ≡ (x && (not y || holds))
where-zero x true holds zero = ap (λ h. x && h) (sym zero)
where-zero x false holds zero = refl

where-true : (x y holds : Bool) → holds ≡ true → x ≡ (x && (not y || holds))
where-true true true holds is = sym is
where-true true false holds is = refl
where-true false y holds is = refl

where-apart : (x y holds : Bool) → (x ≡ true → y ≡ false) → x ≡ (x && (not y || holds))
where-apart true y holds apart = sym (ap (λ b. not b || holds) (apart refl))
where-apart false y holds apart = refl

pub returns-then-not-is_true : goal.returns-then-not-is_true
returns-then-not-is_true c k low =
    bit-without c.args.word c.args.row k (omega arith) low ∙
    where-zero (has_bit c.args.word k) (has_bit c.args.row k) (is_true (value_of (value_there c.args.states.now) (clause_of c.args.clause.now).value))
    (sym c.is_true.ensures ∙ c.if-not-is_true.true)

pub returns-else-word-row-ne0 : goal.returns-else-word-row-ne0
returns-else-word-row-ne0 c k low =
    let holds : Bool = is_true (value_of (value_there c.args.states.now) (clause_of c.args.clause.now).value) in
    elim c.else-word-row-ne0.branch [
      | else-word-row-ne0-via-then-word-row-ne0+else-not-is_true w ↦ where-true (has_bit c.args.word k) (has_bit c.args.row k) holds (sym w.is_true.ensures ∙ w.if-not-is_true.false)
      | else-word-row-ne0-via-else-word-row-ne0 w ↦ where-apart (has_bit c.args.word k) (has_bit c.args.row k) holds (no-common c.args.word c.args.row k (omega (arith, w.if-word-row-ne0.false)))
    ]
