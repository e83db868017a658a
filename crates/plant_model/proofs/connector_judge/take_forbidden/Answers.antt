use Rattle.std.proofs.Common.{◌≡◌, ◌<◌, ◌∙◌, ℕ, Bool, true, false, not, ◌&&◌, ◌||◌, ⊎_elim, ap, sym, refl, length, arith}
use Rattle.std.specs.FinSet.{contains}
use Rattle.std.specs.Prelude.{Some, slice_get}
use Rattle.std.proofs.lemmas.Bool.{cases_Bool, cases_eq}
use Rattle.std.proofs.lemmas.Option.{same_Some, slice_get_read, slice_get_within}
use Rattle.petri_atom.specs.Expression.{is_true, value_of}
use Rattle.plant_model.specs.BoundExpressions.{clause_of}
use Rattle.plant_model.specs.Values.{value_there}
use Rattle.plant_model.specs.ConnectorRows.{is_in_row}
use Rattle.plant_model.specs.declared.bound_expressions.Clause.{Clause}
use Rattle.plant_model.proofs.Pushed.{at-row}
use Rattle.plant_model.proofs.connector_judge.take_forbidden.Goals as goal

-- what one clause leaves of an interaction
module _ (old new inside holds : Bool) (is : new ≡ (old && (not inside || holds))) where
  and-true : (b : Bool) → (b && true) ≡ b
  and-true true = refl
  and-true false = refl

  or-true : (b : Bool) → (b || true) ≡ true
  or-true true = refl
  or-true false = refl

  and-false : (b : Bool) → (b && false) ≡ false
  and-false true = refl
  and-false false = refl

  still : (inside ≡ true → holds ≡ true) → new ≡ old
  still allowed =
      is ∙
      ⊎_elim
      (λ yes_. ap (λ h. old && (not inside || h)) (allowed yes_) ∙ ap (λ b. old && b) (or-true (not inside)))
      (λ no. ap (λ i. old && (not i || holds)) no)
      (cases_Bool inside) ∙
      and-true old

  gone : inside ≡ true → holds ≡ false → new ≡ false
  gone its zero = is ∙ ap (λ i. old && (not i || holds)) its ∙ ap (λ h. old && h) zero ∙ and-false old

  still-out : old ≡ false → new ≡ false
  still-out out = is ∙ ap (λ o. o && (not inside || holds)) out

pub take_under-requires-clause-own : goal.take_under-requires-clause-own
take_under-requires-clause-own c n inside =
    let within : c.loop-number.number < length c.args.under.now = omega (arith, c.requires.as_many, c.loop-number-test.true) in
    c.requires.own c.loop-number.number n (at-row c.args.under.now c.loop-number.number c.index-under-number.result within c.index-under-number.is n ∙ inside)

pub loop-number-preserved : goal.loop-number-preserved
loop-number-preserved c =
    let under = c.args.under.now in
    let clauses = c.args.clauses.now in
    let place = c.loop-number.number in
    let row = c.index-under-number.result in
    let item = c.index-clauses-number.result in
    let old = c.loop-number.possible in
    let new = c.take_under.new.possible in
    let holds : Clause → Bool = λ x. is_true (value_of (value_there c.args.states.now) (clause_of x).value) in
    let within : place < length under = omega (arith, c.requires.as_many, c.loop-number-test.true) in
    let its : (n : ℕ) → is_in_row under n place ≡ contains row n = at-row under place row within c.index-under-number.is in
    let there : slice_get clauses place ≡ Some item = slice_get_read clauses (length clauses) place item refl c.loop-number-test.true c.index-clauses-number.is in
    let before = c.loop-number.invariant in (
      λ n allowed. still (contains old n) (contains new n) (contains row n) (holds item) (c.take_under.ensures n) (λ inside. allowed place item there (its n ∙ inside)) ∙ before.0 n allowed,
      λ n k clause below at inside zero. ⊎_elim
          (λ same.
          let own : item ≡ clause = same_Some item clause (sym there ∙ ap (slice_get clauses) (sym same) ∙ at) in
          gone (contains old n) (contains new n) (contains row n) (holds item) (c.take_under.ensures n) (sym (its n) ∙ ap (is_in_row under n) (sym same) ∙ inside) (ap holds own ∙ zero))
          (λ other. still-out (contains old n) (contains new n) (contains row n) (holds item) (c.take_under.ensures n) (before.1 n k clause (omega (arith, below, other)) at inside zero))
          (cases_eq k place),
    )

pub returns-clause-goes : goal.returns-clause-goes
returns-clause-goes c n k clause at inside zero =
    c.loop-number.invariant.1 n k clause (omega (arith, slice_get_within c.args.clauses.now k clause at, c.loop-number-test.false)) at inside zero
