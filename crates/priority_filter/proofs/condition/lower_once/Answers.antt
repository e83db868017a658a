use Rattle.std.proofs.Common.{◌≡◌, ℕ, Bool, true, false, ◌||◌, Contains, refl, sym, ap, ◌∙◌, subst, ⊎_elim, get_or, arith}
use Rattle.std.specs.FinSet as set
use Rattle.std.proofs.lemmas.Bool.{cases_eq, or_cases, false_from_ne_true, both_ways}
use Rattle.std.proofs.lemmas.List.{get_or_read}
use Rattle.priority_filter.specs.declared.condition.Condition.{Condition}
use Rattle.priority_filter.specs.Active.{may_be_marked}
use Rattle.priority_filter.specs.Conditions.{IsClosedBy}
use Rattle.priority_filter.proofs.condition.lower_once.Goals as goal

neither : (a b : Bool) → (a || b) ≡ false → (a ≡ false) × (b ≡ false)
neither false false none = (refl, refl)
neither false true none = (refl, none)
neither true b none = (none, absurd (both_ways true none refl))

pub loop-condition-preserved : goal.loop-condition-preserved
loop-condition-preserved c =
    let conditions = c.args.conditions.now in
    let holds = may_be_marked c.args.seen.now in
    let rivals = set.contains c.args.rivals.now in
    let index : ℕ = c.loop-condition.condition-index in
    let item : Condition = c.condition-item.result in
    let added : Bool = c.loop-condition.added in
    let now : Bool = c.lower-added.result in
    let there : Contains conditions item = (index, c.loop-condition-test.true, sym c.condition-item.is) in
    record {
      same = λ none. c.lower-added.ensures.same (neither added now none).1 ∙ c.loop-condition.invariant.same (neither added now none).0;
      closed = λ none k d below.
          let parts = neither added now none in
          ⊎_elim
          (λ here. subst (λ e. IsClosedBy e holds rivals (set.contains c.lower-added.new.over)) (get_or_read conditions index item c.loop-condition-test.true c.condition-item.is d ∙ ap (λ j. get_or conditions j d) (sym here)) (c.lower-added.ensures.closed parts.1))
          (λ other. subst (λ s. IsClosedBy (get_or conditions k d) holds rivals (set.contains s)) (sym (c.lower-added.ensures.same parts.1)) (c.loop-condition.invariant.closed parts.0 k d (omega arith)))
          (cases_eq k index);
      more = λ some.
          ⊎_elim
          (λ before. let found = c.loop-condition.invariant.more before in (found.0, found.1, found.2, c.lower-added.ensures.grows found.0 found.3))
          (λ here.
          let found = c.lower-added.ensures.more here in
          (found.0, found.1, false_from_ne_true (set.contains c.args.over.now found.0) (λ yes. both_ways (set.contains c.loop-condition.over found.0) found.2 (c.loop-condition.invariant.grows found.0 yes)), found.3))
          (or_cases added now some);
      grows = λ n was. c.lower-added.ensures.grows n (c.loop-condition.invariant.grows n was);
      least = λ other closed within. c.lower-added.ensures.least other (closed item there) (c.loop-condition.invariant.least other closed within);
    }

pub returns-clause-closed : goal.returns-clause-closed
returns-clause-closed c = λ none condition there.
    subst (λ e. IsClosedBy e (may_be_marked c.args.seen.now) (set.contains c.args.rivals.now) (set.contains c.loop-condition.over)) there.2
    (c.loop-condition.invariant.closed none there.0 condition (omega (arith, there.1, c.loop-condition-test.false)))
