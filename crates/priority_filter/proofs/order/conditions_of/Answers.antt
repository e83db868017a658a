use Rattle.std.proofs.Common.{◌↔◌, ℕ, ◌+◌, ◌∙◌, sym, subst, ap}
use Rattle.priority_filter.specs.declared.condition.Condition.{Condition}
use Rattle.priority_filter.specs.Active.{unconditional}
use Rattle.priority_filter.specs.Conditions.{IsConditionOf}
use Rattle.priority_filter.specs.Order.{IsBelow}
use Rattle.priority_filter.specs.Table.{Above}
use Rattle.priority_filter.proofs.Keeping.{HasFirst, first-skip, first-more, first-all, turned-same, from-same}
use Rattle.priority_filter.proofs.order.conditions_of.Goals as goal
use Rattle.priority_filter.proofs.order.conditions_of.Goals.{in-UnderAt+in_ok-push, in_default}

pub loop-k-preserved : goal.loop-k-preserved
loop-k-preserved c =
    let rules = c.args.rules.now in
    let interactions = c.args.interactions.now in
    let k : ℕ = c.loop-k.k in
    let now = c.loop-k.conditions.items in
    let Up : ℕ → ℕ → Type 0 = Above c.args.above.now in
    let Down : ℕ → ℕ → Type 0 = Above c.args.below.now in
    let Below : ℕ → ℕ → Type 0 = IsBelow (unconditional rules) interactions in
    let down : (a b : ℕ) → Down b a ↔ Below a b = λ a b. (λ it. (c.requires.exact a b).0 ((c.requires.turned a b).0 it), λ it. (c.requires.turned a b).1 ((c.requires.exact a b).1 it)) in
    elim c.match-rules-k.branch [
      | in-UnderAt+in_ok-push w ↦
          let left = w.in-UnderAt.left in
          let right = w.in-UnderAt.right in
          let condition : Condition = record { at = w.in-UnderAt.at; below = w.from_side.result; above = w.from_side-in-UnderAt.result } in
          let is : IsConditionOf rules interactions left right condition = record {
            below = λ n. let decides = turned-same Down Below down interactions left n in (λ yes_. decides.0 ((w.from_side.ensures n).0 yes_), λ some. (w.from_side.ensures n).1 (decides.1 some));
            above = λ n. let decides = from-same Up Below c.requires.exact interactions right n in (λ yes_. decides.0 ((w.from_side-in-UnderAt.ensures n).0 yes_), λ some. (w.from_side-in-UnderAt.ensures n).1 (decides.1 some));
          } in
          subst (HasFirst rules interactions (k + 1)) (sym (ap (λ v. v.items) w.conditions-is ∙ w.in_ok-push.ensures.items))
          (first-more rules interactions k now left right condition c.loop-k-test.true c.loop-k.invariant w.in-UnderAt.is is)
      | in_default w ↦
          subst (HasFirst rules interactions (k + 1)) (sym (ap (λ v. v.items) w.conditions-is))
          (first-skip rules interactions k now c.loop-k.invariant w.in_default.not-UnderAt)
    ]

pub returns : goal.returns
returns c = first-all c.args.rules.now c.args.interactions.now c.loop-k.k c.loop-k.conditions.items c.loop-k-test.false c.loop-k.invariant
