use Rattle.std.proofs.Common.{◌≡◌, ℕ, Result, Err, ap, subst}
use Rattle.priority_filter.specs.declared.fault.OrderFault.{OrderFault}
use Rattle.priority_filter.specs.declared.fault.OrderFault.TheVariants.{Cycle}
use Rattle.priority_filter.specs.Order.{Priorities, IsFirstCyclic}
use Rattle.priority_filter.proofs.TableLaws.{first_cyclic_from_rows, first_cyclic_is_one, strict_from_rows}
use Rattle.priority_filter.proofs.DecidedOrder.{decides_unknown_fault, decides_cycle_fault, decides_no_fault}
use Rattle.priority_filter.proofs.order.Order.new.Goals as goal

-- a fault tells its number
same_cycle : (x a : ℕ) → ◌≡◌ {A = Result Priorities OrderFault} (Err (Cycle x)) (Err (Cycle a)) → x ≡ a
same_cycle x a same = cc

pub returns-in-Some-first_cyclic-clause-cycle : goal.returns-in-Some-first_cyclic-clause-cycle
returns-in-Some-first_cyclic-clause-cycle c = λ a _.
    let rules = c.args.rules.now in
    let interactions = c.args.interactions.now in
    let found : ℕ = c.in-Some-first_cyclic.interaction in
    let first : IsFirstCyclic rules interactions found = first_cyclic_from_rows rules interactions c.in_ok-above.above.items c.deref.result.now found c.deref.ensures.value c.in_ok-above.ensures.below c.in-Some-first_cyclic.ensures.cyclic c.in-Some-first_cyclic.ensures.first in (
      λ answer. (c.in_default.ensures.known, subst (IsFirstCyclic rules interactions) (same_cycle found a answer) first),
      λ both. ap (λ x. Err (Cycle x)) (first_cyclic_is_one rules interactions found a first both.1),
    )

pub returns-in-Some-clause-fault : goal.returns-in-Some-clause-fault
returns-in-Some-clause-fault c = λ _.
    (decides_unknown_fault c.args.rules.now c.args.interactions.now c.in-Some.rule).1 c.in-Some.ensures.unknown

pub returns-in-Some-first_cyclic-clause-fault : goal.returns-in-Some-first_cyclic-clause-fault
returns-in-Some-first_cyclic-clause-fault c = λ _.
    let rules = c.args.rules.now in
    let interactions = c.args.interactions.now in
    let found : ℕ = c.in-Some-first_cyclic.interaction in
    (decides_cycle_fault rules interactions found).1
    (c.in_default.ensures.known, first_cyclic_from_rows rules interactions c.in_ok-above.above.items c.deref.result.now found c.deref.ensures.value c.in_ok-above.ensures.below c.in-Some-first_cyclic.ensures.cyclic c.in-Some-first_cyclic.ensures.first)

pub returns-clause-sound : goal.returns-clause-sound
returns-clause-sound c =
    (decides_no_fault c.args.rules.now c.args.interactions.now).1
    (c.in_default.ensures.known, strict_from_rows c.args.rules.now c.args.interactions.now c.in_ok-above.above.items c.deref.result.now c.deref.ensures.value c.in_ok-above.ensures.below c.in_default-first_cyclic.ensures.none)

pub returns-clause-strict : goal.returns-clause-strict
returns-clause-strict c =
    strict_from_rows c.args.rules.now c.args.interactions.now c.in_ok-above.above.items c.deref.result.now c.deref.ensures.value c.in_ok-above.ensures.below c.in_default-first_cyclic.ensures.none

pub of-requires-clause-sound : goal.of-requires-clause-sound
of-requires-clause-sound c =
    (decides_no_fault c.args.rules.now c.args.interactions.now).1
    (c.in_default.ensures.known, strict_from_rows c.args.rules.now c.args.interactions.now c.in_ok-above.above.items c.deref.result.now c.deref.ensures.value c.in_ok-above.ensures.below c.in_default-first_cyclic.ensures.none)
