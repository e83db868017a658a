use Rattle.std.proofs.Common.{◌≡◌, ◌≢◌, ◌∙◌, subst}
use Rattle.std.specs.Prelude.{IfOk, IfErr, OnOk, Some, None}
use Rattle.priority_filter.specs.Decided.{order_fault}
use Rattle.priority_filter.specs.declared.fault.OrderFault.TheVariants.{Memory}
use Rattle.plant_model.proofs.system.order_of.Goals as goal

pub returns-clause-rules : goal.returns-clause-rules
returns-clause-rules c = c.new.ensures.rules

pub returns-clause-interactions : goal.returns-clause-interactions
returns-clause-interactions c =
    subst (λ names. IfOk c.new.result (λ order. order.interactions ≡ names)) (c.deref.ensures.value ∙ c.in_ok-names_of.ensures) c.new.ensures.interactions

pub returns-clause-sound : goal.returns-clause-sound
returns-clause-sound c =
    subst (λ names. OnOk c.new.result (order_fault c.args.rules.now names ≡ None)) (c.deref.ensures.value ∙ c.in_ok-names_of.ensures) c.new.ensures.sound

pub returns-clause-fault : goal.returns-clause-fault
returns-clause-fault c =
    subst (λ names. IfErr c.new.result (λ fault. fault ≢ Memory → order_fault c.args.rules.now names ≡ Some fault)) (c.deref.ensures.value ∙ c.in_ok-names_of.ensures) c.new.ensures.fault
