-- A call of what is held is a call of the plant.
use Rattle.std.proofs.Common.{◌≡◌, ◌∙◌, ap, sym, subst, Result, Err}
use Rattle.std.specs.Prelude.{Option, None, Some, IsSomeAnd}
use Rattle.plant_model.specs.Plant.{PlantDefinition}
use Rattle.plant_core.specs.View.{View}
use Rattle.plant_for_c.specs.Things.{IsStep, absent_of}
use Rattle.plant_for_c.specs.declared.status.Status.{Status}
use Rattle.plant_for_c.specs.declared.thing.Thing.{Thing}
use Rattle.plant_for_c.specs.declared.thing.Thing.TheVariants.{Text, Image, Plant, Failed}
use Rattle.kilnmace_c.specs.Calls.{IsHeldStep, absent_in}
use Rattle.kilnmace_c.specs.Told.{or_absent}

-- what holds of an answer that is there, and is told of it, holds of some answer; and what is told where there is none holds there
step_of : {A : Type 0} (thing changed : Thing) (answer : Option A) (P : PlantDefinition → View → View → A → Type 0) (Q : Option A → Type 0)
    → IsStep thing changed (answer ≡ None) (λ d v w. IsSomeAnd answer (P d v w)) → Q answer → IsStep thing changed (Q None) (λ d v w. (a : A) × P d v w a × Q (Some a))
step_of (Text s) changed answer P Q step told = (step.0, subst Q step.1 told)
step_of (Image s) changed answer P Q step told = (step.0, subst Q step.1 told)
step_of Failed changed answer P Q step told = (step.0, subst Q step.1 told)
step_of (Plant p) (Text s) answer P Q step told = absurd step
step_of (Plant p) (Image s) answer P Q step told = absurd step
step_of (Plant p) Failed answer P Q step told = absurd step
step_of (Plant p) (Plant q) None P Q step told = absurd (step.2)
step_of (Plant p) (Plant q) (Some a) P Q step told = (step.0, step.1, (a, step.2, told))

-- the same of what is held before and after
held_step_of : {A : Type 0} (before after : Option Thing) (thing changed : Thing) (answer : Option A) (P : PlantDefinition → View → View → A → Type 0) (Q : Option A → Type 0)
    → before ≡ Some thing → after ≡ Some changed → IsStep thing changed (answer ≡ None) (λ d v w. IsSomeAnd answer (P d v w)) → Q answer
    → IsHeldStep before after (Q None) (λ d v w. (a : A) × P d v w a × Q (Some a))
held_step_of before after thing changed answer P Q is becomes step told =
    let R : PlantDefinition → View → View → Type 0 = λ d v w. (a : _) × P d v w a × Q (Some a) in
    subst (λ b. IsHeldStep b after (Q None) R) (sym is) (subst (λ a. IsHeldStep (Some thing) a (Q None) R) (sym becomes) (step_of thing changed answer P Q step told))

-- the same of a thing that is taken out of what is held and put back: what it answers, or why it answers nothing, is told by a result
pub told_step_of : {A X : Type 0} {before after : Option Thing} {taken seen thing changed : Thing} {absent : Status} {result : Result X Status}
    (answer : Option A) (P : PlantDefinition → View → View → A → Type 0) (meant : A → Result X Status) (IsTold : Result X Status → Type 0)
    → before ≡ Some taken → seen ≡ taken → thing ≡ taken → after ≡ Some changed → IsStep thing changed (answer ≡ None) (λ d v w. IsSomeAnd answer (P d v w))
    → absent ≡ absent_of seen → result ≡ or_absent meant absent answer → IsTold result
    → IsHeldStep before after (IsTold (Err (absent_in before))) (λ d v w. (a : A) × P d v w a × IsTold (meant a))
told_step_of {before = before} {after = after} {thing = thing} {changed = changed} answer P meant IsTold is sees takes becomes step why tells told =
    let absent_is = why ∙ ap absent_of sees ∙ sym (ap absent_in is) in
    held_step_of before after thing changed answer P (λ o. IsTold (or_absent meant (absent_in before) o)) (is ∙ ap Some (sym takes)) becomes step
    (subst IsTold (tells ∙ ap (λ s. or_absent meant s answer) absent_is) told)
