-- A look at what is held is a look at the plant.
use Rattle.std.proofs.Common.{◌≡◌, sym, subst}
use Rattle.std.specs.Prelude.{Option, None, Some, IsSomeAnd}
use Rattle.plant_model.specs.Plant.{PlantDefinition}
use Rattle.plant_core.specs.View.{View}
use Rattle.plant_for_c.specs.Things.{IsLook}
use Rattle.plant_for_c.specs.declared.thing.Thing.{Thing}
use Rattle.plant_for_c.specs.declared.thing.Thing.TheVariants.{Text, Image, Plant, Failed}
use Rattle.kilnmace_c.specs.Calls.{IsHeldLook}

-- what holds of an answer that is there, and is told of it, holds of some answer; and what is told where there is none holds there
look_of : {A : Type 0} (thing : Thing) (answer : Option A) (P : PlantDefinition → View → A → Type 0) (Q : Option A → Type 0)
    → IsLook thing (answer ≡ None) (λ d v. IsSomeAnd answer (P d v)) → Q answer → IsLook thing (Q None) (λ d v. (a : A) × P d v a × Q (Some a))
look_of (Text s) answer P Q look told = subst Q look told
look_of (Image s) answer P Q look told = subst Q look told
look_of Failed answer P Q look told = subst Q look told
look_of (Plant p) None P Q look told = absurd look
look_of (Plant p) (Some a) P Q look told = (a, look, told)

-- the same of what is held
pub held_look_of : {A : Type 0} (held : Option Thing) (thing : Thing) (answer : Option A) (P : PlantDefinition → View → A → Type 0) (Q : Option A → Type 0)
    → held ≡ Some thing → IsLook thing (answer ≡ None) (λ d v. IsSomeAnd answer (P d v)) → Q answer → IsHeldLook held (Q None) (λ d v. (a : A) × P d v a × Q (Some a))
held_look_of held thing answer P Q is look told = subst (λ h. IsHeldLook h (Q None) (λ d v. (a : _) × P d v a × Q (Some a))) (sym is) (look_of thing answer P Q look told)
