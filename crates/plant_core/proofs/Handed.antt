-- There are as many hands after an event as before.
use Rattle.std.proofs.Common.{◌≡◌, ℕ, refl, sym, ◌∙◌, subst, List, [], ◌∷◌, length, set, length-set, Option, Some, None, Ok, Err}
use Rattle.plant_model.specs.Plant.{PlantDefinition}
use Rattle.step_core.specs.Job.{JobDefinition}
use Rattle.plant_core.specs.Events.{AreHandsAfter}
use Rattle.plant_core.specs.Hands.{AreHandsFor, HandFields, with_jobs}
use Rattle.plant_core.specs.View.{View}
use Rattle.plant_core.specs.declared.events.Happened.{Happened}
use Rattle.plant_core.specs.declared.events.Happened.TheVariants.{Fire, FireChoice, Flush, Ask, Put, Empty, Save, Trim, Begin, Back, Idle}

pub jobs-long : (jobs : List JobDefinition) (held : List (Option JobDefinition)) → length (with_jobs jobs held) ≡ length held
jobs-long [] held = refl
jobs-long (job ∷ jobs) held = jobs-long jobs (set held job.atom (Some job)) ∙ length-set held job.atom (Some job)

pub as-many : (plant : PlantDefinition) (v : View) (n : ℕ) (hands after : HandFields) (h : Happened) → AreHandsFor n hands → AreHandsAfter plant v hands h after → AreHandsFor n after
as-many plant v n hands after (Fire pick values answer) there is = subst (AreHandsFor n) (sym is) there
as-many plant v n hands after (FireChoice choice values answer) there is = subst (AreHandsFor n) (sym is) there
as-many plant v n hands after (Flush answer) there is = subst (AreHandsFor n) (sym is) there
as-many plant v n hands after (Ask atom (Ok saved)) there is = subst (AreHandsFor n) (sym is) (record { saved = length-set hands.saved saved.atom (Some saved) ∙ there.saved; jobs = there.jobs })
as-many plant v n hands after (Ask atom (Err refused)) there is = subst (AreHandsFor n) (sym is) there
as-many plant v n hands after (Put saved (Ok count)) there is = subst (AreHandsFor n) (sym is) (record { saved = length-set hands.saved saved.atom None ∙ there.saved; jobs = there.jobs })
as-many plant v n hands after (Put saved (Err refused)) there is = subst (AreHandsFor n) (sym is) there
as-many plant v n hands after (Empty atom) there is = subst (AreHandsFor n) (sym is) there
as-many plant v n hands after (Save answer) there is = subst (AreHandsFor n) (sym is) there
as-many plant v n hands after (Trim answer) there is = subst (AreHandsFor n) (sym is) there
as-many plant v n hands after (Begin pick values (Ok fired)) there is = subst (AreHandsFor n) (sym is.2) (record { saved = there.saved; jobs = jobs-long is.0 hands.jobs ∙ there.jobs })
as-many plant v n hands after (Begin pick values (Err refused)) there is = subst (AreHandsFor n) (sym is) there
as-many plant v n hands after (Back returned answer) there is = subst (AreHandsFor n) (sym is) (record { saved = there.saved; jobs = length-set hands.jobs returned.atom None ∙ there.jobs })
as-many plant v n hands after (Idle atom) there is = subst (AreHandsFor n) (sym is) there
