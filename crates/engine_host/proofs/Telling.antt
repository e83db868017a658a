-- What a watch is told.
use Rattle.std.proofs.Common.{◌≡◌, ◌⊎◌, ◌+◌, Bool, true, false, List, [], ◌∷◌, ◌++◌, inl, inr, Option, Some, Result, Err, refl, ap, sym, ◌∙◌, subst, arith}
use Rattle.std.proofs.lemmas.Bool.Decides.{nat_tests}
use mathlib.Core.List.{IsPrefix}
use Rattle.front_word.specs.declared.front.TheConstants.{MOST_FIRED}
use Rattle.plant_model.specs.Plant.{PlantDefinition}
use Rattle.plant_core.specs.View.{View, fired_number}
use Rattle.plant_core.specs.declared.events.FiredAs.{FiredAs}
use Rattle.plant_core.specs.declared.events.Happened.{Happened}
use Rattle.plant_core.specs.declared.refused.Refused.{Refused}
use Rattle.plant_core.specs.declared.refused.Refused.TheVariants.{Spent}
use Rattle.engine_host.specs.Held.{Held, IsMade}
use Rattle.engine_host.specs.History.{IsHistory, entry}
use Rattle.engine_host.specs.Told.{HasMade, IsUsedUp}
use Rattle.engine_host.specs.Views.{front_in, is_used_up}
use Rattle.engine_host.specs.declared.entry.Entry.{Entry}
use Rattle.engine_host.proofs.Histories.{history-last}

-- an event that is made behind one telling and before another
pub made : (plant : PlantDefinition) (opening : View) (before first after : List Entry) (old new : Held) (happened : Happened)
    → IsPrefix before first → first ≡ old.history → IsMade plant old happened new → after ≡ new.history → IsHistory plant opening after new.view → HasMade plant opening before happened after
made plant opening before first after old new happened begins told it again legal =
    (first, front_in new.view, begins, again ∙ (it.history ∙ ap (λ es. es ++ entry happened (front_in new.view) ∷ []) (sym told)), (new.view, legal))

used_up : (plant : PlantDefinition) (opening : View) (before after : List Entry) (v : View) (answer : Result FiredAs Refused)
    → IsPrefix before after → answer ≡ Err Spent → is_used_up opening v ≡ true → IsHistory plant opening after v → IsUsedUp plant opening before answer after
used_up plant opening before after v answer begins is full legal = record {
  answer_is = is;
  grows = begins;
  legal = (v, legal);
  full =
      let e : fired_number v ≡ fired_number opening + MOST_FIRED = grind (arith, nat_tests) in
      ap (λ f. f.fired) (history-last plant opening v after legal) ∙ e;
}

-- a fire or a begin between two tellings
pub made_or_used_up : (plant : PlantDefinition) (opening : View) (before first after : List Entry) (old new : Held) (happened : Happened) (answer : Result FiredAs Refused) (b : Bool) → is_used_up opening old.view ≡ b
    → IsPrefix before first → first ≡ old.history
    → (is_used_up opening old.view ≡ false → IsMade plant old happened new) → (is_used_up opening old.view ≡ true → answer ≡ Err Spent) → (is_used_up opening old.view ≡ true → new ≡ old)
    → after ≡ new.history → IsHistory plant opening after new.view → HasMade plant opening before happened after ⊎ IsUsedUp plant opening before answer after
made_or_used_up plant opening before first after old new happened answer false is begins told making spent untouched again legal =
    inl (made plant opening before first after old new happened begins told (making is) again legal)
made_or_used_up plant opening before first after old new happened answer true is begins told making spent untouched again legal =
    let same : new ≡ old = untouched is in
    let whole : after ≡ first = again ∙ (ap (λ (h : Held). h.history) same ∙ sym told) in
    let here : IsHistory plant opening after old.view = subst (λ (h : Held). IsHistory plant opening after h.view) same legal in
    inr (used_up plant opening before after old.view answer (subst (IsPrefix before) (sym whole) begins) (spent is) is here)

-- the same of a fire of a choice
pub made_that_or_used_up : (plant : PlantDefinition) (opening : View) (before first after : List Entry) (old new : Held) (happened : Happened) (answer : Option (Result FiredAs Refused)) (b : Bool) → is_used_up opening old.view ≡ b
    → IsPrefix before first → first ≡ old.history
    → (is_used_up opening old.view ≡ false → IsMade plant old happened new) → (is_used_up opening old.view ≡ true → answer ≡ Some (Err Spent)) → (is_used_up opening old.view ≡ true → new ≡ old)
    → after ≡ new.history → IsHistory plant opening after new.view
    → HasMade plant opening before happened after ⊎ ((refusal : Result FiredAs Refused) × (answer ≡ Some refusal) × IsUsedUp plant opening before refusal after)
made_that_or_used_up plant opening before first after old new happened answer false is begins told making spent untouched again legal =
    inl (made plant opening before first after old new happened begins told (making is) again legal)
made_that_or_used_up plant opening before first after old new happened answer true is begins told making spent untouched again legal =
    let same : new ≡ old = untouched is in
    let whole : after ≡ first = again ∙ (ap (λ (h : Held). h.history) same ∙ sym told) in
    let here : IsHistory plant opening after old.view = subst (λ (h : Held). IsHistory plant opening after h.view) same legal in
    inr (Err Spent, spent is, used_up plant opening before after old.view (Err Spent) (subst (IsPrefix before) (sym whole) begins) refl is here)
