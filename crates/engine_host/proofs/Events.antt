-- What no event lowers.
use Rattle.std.proofs.Common.{◌≡◌, ℕ, ℤ, ◌+◌, ◌≤◌, List, [], ◌∷◌, length, true, Option, None, Some, Result, Ok, Err, is_ok, if◌then◌else◌, refl, ap, sym, ◌∙◌, subst, arith, length-append, le_refl}
use Rattle.front_word.specs.Fronts.{IsNotBelow}
use Rattle.record_codec.specs.Saved.{SavedFields}
use Rattle.plant_model.specs.Chosen.{firing_of}
use Rattle.plant_model.specs.Firing.{FiringDefinition}
use Rattle.plant_model.specs.declared.choice.Choice.{Choice}
use Rattle.plant_model.specs.Plant.{PlantDefinition}
use Rattle.step_core.specs.Job.{JobDefinition}
use Rattle.plant_core.specs.Events.{IsEvent, IsFire, IsFlush, IsAsk, IsPut, IsSave, IsTrim, IsBegin, IsBack, fired_by}
use Rattle.plant_core.specs.View.{View, behind_states, fired_number, may_go, with_all_acked, with_all_stored, with_asked, with_back, with_begun, with_cut, with_fired, with_stored}
use Rattle.plant_core.specs.declared.events.FiredAs.{FiredAs}
use Rattle.plant_core.specs.declared.events.Happened.{Happened}
use Rattle.plant_core.specs.declared.events.Happened.TheVariants.{Fire, FireChoice, Flush, Ask, Put, Empty, Save, Trim, Begin, Back, Idle}
use Rattle.plant_core.specs.declared.events.SavedTo.{SavedTo}
use Rattle.plant_core.specs.declared.refused.Refused.{Refused}
use Rattle.plant_core.specs.declared.refused.Refused.TheVariants.{Away, Ahead, Stranger, NothingNew, Disk, Broken}
use Rattle.plant_core.proofs.EventRuns.{all-stored-is}
use Rattle.engine_host.specs.Told.{fired_in}
use Rattle.engine_host.specs.Views.{front_in}

same : (v w : View) → w ≡ v → IsNotBelow (front_in v) (front_in w)
same v w e = subst (λ (x : View). IsNotBelow (front_in v) (front_in x)) (sym e) (record { fired = le_refl _; acked = le_refl _; base = le_refl _ })

to : (v u w : View) → w ≡ u → IsNotBelow (front_in v) (front_in u) → IsNotBelow (front_in v) (front_in w)
to v u w e r = subst (λ (x : View). IsNotBelow (front_in v) (front_in x)) (sym e) r

fires : (plant : PlantDefinition) (c : FiringDefinition) (v : View) → IsNotBelow (front_in v) (front_in (with_fired plant c v))
fires plant c v = let l = length-append v.tail (c ∷ []) in record { fired = omega arith; acked = le_refl _; base = le_refl _ }

flushes : (v : View) → IsNotBelow (front_in v) (front_in (with_all_acked v))
flushes v = record { fired = omega arith; acked = omega arith; base = le_refl _ }

trims : (v : View) → IsNotBelow (front_in v) (front_in (with_cut (may_go v) v))
trims v = record { fired = le_refl _; acked = le_refl _; base = omega arith }

of_fire : (plant : PlantDefinition) (v : View) (pick : ℕ) (values : List ℤ) (r : Result FiredAs Refused) (w : View) → IsFire plant v pick values r w → IsNotBelow (front_in v) (front_in w)
of_fire plant v pick values (Ok fired) w e = to v (with_fired plant (firing_of fired.choice values) v) w e.3 (fires plant (firing_of fired.choice values) v)
of_fire plant v pick values (Err refused) w e = same v w e.1

of_flush : (v : View) (r : Result ℕ Refused) (w : View) → IsFlush v r w → IsNotBelow (front_in v) (front_in w)
of_flush v (Ok number) w e = to v (with_all_acked v) w e.2 (flushes v)
of_flush v (Err Broken) w e = same v w e.1
of_flush v (Err Disk) w e = to v (record v { broken = true }) w e.2 (same v v refl)
of_flush v (Err other) w e = absurd e

of_ask : (v : View) (atom : ℕ) (r : Result SavedFields Refused) (w : View) → IsAsk v atom r w → IsNotBelow (front_in v) (front_in w)
of_ask v atom (Ok saved) w e = to v (with_asked saved v) w e.4 (same v v refl)
of_ask v atom (Err Broken) w e = same v w e.1
of_ask v atom (Err Stranger) w e = same v w e.2
of_ask v atom (Err (Away n)) w e = same v w e.3
of_ask v atom (Err NothingNew) w e = same v w e.4
of_ask v atom (Err other) w e = absurd e

of_put : (v : View) (saved : SavedFields) (r : Result ℕ Refused) (w : View) → IsPut v saved r w → IsNotBelow (front_in v) (front_in w)
of_put v saved (Ok count) w e = to v (with_stored saved v) w e.2 (same v v refl)
of_put v saved (Err Broken) w e = same v w e.1
of_put v saved (Err Stranger) w e = same v w e.2
of_put v saved (Err (Ahead atom)) w e = same v w e.4
of_put v saved (Err Disk) w e = to v (record v { broken = true }) w e.1 (same v v refl)
of_put v saved (Err other) w e = absurd e

-- what a save changes
abbrev saves : View → View
saves v = record v { saved = (with_all_stored (behind_states v) v).saved; kept = (with_all_stored (behind_states v) v).kept }

of_save : (v : View) (r : Result SavedTo Refused) (w : View) → IsSave v r w → IsNotBelow (front_in v) (front_in w)
of_save v (Ok done) w e = to v (saves v) w (e.4 ∙ all-stored-is (behind_states v) v) (same v v refl)
of_save v (Err Broken) w e = same v w e.1
of_save v (Err NothingNew) w e = same v w e.2
of_save v (Err Disk) w e = to v (record v { broken = true }) w e.2 (same v v refl)
of_save v (Err other) w e = absurd e

of_trim : (v : View) (r : Result ℕ Refused) (w : View) → IsTrim v r w → IsNotBelow (front_in v) (front_in w)
of_trim v (Ok base) w e = to v (with_cut (may_go v) v) w e.3 (trims v)
of_trim v (Err Broken) w e = same v w e.1
of_trim v (Err NothingNew) w e = same v w e.2
of_trim v (Err Disk) w e = to v (record v { broken = true }) w e.2 (same v v refl)
of_trim v (Err other) w e = absurd e

begins : (plant : PlantDefinition) (c : FiringDefinition) (v : View) → IsNotBelow (front_in v) (front_in (with_begun plant c v))
begins plant c v = let l = length-append v.tail (c ∷ []) in record { fired = omega arith; acked = le_refl _; base = le_refl _ }

of_begin : (plant : PlantDefinition) (v : View) (pick : ℕ) (values : List ℤ) (r : Result FiredAs Refused) (w : View) → IsBegin plant v pick values r w → IsNotBelow (front_in v) (front_in w)
of_begin plant v pick values (Ok fired) w e = to v (with_begun plant (firing_of fired.choice values) v) w e.3 (begins plant (firing_of fired.choice values) v)
of_begin plant v pick values (Err refused) w e = same v w e.1

of_back : (v : View) (job : JobDefinition) (r : Result (Unit {0}) Refused) (w : View) → IsBack v job r w → IsNotBelow (front_in v) (front_in w)
of_back v job (Ok done) w e = to v (with_back job v) w e.2 (same v v refl)
of_back v job (Err Broken) w e = same v w e.1
of_back v job (Err Stranger) w e = same v w e.2
of_back v job (Err other) w e = absurd e

-- no event lowers a part of the front
pub event_rises : (plant : PlantDefinition) (v : View) (h : Happened) (w : View) → IsEvent plant v h w → IsNotBelow (front_in v) (front_in w)
event_rises plant v (Fire pick values r) w e = of_fire plant v pick values r w e
event_rises plant v (FireChoice choice values None) w e = same v w e.1
event_rises plant v (FireChoice choice values (Some r)) w e = of_fire plant v e.0 values r w e.2
event_rises plant v (Flush r) w e = of_flush v r w e
event_rises plant v (Ask atom r) w e = of_ask v atom r w e
event_rises plant v (Put saved r) w e = of_put v saved r w e
event_rises plant v (Empty atom) w e = same v w e
event_rises plant v (Save r) w e = of_save v r w e
event_rises plant v (Trim r) w e = of_trim v r w e
event_rises plant v (Begin pick values r) w e = of_begin plant v pick values r w e
event_rises plant v (Back returned r) w e = of_back v e.0 r w e.2
event_rises plant v (Idle atom) w e = same v w e

fire_counts : (plant : PlantDefinition) (v : View) (pick : ℕ) (values : List ℤ) (r : Result FiredAs Refused) (w : View) → IsFire plant v pick values r w → fired_number w ≡ fired_number v + length (fired_by (Fire pick values r))
fire_counts plant v pick values (Ok fired) w e = ap fired_number e.3 ∙ omega (arith, length-append v.tail (firing_of fired.choice values ∷ []))
fire_counts plant v pick values (Err refused) w e = ap fired_number e.1 ∙ omega arith

none : (v u w : View) → w ≡ u → fired_number u ≡ fired_number v → fired_number w ≡ fired_number v + 0
none v u w e same = ap fired_number e ∙ omega (arith, same)

flush_counts : (v : View) (r : Result ℕ Refused) (w : View) → IsFlush v r w → fired_number w ≡ fired_number v + 0
flush_counts v (Ok number) w e = none v (with_all_acked v) w e.2 (omega arith)
flush_counts v (Err Broken) w e = none v v w e.1 refl
flush_counts v (Err Disk) w e = none v (record v { broken = true }) w e.2 refl
flush_counts v (Err other) w e = absurd e

ask_counts : (v : View) (atom : ℕ) (r : Result SavedFields Refused) (w : View) → IsAsk v atom r w → fired_number w ≡ fired_number v + 0
ask_counts v atom (Ok saved) w e = none v (with_asked saved v) w e.4 refl
ask_counts v atom (Err Broken) w e = none v v w e.1 refl
ask_counts v atom (Err Stranger) w e = none v v w e.2 refl
ask_counts v atom (Err (Away n)) w e = none v v w e.3 refl
ask_counts v atom (Err NothingNew) w e = none v v w e.4 refl
ask_counts v atom (Err other) w e = absurd e

put_counts : (v : View) (saved : SavedFields) (r : Result ℕ Refused) (w : View) → IsPut v saved r w → fired_number w ≡ fired_number v + 0
put_counts v saved (Ok count) w e = none v (with_stored saved v) w e.2 refl
put_counts v saved (Err Broken) w e = none v v w e.1 refl
put_counts v saved (Err Stranger) w e = none v v w e.2 refl
put_counts v saved (Err (Ahead atom)) w e = none v v w e.4 refl
put_counts v saved (Err Disk) w e = none v (record v { broken = true }) w e.1 refl
put_counts v saved (Err other) w e = absurd e

save_counts : (v : View) (r : Result SavedTo Refused) (w : View) → IsSave v r w → fired_number w ≡ fired_number v + 0
save_counts v (Ok done) w e = none v (saves v) w (e.4 ∙ all-stored-is (behind_states v) v) refl
save_counts v (Err Broken) w e = none v v w e.1 refl
save_counts v (Err NothingNew) w e = none v v w e.2 refl
save_counts v (Err Disk) w e = none v (record v { broken = true }) w e.2 refl
save_counts v (Err other) w e = absurd e

trim_counts : (v : View) (r : Result ℕ Refused) (w : View) → IsTrim v r w → fired_number w ≡ fired_number v + 0
trim_counts v (Ok base) w e = none v (with_cut (may_go v) v) w e.3 refl
trim_counts v (Err Broken) w e = none v v w e.1 refl
trim_counts v (Err NothingNew) w e = none v v w e.2 refl
trim_counts v (Err Disk) w e = none v (record v { broken = true }) w e.2 refl
trim_counts v (Err other) w e = absurd e

begin_counts : (plant : PlantDefinition) (v : View) (pick : ℕ) (values : List ℤ) (r : Result FiredAs Refused) (w : View) → IsBegin plant v pick values r w → fired_number w ≡ fired_number v + length (fired_by (Begin pick values r))
begin_counts plant v pick values (Ok fired) w e = ap fired_number e.3 ∙ omega (arith, length-append v.tail (firing_of fired.choice values ∷ []))
begin_counts plant v pick values (Err refused) w e = ap fired_number e.1 ∙ omega arith

back_counts : (v : View) (job : JobDefinition) (r : Result (Unit {0}) Refused) (w : View) → IsBack v job r w → fired_number w ≡ fired_number v + 0
back_counts v job (Ok done) w e = none v (with_back job v) w e.2 refl
back_counts v job (Err Broken) w e = none v v w e.1 refl
back_counts v job (Err Stranger) w e = none v v w e.2 refl
back_counts v job (Err other) w e = absurd e

-- what an event fires is counted
pub event_counts : (plant : PlantDefinition) (v : View) (h : Happened) (w : View) → IsEvent plant v h w → fired_number w ≡ fired_number v + length (fired_by h)
event_counts plant v (Fire pick values r) w e = fire_counts plant v pick values r w e
event_counts plant v (FireChoice choice values None) w e = none v v w e.1 refl
event_counts plant v (FireChoice choice values (Some (Ok fired))) w e = fire_counts plant v e.0 values (Ok fired) w e.2
event_counts plant v (FireChoice choice values (Some (Err refused))) w e = fire_counts plant v e.0 values (Err refused) w e.2
event_counts plant v (Flush r) w e = flush_counts v r w e
event_counts plant v (Ask atom r) w e = ask_counts v atom r w e
event_counts plant v (Put saved r) w e = put_counts v saved r w e
event_counts plant v (Empty atom) w e = none v v w e refl
event_counts plant v (Save r) w e = save_counts v r w e
event_counts plant v (Trim r) w e = trim_counts v r w e
event_counts plant v (Begin pick values r) w e = begin_counts plant v pick values r w e
event_counts plant v (Back returned r) w e = back_counts v e.0 r w e.2
event_counts plant v (Idle atom) w e = none v v w e refl

-- a fire fires one choice where it is answered so
pub fires_one : (pick : ℕ) (values : List ℤ) (r : Result FiredAs Refused) → (length (fired_by (Fire pick values r)) ≡ (if is_ok r then 1 else 0)) × (length (fired_by (Fire pick values r)) ≤ 1)
fires_one pick values (Ok fired) = (refl, omega arith)
fires_one pick values (Err refused) = (refl, omega arith)

-- so does a fire of a choice
pub fires_that_one : (choice : Choice) (values : List ℤ) (r : Option (Result FiredAs Refused)) → (length (fired_by (FireChoice choice values r)) ≡ fired_in r) × (length (fired_by (FireChoice choice values r)) ≤ 1)
fires_that_one choice values None = (refl, omega arith)
fires_that_one choice values (Some (Ok fired)) = (refl, omega arith)
fires_that_one choice values (Some (Err refused)) = (refl, omega arith)

-- and so does a begin
pub begins_one : (pick : ℕ) (values : List ℤ) (r : Result FiredAs Refused) → (length (fired_by (Begin pick values r)) ≡ (if is_ok r then 1 else 0)) × (length (fired_by (Begin pick values r)) ≤ 1)
begins_one pick values (Ok fired) = (refl, omega arith)
begins_one pick values (Err refused) = (refl, omega arith)
