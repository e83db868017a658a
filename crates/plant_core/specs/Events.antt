-- What a durable plant does at each event: which answer it gives, and what it shows then.
use Rattle.std.specs.Prelude.{◌≡◌, ◌≢◌, ℕ, ℤ, ◌+◌, ◌-◌, ◌%◌, ◌≤◌, ◌<◌, ◌==◌, Bool, true, false, not, if◌then◌else◌, List, [], ◌∷◌, ◌++◌, Option, None, Some, Result, Ok, Err, ◌↔◌, Contains, is_some, length, take, drop, flat_map, slice_get, slice_index_or, slice_set}
use Rattle.std.specs.List.{list_any}
use Rattle.std.specs.Option.{option_map_or}
use Rattle.record_codec.specs.Saved.{SavedFields}
use Rattle.record_codec.specs.declared.layout.TheConstants.{LAST_NUMBER}
use Rattle.record_replay.specs.Records.{count_of}
use Rattle.petri_atom.specs.Local.{has}
use Rattle.plant_model.specs.Choice.{ChoiceDefinition}
use Rattle.plant_model.specs.Chosen.{choice_of, firing_of}
use Rattle.plant_model.specs.Firing.{FiringDefinition, firing_by, has_its_inputs}
use Rattle.plant_model.specs.Plant.{PlantDefinition}
use Rattle.plant_model.specs.Runs.{fold}
use Rattle.step_core.specs.Job.{JobDefinition}
use Rattle.step_core.specs.Jobs.{AreJobsOf}
use Rattle.trimmer.specs.Covered.{saved_count}
use Rattle.plant_core.specs.Hands.{HandFields, job_at, with_jobs}
use Rattle.plant_core.specs.Snapshots.{copy_among, held_at, with_held, without}
use Rattle.plant_core.specs.View.{View, behind_state, behind_states, fired_number, may_go, parts_in, sure_in, with_all_acked, with_all_stored, with_asked, with_back, with_begun, with_cut, with_fired, with_stored}
use Rattle.plant_core.specs.declared.events.Event.{Event}
use Rattle.plant_core.specs.declared.events.Event.TheVariants as asked
use Rattle.plant_core.specs.declared.events.FiredAs.{FiredAs}
use Rattle.plant_core.specs.declared.events.Happened.{Happened}
use Rattle.plant_core.specs.declared.events.Happened.TheVariants.{Fire, FireChoice, Flush, Ask, Put, Empty, Save, Trim, Begin, Back, Idle}
use Rattle.plant_core.specs.declared.events.Returned.{Returned}
use Rattle.plant_core.specs.declared.events.SavedTo.{SavedTo}
use Rattle.plant_core.specs.declared.limits.TheConstants.{MOST_TAIL}
use Rattle.plant_core.specs.declared.refused.Refused.{Refused}
use Rattle.plant_core.specs.declared.refused.Refused.TheVariants.{Stuck, Busy, TailFull, RingFull, Spent, Away, Ahead, Stranger, NothingNew, Disk, Broken, Values}

-- the refusal, if its cause is there
abbrev pub refused_where : Bool → Refused → Option Refused
refused_where is_so refused = if is_so then Some refused else None

-- the first of some refusals
abbrev pub first_refusal : List (Option Refused) → Option Refused
first_refusal [] = None
first_refusal (None ∷ rest) = first_refusal rest
first_refusal (Some refused ∷ rest) = Some refused

-- some atom is away
abbrev pub is_any_away : View → Bool
is_any_away v = list_any is_some v.away

-- no choice is sure; if no atom is away no interaction is possible then
abbrev pub has_none : PlantDefinition → View → Bool
has_none plant v = length (sure_in plant v) == 0

-- why a fire is refused whatever its pick and its values, in the order in which this is asked
abbrev pub fire_refusal : PlantDefinition → View → Option Refused
fire_refusal plant v = first_refusal (
    refused_where v.broken Broken ∷
    refused_where (fired_number v == LAST_NUMBER) Spent ∷
    refused_where (length v.tail == MOST_TAIL) TailFull ∷
    refused_where (fired_number v + 1 - v.base == v.ring) RingFull ∷
    refused_where (has_none plant v) (if is_any_away v then Busy else Stuck) ∷
    [])

-- the choice at the place of the pick, modulo the number of choices, does not take these values
abbrev pub takes_others : PlantDefinition → View → ℕ → List ℤ → Bool
takes_others plant v pick values =
    option_map_or (λ c. not (has_its_inputs plant (firing_by c values))) (slice_get (sure_in plant v) (pick % length (sure_in plant v))) false

-- why a fire by a pick with these values is refused: the values come last, once it is known which choice the pick means
abbrev pub firing_refusal : PlantDefinition → View → ℕ → List ℤ → Option Refused
firing_refusal plant v pick values = first_refusal (
    fire_refusal plant v ∷
    refused_where (takes_others plant v pick values) Values ∷
    [])

-- A fire by a pick: where it is refused nothing changes. Else it fires the choice at the place of the pick, modulo the number of choices,
-- with the values, and answers it with its number. The choices are the sure ones: all of the present state if no atom is away.
abbrev pub IsFire : PlantDefinition → View → ℕ → List ℤ → Result FiredAs Refused → View → Type 0
IsFire plant v pick values (Err refused) w = (firing_refusal plant v pick values ≡ Some refused) × (w ≡ v)
IsFire plant v pick values (Ok fired) w =
    (firing_refusal plant v pick values ≡ None) × (fired.number ≡ fired_number v + 1)
    × (slice_get (sure_in plant v) (pick % length (sure_in plant v)) ≡ Some (choice_of fired.choice))
    × (w ≡ with_fired plant (firing_of fired.choice values) v)

-- A fire of a choice: it is among the choices, and this is a fire by its place. Where it is not there, there is no answer, and nothing changes.
abbrev pub IsFireOf : PlantDefinition → View → ChoiceDefinition → List ℤ → Option (Result FiredAs Refused) → View → Type 0
IsFireOf plant v c values None w = (Contains (sure_in plant v) c → ⊥) × (w ≡ v)
IsFireOf plant v c values (Some answer) w = (place : ℕ) × (slice_get (sure_in plant v) place ≡ Some c) × IsFire plant v place values answer w

-- The same as of a pick, if the participants go away, each with its job.
abbrev pub IsBegin : PlantDefinition → View → ℕ → List ℤ → Result FiredAs Refused → View → Type 0
IsBegin plant v pick values (Err refused) w = (firing_refusal plant v pick values ≡ Some refused) × (w ≡ v)
IsBegin plant v pick values (Ok fired) w =
    (firing_refusal plant v pick values ≡ None) × (fired.number ≡ fired_number v + 1)
    × (slice_get (sure_in plant v) (pick % length (sure_in plant v)) ≡ Some (choice_of fired.choice))
    × (w ≡ with_begun plant (firing_of fired.choice values) v)

-- A job that was done is handed in: a plant whose device has failed refuses it, and so does one that has not kept this very job. Else its atom is
-- present again.
abbrev pub IsBack : View → JobDefinition → Result (Unit {0}) Refused → View → Type 0
IsBack v job (Ok done) w = (v.broken ≢ true) × (slice_index_or v.away job.atom None ≡ Some job) × (w ≡ with_back job v)
IsBack v job (Err Broken) w = (v.broken ≡ true) × (w ≡ v)
IsBack v job (Err Stranger) w = (v.broken ≢ true) × (slice_index_or v.away job.atom None ≢ Some job) × (w ≡ v)
IsBack v job (Err other) w = ⊥

-- what was handed in is this job
pub record IsReturned (plant : PlantDefinition) (r : Returned) (job : JobDefinition) : Type 0 where
  pub own : (r.own ≡ true) ↔ (slice_get plant.atoms r.atom ≡ Some job.definition)
  pub atom : job.atom ≡ r.atom
  pub count : job.count ≡ r.count
  pub transition : job.transition ≡ r.transition
  pub delivered : job.delivered ≡ r.delivered
  pub before : job.state ≡ r.before

-- A flush: a plant whose device has failed refuses it. Else it acknowledges all that was fired, and answers the number of the last; if there is
-- something to acknowledge the device may fail, and then nothing is acknowledged, and the plant is broken.
abbrev pub IsFlush : View → Result ℕ Refused → View → Type 0
IsFlush v (Ok number) w = (v.broken ≢ true) × (number ≡ fired_number v) × (w ≡ with_all_acked v)
IsFlush v (Err Broken) w = (v.broken ≡ true) × (w ≡ v)
IsFlush v (Err Disk) w = (v.broken ≢ true) × (v.tail ≢ []) × (w ≡ record v { broken = true })
IsFlush v (Err other) w = ⊥

-- the present state of an atom as it is saved: with how often the atom has taken part, and the fired number
abbrev pub copy_in : View → ℕ → Option SavedFields
copy_in v = copy_among v.counts (fired_number v) v.present

-- A state is asked for: a plant whose device has failed refuses it, and so does one that has not the atom, and one whose atom has not taken part since
-- its newest state was saved, and one of which the atom is away. Else it answers the present state of the atom, and keeps a copy, in place of one that it kept before.
abbrev pub IsAsk : View → ℕ → Result SavedFields Refused → View → Type 0
IsAsk v atom (Ok saved) w =
    (v.broken ≢ true) × (slice_index_or v.away atom None ≡ None) × (count_of v.counts atom ≢ saved_count v.saved atom) × (copy_in v atom ≡ Some saved) × (w ≡ with_asked saved v)
IsAsk v atom (Err Broken) w = (v.broken ≡ true) × (w ≡ v)
IsAsk v atom (Err Stranger) w = (v.broken ≢ true) × (length v.present ≤ atom) × (w ≡ v)
IsAsk v atom (Err (Away n)) w = (v.broken ≢ true) × (n ≡ atom) × (slice_index_or v.away atom None ≢ None) × (w ≡ v)
IsAsk v atom (Err NothingNew) w =
    (v.broken ≢ true) × (atom < length v.present) × (slice_index_or v.away atom None ≡ None) × (count_of v.counts atom ≡ saved_count v.saved atom) × (w ≡ v)
IsAsk v atom (Err other) w = ⊥

-- The plant takes this state to be stored: it keeps a copy of it, and all firings that the state includes are acknowledged.
pub record IsTaken (v : View) (saved : SavedFields) : Type 0 where
  pub whole : v.broken ≢ true
  pub kept : held_at v.kept saved.atom ≡ Some saved
  pub behind : saved.count ≤ count_of v.acked_counts saved.atom

-- A state is handed in to be stored: a plant whose device has failed refuses it, and so does one that keeps no such copy, and one if it includes
-- firings of its atom that are not acknowledged. Else it is the newest of its atom and its copy is given up, and its count is answered;
-- or the device fails, and then the plant is broken.
abbrev pub IsPut : View → SavedFields → Result ℕ Refused → View → Type 0
IsPut v saved (Ok count) w = IsTaken v saved × (count ≡ saved.count) × (w ≡ with_stored saved v)
IsPut v saved (Err Broken) w = (v.broken ≡ true) × (w ≡ v)
IsPut v saved (Err Stranger) w = (v.broken ≢ true) × (held_at v.kept saved.atom ≢ Some saved) × (w ≡ v)
IsPut v saved (Err (Ahead atom)) w =
    (v.broken ≢ true) × (held_at v.kept saved.atom ≡ Some saved) × (count_of v.acked_counts saved.atom < saved.count) × (atom ≡ saved.atom) × (w ≡ v)
IsPut v saved (Err Disk) w = IsTaken v saved × (w ≡ record v { broken = true })
IsPut v saved (Err other) w = ⊥

-- A save: a plant whose device has failed refuses it, and so does one of which no atom is behind. Else of each atom that is behind the acknowledged state
-- is the newest, and a copy of its state that was kept is given up; the acknowledged number is answered, and the set of these atoms; or the device fails,
-- and then the plant is broken.
abbrev pub IsSave : View → Result SavedTo Refused → View → Type 0
IsSave v (Ok to) w =
    (v.broken ≢ true) × (behind_states v ≢ []) × (to.number ≡ v.number) × ((atom : ℕ) → has to.atoms atom ≡ is_some (behind_state v atom)) × (w ≡ with_all_stored (behind_states v) v)
IsSave v (Err Broken) w = (v.broken ≡ true) × (w ≡ v)
IsSave v (Err NothingNew) w = (v.broken ≢ true) × (behind_states v ≡ []) × (w ≡ v)
IsSave v (Err Disk) w = (v.broken ≢ true) × (behind_states v ≢ []) × (w ≡ record v { broken = true })
IsSave v (Err other) w = ⊥

-- A trim: a plant whose device has failed refuses it, and so does one of whose records none may go. Else the longest front of the acknowledged records
-- that are covered is dropped, and the number of the first that is kept is answered; or the device fails, and then the plant is broken.
abbrev pub IsTrim : View → Result ℕ Refused → View → Type 0
IsTrim v (Ok base) w = (v.broken ≢ true) × (may_go v ≢ 0) × (base ≡ v.base + may_go v) × (w ≡ with_cut (may_go v) v)
IsTrim v (Err Broken) w = (v.broken ≡ true) × (w ≡ v)
IsTrim v (Err NothingNew) w = (v.broken ≢ true) × (may_go v ≡ 0) × (w ≡ v)
IsTrim v (Err Disk) w = (v.broken ≢ true) × (may_go v ≢ 0) × (w ≡ record v { broken = true })
IsTrim v (Err other) w = ⊥

-- the answer is that the device failed in the call
abbrev pub is_disk : {X : Type 0} → Result X Refused → Bool
is_disk (Err Disk) = true
is_disk other = false

-- the answer tells that it was done, or that the device failed in it
abbrev pub is_call : {X : Type 0} → Result X Refused → Bool
is_call (Ok x) = true
is_call (Err Disk) = true
is_call (Err other) = false

-- what happened, and how it changes the view: each kind of event has its own rule, and where the choice is not there, or nothing is at hand, nothing changes
abbrev pub IsEvent : PlantDefinition → View → Happened → View → Type 0
IsEvent plant v (Fire pick values answer) w = IsFire plant v pick values answer w
IsEvent plant v (FireChoice choice values answer) w = IsFireOf plant v (choice_of choice) values answer w
IsEvent plant v (Flush answer) w = IsFlush v answer w
IsEvent plant v (Ask atom answer) w = IsAsk v atom answer w
IsEvent plant v (Put saved answer) w = IsPut v saved answer w
IsEvent plant v (Empty atom) w = w ≡ v
IsEvent plant v (Save answer) w = IsSave v answer w
IsEvent plant v (Trim answer) w = IsTrim v answer w
IsEvent plant v (Begin pick values answer) w = IsBegin plant v pick values answer w
IsEvent plant v (Back returned answer) w = (job : JobDefinition) × IsReturned plant returned job × IsBack v job answer w
IsEvent plant v (Idle atom) w = w ≡ v

-- what it fired: the choice that a fire answers, with the values that were handed in
abbrev pub fired_by : Happened → List FiringDefinition
fired_by (Fire pick values (Ok fired)) = firing_of fired.choice values ∷ []
fired_by (FireChoice choice values (Some (Ok fired))) = firing_of fired.choice values ∷ []
fired_by (Begin pick values (Ok fired)) = firing_of fired.choice values ∷ []
fired_by other = []

-- what some events fired, in order
abbrev pub all_fired : List Happened → List FiringDefinition
all_fired hs = flat_map fired_by hs

-- what was asked of the plant
abbrev pub asked_in : Happened → Event
asked_in (Fire pick values answer) = asked.Fire pick values
asked_in (FireChoice choice values answer) = asked.FireChoice choice values
asked_in (Flush answer) = asked.Flush
asked_in (Ask atom answer) = asked.Ask atom
asked_in (Put saved answer) = asked.Put saved.atom
asked_in (Empty atom) = asked.Put atom
asked_in (Save answer) = asked.Save
asked_in (Trim answer) = asked.Trim
asked_in (Begin pick values answer) = asked.Begin pick values
asked_in (Back returned answer) = asked.Back returned.atom
asked_in (Idle atom) = asked.Back atom

-- it makes no call of the device
abbrev pub is_in_memory : Event → Bool
is_in_memory (asked.Fire pick values) = true
is_in_memory (asked.FireChoice choice values) = true
is_in_memory asked.Flush = false
is_in_memory (asked.Ask atom) = true
is_in_memory (asked.Put atom) = false
is_in_memory asked.Save = false
is_in_memory asked.Trim = false
is_in_memory (asked.Begin pick values) = true
is_in_memory (asked.Back atom) = true

-- the device failed in it
abbrev pub has_failed : Happened → Bool
has_failed (Fire pick values answer) = is_disk answer
has_failed (FireChoice choice values None) = false
has_failed (FireChoice choice values (Some answer)) = is_disk answer
has_failed (Flush answer) = is_disk answer
has_failed (Ask atom answer) = is_disk answer
has_failed (Put saved answer) = is_disk answer
has_failed (Empty atom) = false
has_failed (Save answer) = is_disk answer
has_failed (Trim answer) = is_disk answer
has_failed (Begin pick values answer) = is_disk answer
has_failed (Back returned answer) = is_disk answer
has_failed (Idle atom) = false

-- calls of the device may have been made in it: it is one that makes such calls, and it was not refused before the first
abbrev pub may_call : Happened → Bool
may_call (Flush answer) = is_call answer
may_call (Put saved answer) = is_call answer
may_call (Save answer) = is_call answer
may_call (Trim answer) = is_call answer
may_call other = false

-- Events one after another: each changes the view that those before it left.
abbrev pub IsEventRun : PlantDefinition → View → List Happened → View → Type 0
IsEventRun plant v [] w = w ≡ v
IsEventRun plant v (h ∷ hs) w = (u : View) × IsEvent plant v h u × IsEventRun plant u hs w

-- What is in the hands of the atoms after an event: a state that was asked for is in its atom's hand, and one that was stored is no more; each job of a
-- choice that begins is in its atom's hand, and one that was handed in is no more, whatever is answered.
abbrev pub AreHandsAfter : PlantDefinition → View → HandFields → Happened → HandFields → Type 0
AreHandsAfter plant v hands (Ask atom (Ok saved)) after = after ≡ record hands { saved = with_held saved hands.saved }
AreHandsAfter plant v hands (Put saved (Ok count)) after = after ≡ record hands { saved = without saved hands.saved }
AreHandsAfter plant v hands (Begin pick values (Ok fired)) after =
    (jobs : List JobDefinition) × AreJobsOf plant (parts_in v) (firing_of fired.choice values) v.counts fired.choice.moves jobs × (after ≡ record hands { jobs = with_jobs jobs hands.jobs })
AreHandsAfter plant v hands (Back returned answer) after = after ≡ record hands { jobs = slice_set hands.jobs returned.atom None }
AreHandsAfter plant v hands other after = after ≡ hands

-- What is handed in is what is in its atom's hand; if none is handed in, there is none in that hand, or no such hand.
abbrev pub IsHandedIn : PlantDefinition → HandFields → Happened → Type 0
IsHandedIn plant hands (Put saved answer) = held_at hands.saved saved.atom ≡ Some saved
IsHandedIn plant hands (Empty atom) = held_at hands.saved atom ≡ None
IsHandedIn plant hands (Back returned answer) = (job : JobDefinition) × (job_at hands.jobs returned.atom ≡ Some job) × IsReturned plant returned job
IsHandedIn plant hands (Idle atom) = job_at hands.jobs atom ≡ None
IsHandedIn plant hands other = Unit {0}

-- Events one after another, each with what is handed in and with what is in hands after it.
abbrev pub IsHandedRun : PlantDefinition → View → HandFields → List Happened → View → HandFields → Type 0
IsHandedRun plant v hands [] w after = (w ≡ v) × (after ≡ hands)
IsHandedRun plant v hands (h ∷ hs) w after =
    IsHandedIn plant hands h × ((u : View) × IsEvent plant v h u × ((next : HandFields) × AreHandsAfter plant v hands h next × IsHandedRun plant u next hs w after))

-- What was acknowledged between two views, if these firings happened: a front of the tail and of these firings, as long as the
-- acknowledged number has grown. The rest is the tail.
pub record IsAckedOf (plant : PlantDefinition) (v : View) (fired : List FiringDefinition) (w : View) : Type 0 where
  pub grows : v.number ≤ w.number
  pub within : w.number - v.number ≤ length (v.tail ++ fired)
  pub acked : w.acked ≡ fold plant v.acked (take (w.number - v.number) (v.tail ++ fired))
  pub tail : w.tail ≡ drop (w.number - v.number) (v.tail ++ fired)
