-- Runs of events: what they fire, and what they acknowledge.
use Rattle.std.proofs.Common.{◌≡◌, ◌+◌, ◌-◌, ◌≤◌, ◌%◌, ℕ, ℤ, refl, sym, ◌∙◌, ap, subst, List, [], ◌∷◌, ◌++◌, length, take, drop, arith, true, Option, None, Some, Ok, Err}
use Rattle.std.specs.Prelude.{slice_get, slice_set}
use Rattle.std.proofs.Math.Seq.{drop-append-add, take-append-add}
use Rattle.std.proofs.lemmas.List.{append-nil, append_assoc, length-append}
use Rattle.petri_atom.specs.Local.{Local}
use Rattle.plant_model.specs.Choice.{ChoiceDefinition}
use Rattle.plant_model.specs.Chosen.{choice_of, firing_of}
use Rattle.plant_model.specs.Firing.{CanFire, FiringDefinition, firing_by}
use Rattle.plant_model.specs.Plant.{PlantDefinition}
use Rattle.plant_model.specs.Runs.{IsRun, fold}
use Rattle.plant_model.specs.Step.{next}
use Rattle.plant_model.proofs.Membership.{entry-in}
use Rattle.step_core.specs.Job.{JobDefinition}
use Rattle.step_core.proofs.SureAllowed.{sure-allowed}
use Rattle.step_executor.specs.Outstanding.{is_out, jobs_after}
use Rattle.plant_core.specs.Events.{IsAckedOf, IsEvent, IsEventRun, all_fired, fired_by, firing_refusal}
use Rattle.record_codec.specs.Saved.{SavedFields}
use Rattle.trimmer.specs.Covered.{MarkFields}
use Rattle.trimmer.specs.declared.saved.SavedAt.{SavedAt}
use Rattle.plant_core.specs.Snapshots.{with_held, with_known, without}
use Rattle.plant_core.specs.View.{View, behind_states, may_go, sure_in, with_all_acked, with_all_stored, with_away, with_fired, with_stored}
use Rattle.plant_core.specs.declared.events.Happened.{Happened}
use Rattle.plant_core.specs.declared.events.Happened.TheVariants.{Fire, FireChoice, Flush, Ask, Put, Empty, Save, Trim, Begin, Back, Idle}
use Rattle.plant_core.specs.declared.refused.Refused.TheVariants.{Away, Ahead, Stranger, NothingNew, Broken, Disk}
use Rattle.plant_core.proofs.Chosen.{fold-more}
use Rattle.plant_core.proofs.Valued.{values-come}

-- states that are stored change what is known of saved states and nothing else
pub all-stored-is : (states : List SavedFields) (v : View) → with_all_stored states v ≡ record v { saved = (with_all_stored states v).saved; kept = (with_all_stored states v).kept }
all-stored-is [] v = refl
all-stored-is (saved ∷ rest) v = all-stored-is rest (with_stored saved v)

module _ (plant : PlantDefinition) where
  -- a choice that is listed as sure is allowed, so where it was not refused it can be fired with its values
  entry-fires : (v : View) (pick : ℕ) (values : List ℤ) (c : ChoiceDefinition) → firing_refusal plant v pick values ≡ None → slice_get (sure_in plant v) (pick % length (sure_in plant v)) ≡ Some c → CanFire plant v.present (firing_by c values)
  entry-fires v pick values c none there = (
    sure-allowed plant v.present (is_out v.away) c (entry-in (sure_in plant v) (pick % length (sure_in plant v)) c there),
    values-come plant v pick values c none there,
  )

  -- An event leaves the view, fires a choice that can be fired with its values, acknowledges all, changes what is known of records and saved states, or breaks the plant: what holds at
  -- each of these holds at it.
  pub event-cases : (v w : View) (h : Happened) (P : List FiringDefinition → View → Type 0) → P [] v → ((f : FiringDefinition) (away : List (Option JobDefinition)) → CanFire plant v.present f → P (f ∷ []) (with_away away (with_fired plant f v))) → P [] (with_all_acked v) → ((base : ℕ) (marks : List MarkFields) (saved : List SavedAt) (kept : List (Option SavedFields)) (away : List (Option JobDefinition)) → P [] (record v { base = base; marks = marks; saved = saved; kept = kept; away = away })) → P [] (record v { broken = true })
      → IsEvent plant v h w → P (fired_by h) w
  event-cases v w (Fire pick values (Err refused)) P stays fires acks notes breaks did = subst (P []) (sym did.1) stays
  event-cases v w (Fire pick values (Ok fired)) P stays fires acks notes breaks did =
      subst (P (firing_of fired.choice values ∷ [])) (sym did.3) (fires (firing_of fired.choice values) v.away (entry-fires v pick values (choice_of fired.choice) did.0 did.2))
  event-cases v w (FireChoice choice values None) P stays fires acks notes breaks did = subst (P []) (sym did.1) stays
  event-cases v w (FireChoice choice values (Some (Err refused))) P stays fires acks notes breaks did = subst (P []) (sym did.2.1) stays
  event-cases v w (FireChoice choice values (Some (Ok fired))) P stays fires acks notes breaks did =
      subst (P (firing_of fired.choice values ∷ [])) (sym did.2.3) (fires (firing_of fired.choice values) v.away (entry-fires v did.0 values (choice_of fired.choice) did.2.0 did.2.2))
  event-cases v w (Flush (Ok number)) P stays fires acks notes breaks did = subst (P []) (sym did.2) acks
  event-cases v w (Flush (Err Broken)) P stays fires acks notes breaks did = subst (P []) (sym did.1) stays
  event-cases v w (Flush (Err Disk)) P stays fires acks notes breaks did = subst (P []) (sym did.2) breaks
  event-cases v w (Flush (Err other)) P stays fires acks notes breaks did = absurd did
  event-cases v w (Ask atom (Ok saved)) P stays fires acks notes breaks did = subst (P []) (sym did.4) (notes v.base v.marks v.saved (with_held saved v.kept) v.away)
  event-cases v w (Ask atom (Err Broken)) P stays fires acks notes breaks did = subst (P []) (sym did.1) stays
  event-cases v w (Ask atom (Err Stranger)) P stays fires acks notes breaks did = subst (P []) (sym did.2) stays
  event-cases v w (Ask atom (Err (Away n))) P stays fires acks notes breaks did = subst (P []) (sym did.3) stays
  event-cases v w (Ask atom (Err NothingNew)) P stays fires acks notes breaks did = subst (P []) (sym did.4) stays
  event-cases v w (Ask atom (Err other)) P stays fires acks notes breaks did = absurd did
  event-cases v w (Put saved (Ok count)) P stays fires acks notes breaks did = subst (P []) (sym did.2) (notes v.base v.marks (with_known saved v.saved) (without saved v.kept) v.away)
  event-cases v w (Put saved (Err Broken)) P stays fires acks notes breaks did = subst (P []) (sym did.1) stays
  event-cases v w (Put saved (Err Stranger)) P stays fires acks notes breaks did = subst (P []) (sym did.2) stays
  event-cases v w (Put saved (Err (Ahead atom))) P stays fires acks notes breaks did = subst (P []) (sym did.4) stays
  event-cases v w (Put saved (Err Disk)) P stays fires acks notes breaks did = subst (P []) (sym did.1) breaks
  event-cases v w (Put saved (Err other)) P stays fires acks notes breaks did = absurd did
  event-cases v w (Empty atom) P stays fires acks notes breaks did = subst (P []) (sym did) stays
  event-cases v w (Save (Ok to)) P stays fires acks notes breaks did =
      let then : View = with_all_stored (behind_states v) v in
      subst (P []) (sym (did.4 ∙ all-stored-is (behind_states v) v)) (notes v.base v.marks then.saved then.kept v.away)
  event-cases v w (Save (Err Broken)) P stays fires acks notes breaks did = subst (P []) (sym did.1) stays
  event-cases v w (Save (Err NothingNew)) P stays fires acks notes breaks did = subst (P []) (sym did.2) stays
  event-cases v w (Save (Err Disk)) P stays fires acks notes breaks did = subst (P []) (sym did.2) breaks
  event-cases v w (Save (Err other)) P stays fires acks notes breaks did = absurd did
  event-cases v w (Trim (Ok base)) P stays fires acks notes breaks did = subst (P []) (sym did.3) (notes (v.base + may_go v) (drop (may_go v) v.marks) v.saved v.kept v.away)
  event-cases v w (Trim (Err Broken)) P stays fires acks notes breaks did = subst (P []) (sym did.1) stays
  event-cases v w (Trim (Err NothingNew)) P stays fires acks notes breaks did = subst (P []) (sym did.2) stays
  event-cases v w (Trim (Err Disk)) P stays fires acks notes breaks did = subst (P []) (sym did.2) breaks
  event-cases v w (Trim (Err other)) P stays fires acks notes breaks did = absurd did
  event-cases v w (Begin pick values (Err refused)) P stays fires acks notes breaks did = subst (P []) (sym did.1) stays
  event-cases v w (Begin pick values (Ok fired)) P stays fires acks notes breaks did =
      subst (P (firing_of fired.choice values ∷ [])) (sym did.3) (fires (firing_of fired.choice values) (jobs_after plant v.present v.counts (firing_of fired.choice values) fired.choice.moves v.away) (entry-fires v pick values (choice_of fired.choice) did.0 did.2))
  event-cases v w (Back returned (Ok done)) P stays fires acks notes breaks did =
      let job : JobDefinition = did.0 in
      subst (P []) (sym did.2.2) (notes v.base v.marks v.saved v.kept (slice_set v.away job.atom None))
  event-cases v w (Back returned (Err Broken)) P stays fires acks notes breaks did = subst (P []) (sym did.2.1) stays
  event-cases v w (Back returned (Err Stranger)) P stays fires acks notes breaks did = subst (P []) (sym did.2.2) stays
  event-cases v w (Back returned (Err other)) P stays fires acks notes breaks did = absurd did.2
  event-cases v w (Idle atom) P stays fires acks notes breaks did = subst (P []) (sym did) stays

  -- two runs of events one after the other
  pub events-join : (before behind : List Happened) (v u w : View) → IsEventRun plant v before u → IsEventRun plant u behind w → IsEventRun plant v (before ++ behind) w
  events-join [] behind v u w first second = subst (λ x. IsEventRun plant x behind w) first second
  events-join (h ∷ hs) behind v u w first second = (first.0, first.1, events-join hs behind first.0 u w first.2 second)

  -- what was fired is a run
  pub events-run : (hs : List Happened) (v w : View) → IsEventRun plant v hs w → IsRun plant v.present (all_fired hs) w.present
  events-run [] v w run = sym (ap (λ (u : View). u.present) run)
  events-run (h ∷ hs) v w run = event-cases v run.0 h
      (λ cs x. IsRun plant x.present (all_fired hs) w.present → IsRun plant v.present (cs ++ all_fired hs) w.present)
      (λ rest. rest)
      (λ f away can rest. (can, rest))
      (λ rest. rest)
      (λ base marks saved kept away rest. rest)
      (λ rest. rest)
      run.1 (events-run hs run.0 w run.2)

  -- the tail leads to the present state after an event if it did before, and so after each run of events
  pub event-leads : (h : Happened) (v w : View) → v.present ≡ fold plant v.acked v.tail → IsEvent plant v h w → w.present ≡ fold plant w.acked w.tail
  event-leads h v w leads event = event-cases v w h
      (λ cs x. x.present ≡ fold plant x.acked x.tail)
      leads
      (λ f away can. ap (λ states. next plant states f) leads ∙ fold-more plant v.tail v.acked f)
      refl
      (λ base marks saved kept away. leads)
      leads
      event

  pub events-lead : (hs : List Happened) (v w : View) → v.present ≡ fold plant v.acked v.tail → IsEventRun plant v hs w → w.present ≡ fold plant w.acked w.tail
  events-lead [] v w leads run = subst (λ (x : View). x.present ≡ fold plant x.acked x.tail) (sym run) leads
  events-lead (h ∷ hs) v w leads run = events-lead hs run.0 w (event-leads h v run.0 leads run.1) run.2

  -- the state after firings and then more
  pub fold-append : (xs ys : List FiringDefinition) (states : List Local) → fold plant states (xs ++ ys) ≡ fold plant (fold plant states xs) ys
  fold-append [] ys states = refl
  fold-append (x ∷ xs) ys states = fold-append xs ys (next plant states x)

  -- the first k of these firings were acknowledged, from a state and a number on
  abbrev Acked : List Local → ℕ → List FiringDefinition → View → Type 0
  Acked acked number cs w = (k : ℕ) × (w.number ≡ number + k) × (k ≤ length cs) × (w.acked ≡ fold plant acked (take k cs)) × (w.tail ≡ drop k cs)

  -- if all of the tail is acknowledged, these are so many more
  acked-more : (acked : List Local) (number : ℕ) (tail rest : List FiringDefinition) (w : View) → Acked (fold plant acked tail) (number + length tail) rest w → Acked acked number (tail ++ rest) w
  acked-more acked number tail rest w more =
      let k : ℕ = more.0 in
      let few : k ≤ length rest = more.2 in (
        length tail + k,
        omega (arith, more.1),
        omega (arith, few, length-append tail rest),
        more.3 ∙ sym (fold-append tail (take k rest) acked) ∙ ap (fold plant acked) (sym (take-append-add tail rest k)),
        more.4 ∙ sym (drop-append-add tail rest k),
      )

  acked-by : (hs : List Happened) (v w : View) → v.present ≡ fold plant v.acked v.tail → IsEventRun plant v hs w → Acked v.acked v.number (v.tail ++ all_fired hs) w
  acked-by [] v w leads run = (
    0,
    ap (λ (x : View). x.number) run ∙ omega arith,
    omega arith,
    ap (λ (x : View). x.acked) run,
    ap (λ (x : View). x.tail) run ∙ sym (append-nil v.tail),
  )
  acked-by (h ∷ hs) v w leads run = event-cases v run.0 h
      (λ cs x. (x.present ≡ fold plant x.acked x.tail → Acked x.acked x.number (x.tail ++ all_fired hs) w) → Acked v.acked v.number (v.tail ++ (cs ++ all_fired hs)) w)
      (λ rest. rest leads)
      (λ f away can rest. subst (λ cs. Acked v.acked v.number cs w) (append_assoc v.tail (f ∷ []) (all_fired hs))
      (rest (ap (λ states. next plant states f) leads ∙ fold-more plant v.tail v.acked f)))
      (λ rest. acked-more v.acked v.number v.tail (all_fired hs) w (subst (λ states. Acked states (v.number + length v.tail) (all_fired hs) w) leads (rest refl)))
      (λ base marks saved kept away rest. rest leads)
      (λ rest. rest leads)
      run.1 (λ leads_on. acked-by hs run.0 w leads_on run.2)

  -- what was acknowledged is a front of the tail and of what was fired
  pub events-ack : (hs : List Happened) (v w : View) → v.present ≡ fold plant v.acked v.tail → IsEventRun plant v hs w → IsAckedOf plant v (all_fired hs) w
  events-ack hs v w leads run =
      let found = acked-by hs v w leads run in
      let k : ℕ = found.0 in
      let long : k ≡ w.number - v.number = omega (arith, found.1) in
      record {
        grows = omega (arith, found.1);
        within = subst (λ (n : ℕ). n ≤ length (v.tail ++ all_fired hs)) long found.2;
        acked = subst (λ (n : ℕ). w.acked ≡ fold plant v.acked (take n (v.tail ++ all_fired hs))) long found.3;
        tail = subst (λ (n : ℕ). w.tail ≡ drop n (v.tail ++ all_fired hs)) long found.4;
      }
