-- What is so after some of the events that a plant is asked for, and what one more does to it.
use Rattle.std.proofs.Common.{◌≡◌, ◌≢◌, ◌+◌, ◌-◌, ◌≤◌, ◌==◌, ℕ, ℤ, refl, sym, ◌∙◌, ap, subst, List, [], ◌∷◌, ◌++◌, length, map, take, drop, arith, Bool, true, false, if◌then◌else◌, ◌||◌, Option, None, Some, Ok, Err, Result}
use Rattle.std.specs.Prelude.{IfErr}
use Rattle.std.specs.List.{list_all, list_any}
use Rattle.std.proofs.Math.Bool.{or-false}
use Rattle.std.proofs.Math.Seq.{take-add}
use Rattle.std.proofs.lemmas.Bool.{and_parts, false≢true}
use Rattle.std.proofs.lemmas.Grind.{flat_map-append}
use Rattle.std.proofs.lemmas.List.{append-nil, append_assoc, drop-append-le, length-append, length-drop, map-append, take-append-le}
use Rattle.std.proofs.lemmas.Option.{none-some, same_Some}
use Rattle.std.proofs.lemmas.List.Folds.{list_all-append, list_any-append}
use Rattle.disk_model.specs.Cells.{Cell, Leaves, MayBe}
use Rattle.disk_model.specs.DiskState.{CountsTwo, DiskState, counted, size_of}
use Rattle.disk_model.specs.Moments.{leaves_start, leaves_then, leaves_weaker}
use Rattle.disk_model.specs.declared.cells.TheConstants.{BODY}
use Rattle.plant_image.specs.Standing.{StandsFor}
use Rattle.record_codec.specs.declared.layout.TheConstants.{LAST_NUMBER}
use Rattle.plant_model.specs.Firing.{FiringDefinition}
use Rattle.plant_model.specs.Plant.{PlantDefinition}
use Rattle.plant_model.specs.Runs.{fold}
use Rattle.plant_core.specs.Events.{AreHandsAfter, IsAckedOf, IsBack, IsBegin, IsEvent, IsEventRun, IsFire, IsFlush, IsHandedIn, IsHandedRun, all_fired, asked_in, fire_refusal, fired_by, firing_refusal, first_refusal, has_failed, has_none, is_any_away, is_call, is_disk, is_in_memory, may_call, refused_where, takes_others}
use Rattle.plant_core.specs.Driven.{IsDriven}
use Rattle.plant_core.specs.Hands.{HandFields}
use Rattle.step_core.specs.Job.{JobDefinition}
use Rattle.plant_core.specs.Stops.{StandsForFront, StandsForFrontSince}
use Rattle.plant_core.specs.View.{View, behind_states, fired_number}
use Rattle.plant_core.specs.declared.events.Event.{Event}
use Rattle.plant_core.specs.declared.events.FiredAs.{FiredAs}
use Rattle.plant_core.specs.declared.events.Happened.{Happened}
use Rattle.plant_core.specs.declared.events.Happened.TheVariants.{Fire, FireChoice, Flush, Ask, Put, Empty, Save, Trim, Begin, Back, Idle}
use Rattle.plant_core.specs.declared.limits.TheConstants.{MOST_TAIL}
use Rattle.plant_core.specs.declared.refused.Refused.{Refused}
use Rattle.plant_core.specs.declared.refused.Refused.TheVariants.{Stuck, Busy, TailFull, RingFull, Spent, Away, Ahead, Stranger, NothingNew, Disk, Broken}
use Rattle.plant_core.proofs.Valued.{one-of-both}
use Rattle.plant_core.proofs.EventRuns.{all-stored-is, events-ack, event-cases, events-join, fold-append}

-- ---- what fails

-- the device is no cause of a refused fire
refusal-kept : (b : Bool) (first refused : Refused) (rest : List (Option Refused)) → is_disk {X = FiredAs} (Err first) ≡ false → (first_refusal rest ≡ Some refused → is_disk {X = FiredAs} (Err refused) ≡ false)
    → first_refusal (refused_where b first ∷ rest) ≡ Some refused → is_disk {X = FiredAs} (Err refused) ≡ false
refusal-kept true first refused rest none others is = subst (λ r. is_disk {X = FiredAs} (Err r) ≡ false) (same_Some first refused is) none
refusal-kept false first refused rest none others is = others is

none-of : (b : Bool) → is_disk {X = FiredAs} (Err (if b then Busy else Stuck)) ≡ false
none-of true = refl
none-of false = refl

refusal-of-no-disk : (b1 b2 b3 b4 b5 b6 : Bool) (refused : Refused) → first_refusal (refused_where b1 Broken ∷ refused_where b2 Spent ∷ refused_where b3 TailFull ∷ refused_where b4 RingFull ∷ refused_where b5 (if b6 then Busy else Stuck) ∷ []) ≡ Some refused → is_disk {X = FiredAs} (Err refused) ≡ false
refusal-of-no-disk b1 b2 b3 b4 b5 b6 refused =
    refusal-kept b1 Broken refused (refused_where b2 Spent ∷ refused_where b3 TailFull ∷ refused_where b4 RingFull ∷ refused_where b5 (if b6 then Busy else Stuck) ∷ []) refl
    (refusal-kept b2 Spent refused (refused_where b3 TailFull ∷ refused_where b4 RingFull ∷ refused_where b5 (if b6 then Busy else Stuck) ∷ []) refl
    (refusal-kept b3 TailFull refused (refused_where b4 RingFull ∷ refused_where b5 (if b6 then Busy else Stuck) ∷ []) refl
    (refusal-kept b4 RingFull refused (refused_where b5 (if b6 then Busy else Stuck) ∷ []) refl
    (refusal-kept b5 (if b6 then Busy else Stuck) refused [] (none-of b6) (λ none. absurd (none-some refused none))))))

firing-of-no-disk : (plant : PlantDefinition) (v : View) (pick : ℕ) (values : List ℤ) (refused : Refused) → firing_refusal plant v pick values ≡ Some refused → is_disk {X = FiredAs} (Err refused) ≡ false
firing-of-no-disk plant v pick values refused is =
    one-of-both (fire_refusal plant v) (takes_others plant v pick values) refused
    (refusal-of-no-disk v.broken (fired_number v == LAST_NUMBER) (length v.tail == MOST_TAIL) (fired_number v + 1 - v.base == v.ring) (has_none plant v) (is_any_away v) refused)
    is

-- so in a fire it never fails
pub fire-never-fails : (plant : PlantDefinition) (v w : View) (pick : ℕ) (values : List ℤ) (answer : Result FiredAs Refused) → IsFire plant v pick values answer w → is_disk answer ≡ false
fire-never-fails plant v w pick values (Ok fired) did = refl
fire-never-fails plant v w pick values (Err refused) did = firing-of-no-disk plant v pick values refused did.0

pub begin-never-fails : (plant : PlantDefinition) (v w : View) (pick : ℕ) (values : List ℤ) (answer : Result FiredAs Refused) → IsBegin plant v pick values answer w → is_disk answer ≡ false
begin-never-fails plant v w pick values (Ok fired) did = refl
begin-never-fails plant v w pick values (Err refused) did = firing-of-no-disk plant v pick values refused did.0

-- nor is it one of a refused return
pub back-never-fails : (v w : View) (job : JobDefinition) (answer : Result (Unit {0}) Refused) → IsBack v job answer w → is_disk answer ≡ false
back-never-fails v w job (Ok done) did = refl
back-never-fails v w job (Err Broken) did = refl
back-never-fails v w job (Err Stranger) did = refl
back-never-fails v w job (Err other) did = absurd did

-- and if it fails in an event, the plant was not broken and is
failing-breaks : (plant : PlantDefinition) (v w : View) (h : Happened) → IsEvent plant v h w → has_failed h ≡ true → (v.broken ≢ true) × (w.broken ≡ true)
failing-breaks plant v w (Fire pick values answer) did failed = absurd (false≢true (sym (fire-never-fails plant v w pick values answer did) ∙ failed))
failing-breaks plant v w (FireChoice choice values None) did failed = absurd (false≢true failed)
failing-breaks plant v w (FireChoice choice values (Some answer)) did failed = absurd (false≢true (sym (fire-never-fails plant v w did.0 values answer did.2) ∙ failed))
failing-breaks plant v w (Flush (Ok number)) did failed = absurd (false≢true failed)
failing-breaks plant v w (Flush (Err Broken)) did failed = absurd (false≢true failed)
failing-breaks plant v w (Flush (Err Disk)) did failed = (did.0, ap (λ (x : View). x.broken) did.2)
failing-breaks plant v w (Flush (Err other)) did failed = absurd did
failing-breaks plant v w (Ask atom (Ok saved)) did failed = absurd (false≢true failed)
failing-breaks plant v w (Ask atom (Err Broken)) did failed = absurd (false≢true failed)
failing-breaks plant v w (Ask atom (Err Stranger)) did failed = absurd (false≢true failed)
failing-breaks plant v w (Ask atom (Err (Away n))) did failed = absurd (false≢true failed)
failing-breaks plant v w (Ask atom (Err NothingNew)) did failed = absurd (false≢true failed)
failing-breaks plant v w (Ask atom (Err other)) did failed = absurd did
failing-breaks plant v w (Put saved (Ok count)) did failed = absurd (false≢true failed)
failing-breaks plant v w (Put saved (Err Broken)) did failed = absurd (false≢true failed)
failing-breaks plant v w (Put saved (Err Stranger)) did failed = absurd (false≢true failed)
failing-breaks plant v w (Put saved (Err (Ahead atom))) did failed = absurd (false≢true failed)
failing-breaks plant v w (Put saved (Err Disk)) did failed = (did.0.whole, ap (λ (x : View). x.broken) did.1)
failing-breaks plant v w (Put saved (Err other)) did failed = absurd did
failing-breaks plant v w (Empty atom) did failed = absurd (false≢true failed)
failing-breaks plant v w (Save (Ok to)) did failed = absurd (false≢true failed)
failing-breaks plant v w (Save (Err Broken)) did failed = absurd (false≢true failed)
failing-breaks plant v w (Save (Err NothingNew)) did failed = absurd (false≢true failed)
failing-breaks plant v w (Save (Err Disk)) did failed = (did.0, ap (λ (x : View). x.broken) did.2)
failing-breaks plant v w (Save (Err other)) did failed = absurd did
failing-breaks plant v w (Trim (Ok base)) did failed = absurd (false≢true failed)
failing-breaks plant v w (Trim (Err Broken)) did failed = absurd (false≢true failed)
failing-breaks plant v w (Trim (Err NothingNew)) did failed = absurd (false≢true failed)
failing-breaks plant v w (Trim (Err Disk)) did failed = (did.0, ap (λ (x : View). x.broken) did.2)
failing-breaks plant v w (Trim (Err other)) did failed = absurd did
failing-breaks plant v w (Begin pick values answer) did failed = absurd (false≢true (sym (begin-never-fails plant v w pick values answer did) ∙ failed))
failing-breaks plant v w (Back returned answer) did failed = absurd (false≢true (sym (back-never-fails v w did.0 answer did.2) ∙ failed))
failing-breaks plant v w (Idle atom) did failed = absurd (false≢true failed)

-- if it does not fail, nothing breaks
event-sound : (plant : PlantDefinition) (v w : View) (h : Happened) → IsEvent plant v h w → has_failed h ≡ false → w.broken ≡ v.broken
event-sound plant v w (Fire pick values (Ok fired)) did sound = ap (λ (x : View). x.broken) did.3
event-sound plant v w (Fire pick values (Err refused)) did sound = ap (λ (x : View). x.broken) did.1
event-sound plant v w (FireChoice choice values None) did sound = ap (λ (x : View). x.broken) did.1
event-sound plant v w (FireChoice choice values (Some (Ok fired))) did sound = ap (λ (x : View). x.broken) did.2.3
event-sound plant v w (FireChoice choice values (Some (Err refused))) did sound = ap (λ (x : View). x.broken) did.2.1
event-sound plant v w (Flush (Ok number)) did sound = ap (λ (x : View). x.broken) did.2
event-sound plant v w (Flush (Err Broken)) did sound = ap (λ (x : View). x.broken) did.1
event-sound plant v w (Flush (Err Disk)) did sound = absurd (false≢true (sym sound))
event-sound plant v w (Flush (Err other)) did sound = absurd did
event-sound plant v w (Ask atom (Ok saved)) did sound = ap (λ (x : View). x.broken) did.4
event-sound plant v w (Ask atom (Err Broken)) did sound = ap (λ (x : View). x.broken) did.1
event-sound plant v w (Ask atom (Err Stranger)) did sound = ap (λ (x : View). x.broken) did.2
event-sound plant v w (Ask atom (Err (Away n))) did sound = ap (λ (x : View). x.broken) did.3
event-sound plant v w (Ask atom (Err NothingNew)) did sound = ap (λ (x : View). x.broken) did.4
event-sound plant v w (Ask atom (Err other)) did sound = absurd did
event-sound plant v w (Put saved (Ok count)) did sound = ap (λ (x : View). x.broken) did.2
event-sound plant v w (Put saved (Err Broken)) did sound = ap (λ (x : View). x.broken) did.1
event-sound plant v w (Put saved (Err Stranger)) did sound = ap (λ (x : View). x.broken) did.2
event-sound plant v w (Put saved (Err (Ahead atom))) did sound = ap (λ (x : View). x.broken) did.4
event-sound plant v w (Put saved (Err Disk)) did sound = absurd (false≢true (sym sound))
event-sound plant v w (Put saved (Err other)) did sound = absurd did
event-sound plant v w (Empty atom) did sound = ap (λ (x : View). x.broken) did
event-sound plant v w (Save (Ok to)) did sound = ap (λ (x : View). x.broken) (did.4 ∙ all-stored-is (behind_states v) v)
event-sound plant v w (Save (Err Broken)) did sound = ap (λ (x : View). x.broken) did.1
event-sound plant v w (Save (Err NothingNew)) did sound = ap (λ (x : View). x.broken) did.2
event-sound plant v w (Save (Err Disk)) did sound = absurd (false≢true (sym sound))
event-sound plant v w (Save (Err other)) did sound = absurd did
event-sound plant v w (Trim (Ok base)) did sound = ap (λ (x : View). x.broken) did.3
event-sound plant v w (Trim (Err Broken)) did sound = ap (λ (x : View). x.broken) did.1
event-sound plant v w (Trim (Err NothingNew)) did sound = ap (λ (x : View). x.broken) did.2
event-sound plant v w (Trim (Err Disk)) did sound = absurd (false≢true (sym sound))
event-sound plant v w (Trim (Err other)) did sound = absurd did
event-sound plant v w (Begin pick values (Ok fired)) did sound = ap (λ (x : View). x.broken) did.3
event-sound plant v w (Begin pick values (Err refused)) did sound = ap (λ (x : View). x.broken) did.1
event-sound plant v w (Back returned (Ok done)) did sound = ap (λ (x : View). x.broken) did.2.2
event-sound plant v w (Back returned (Err Broken)) did sound = ap (λ (x : View). x.broken) did.2.1
event-sound plant v w (Back returned (Err Stranger)) did sound = ap (λ (x : View). x.broken) did.2.2
event-sound plant v w (Back returned (Err other)) did sound = absurd did.2
event-sound plant v w (Idle atom) did sound = ap (λ (x : View). x.broken) did

-- neither of two is so if one of them is not
neither : (a b : Bool) → (a || b) ≡ false → (a ≡ false) × (b ≡ false)
neither false b none = (refl, none)
neither true b none = absurd (false≢true (sym none))

pub events-sound : (plant : PlantDefinition) (hs : List Happened) (v w : View) → IsEventRun plant v hs w → list_any has_failed hs ≡ false → w.broken ≡ v.broken
events-sound plant [] v w run sound = ap (λ (x : View). x.broken) run
events-sound plant (h ∷ hs) v w run sound =
    let both = neither (has_failed h) (list_any has_failed hs) sound in
    events-sound plant hs run.0 w run.2 both.1 ∙ event-sound plant v run.0 h run.1 both.0

-- ---- what makes no call of the device

-- a flush that is refused for another cause than a failure is that of a broken plant
pub flush-refused : (v w : View) (answer : Result ℕ Refused) → IsFlush v answer w → is_call answer ≡ false → v.broken ≡ true
flush-refused v w (Ok number) did none = absurd (false≢true (sym none))
flush-refused v w (Err Broken) did none = did.0
flush-refused v w (Err Disk) did none = absurd (false≢true (sym none))
flush-refused v w (Err other) did none = absurd did

-- a refusal that is no such failure
not-failed : (X : Type 0) (refused : Refused) → is_call {X = X} (Err refused) ≡ false → refused ≢ Disk
not-failed X refused none same = false≢true (sym none ∙ ap (λ (r : Refused). is_call {X = X} (Err r)) same)

pub refused-untouched : (refused : Refused) (old new : DiskState) → (refused ≢ Disk → new ≡ old) → is_call {X = ℕ} (Err refused) ≡ false → new ≡ old
refused-untouched refused old new same none = same (not-failed ℕ refused none)

pub answer-untouched : {X : Type 0} (answer : Result X Refused) (old new : DiskState) → IfErr answer (λ refused. refused ≢ Disk → new ≡ old) → is_call answer ≡ false → new ≡ old
answer-untouched (Ok x) old new same none = absurd (false≢true (sym none))
answer-untouched {X} (Err refused) old new same none = same (not-failed X refused none)

-- a flush keeps whether the device keeps the disk model
pub flush-keeps : (v : View) (s t : DiskState) (ok : Bool) → (v.tail ≡ [] → t ≡ s) → (v.broken ≡ true → t ≡ s) → (v.tail ≢ [] → v.broken ≡ false → CountsTwo ok s t) → t.keeps ≡ s.keeps
flush-keeps v s t ok idle refused counts = by_tail v.tail refl
  where
    by_tail : (cs : List FiringDefinition) → v.tail ≡ cs → t.keeps ≡ s.keeps
    by_tail [] is = ap (λ (d : DiskState). d.keeps) (idle is)
    by_tail (c ∷ cs) is = by_broken v.broken refl
      where
        some : v.tail ≢ []
        some none = absurd (omega (arith, ap length (sym is ∙ none)))

        by_broken : (b : Bool) → v.broken ≡ b → t.keeps ≡ s.keeps
        by_broken true b = ap (λ (d : DiskState). d.keeps) (refused b)
        by_broken false b = (counts some b).keeps

-- ---- what stays

-- a plant that is broken stays so
stays-broken : (plant : PlantDefinition) (v w : View) (h : Happened) → IsEvent plant v h w → v.broken ≡ true → w.broken ≡ true
stays-broken plant v w h event broken = event-cases plant v w h
    (λ cs x. x.broken ≡ true)
    broken
    (λ f away can. broken)
    broken
    (λ base marks saved kept away. broken)
    refl
    event

pub not-true : (b : Bool) → (b ≡ true → ⊥) → b ≡ false
not-true true none = absurd (none refl)
not-true false none = refl

-- ---- what a stop leaves

module _ (plant : PlantDefinition) (digest : List ℕ) (bytes : ℕ) (v : View) where
  -- a front of what was fired is one of what was fired with more after it
  front-since-more : (fired more : List FiringDefinition) (cells : List Cell) → StandsForFrontSince plant digest bytes v fired cells → StandsForFrontSince plant digest bytes v (fired ++ more) cells
  front-since-more fired more cells stands =
      let k : ℕ = stands.0 in
      let within : k ≤ length (v.tail ++ fired) = stands.1 in
      let joined : v.tail ++ fired ++ more ≡ v.tail ++ (fired ++ more) = append_assoc v.tail fired more in
      subst (λ cs. (n : ℕ) × (n ≤ length cs) × StandsFor plant digest bytes cells (fold plant v.acked (take n cs)) (v.number + n)) joined (
        k,
        omega (arith, within, length-append (v.tail ++ fired) more),
        subst (λ cs. StandsFor plant digest bytes cells (fold plant v.acked cs) (v.number + k)) (sym (take-append-le k (v.tail ++ fired) more within)) stands.2,
      )

-- ---- what is handed in

-- runs one after the other, with what is in hands
pub handed-join : (plant : PlantDefinition) (before behind : List Happened) (v u w : View) (hands held after : HandFields) → IsHandedRun plant v hands before u held → IsHandedRun plant u held behind w after → IsHandedRun plant v hands (before ++ behind) w after
handed-join plant [] behind v u w hands held after first second =
    subst (λ x. IsHandedRun plant x hands behind w after) first.0 (subst (λ x. IsHandedRun plant u x behind w after) first.1 second)
handed-join plant (h ∷ hs) behind v u w hands held after first second =
    let event = first.1 in
    let taken = event.2 in
    (first.0, (event.0, event.1, (taken.0, taken.1, handed-join plant hs behind event.0 u w taken.0 held after taken.2 second)))

-- ---- two runs, one after the other

-- a front of the tail, if nothing more was fired
since-now : (plant : PlantDefinition) (digest : List ℕ) (bytes : ℕ) (v : View) (cells : List Cell) → StandsForFront plant digest bytes v cells → StandsForFrontSince plant digest bytes v [] cells
since-now plant digest bytes v cells stands =
    subst (λ cs. (n : ℕ) × (n ≤ length cs) × StandsFor plant digest bytes cells (fold plant v.acked (take n cs)) (v.number + n)) (sym (append-nil v.tail)) stands

module _ (plant : PlantDefinition) (digest : List ℕ) (bytes : ℕ) (v : View) where
  -- a front of what was fired since some of it is one of all that was fired
  front-since-then : (fired more : List FiringDefinition) (u : View) (cells : List Cell) → IsAckedOf plant v fired u → StandsForFrontSince plant digest bytes u more cells → StandsForFrontSince plant digest bytes v (fired ++ more) cells
  front-since-then fired more u cells acked stands =
      let k : ℕ = stands.0 in
      let a : ℕ = u.number - v.number in
      let first : List FiringDefinition = v.tail ++ fired in
      let whole : List FiringDefinition = first ++ more in
      let rest : u.tail ++ more ≡ drop a whole = ap (λ cs. cs ++ more) acked.tail ∙ sym (drop-append-le a first more acked.within) in
      let within : k ≤ length (u.tail ++ more) = stands.1 in
      let long : length (u.tail ++ more) ≡ length whole - a = ap length rest ∙ length-drop a whole in
      let room : a ≤ length whole = omega (arith, acked.within, length-append first more) in
      let number : u.number + k ≡ v.number + (a + k) = omega (arith, acked.grows) in
      let state : fold plant u.acked (take k (u.tail ++ more)) ≡ fold plant v.acked (take (a + k) whole) =
      ap (λ states. fold plant states (take k (u.tail ++ more))) acked.acked ∙
      ap (λ cs. fold plant (fold plant v.acked (take a first)) (take k cs)) rest ∙
      ap (λ cs. fold plant (fold plant v.acked cs) (take k (drop a whole))) (sym (take-append-le a first more acked.within)) ∙
      sym (fold-append plant (take a whole) (take k (drop a whole)) v.acked) ∙
      ap (fold plant v.acked) (sym (take-add a k whole)) in
      subst (λ cs. (n : ℕ) × (n ≤ length cs) × StandsFor plant digest bytes cells (fold plant v.acked (take n cs)) (v.number + n)) (append_assoc v.tail fired more) (
        a + k,
        omega (arith, within, long, room),
        subst (λ (n : ℕ). StandsFor plant digest bytes cells (fold plant v.acked (take (a + k) whole)) n) number
            (subst (λ states. StandsFor plant digest bytes cells states (u.number + k)) state stands.2),
      )

  -- so a front of the tail then is one of it
  pub front-since : (fired : List FiringDefinition) (u : View) (cells : List Cell) → IsAckedOf plant v fired u → StandsForFront plant digest bytes u cells → StandsForFrontSince plant digest bytes v fired cells
  front-since fired u cells acked stands =
      subst (λ cs. StandsForFrontSince plant digest bytes v cs cells) (append-nil fired)
      (front-since-then fired [] u cells acked (since-now plant digest bytes u cells stands))

-- in a broken plant no event fails
none-fails : (plant : PlantDefinition) (hs : List Happened) (v w : View) → IsEventRun plant v hs w → v.broken ≡ true → list_any has_failed hs ≡ false
none-fails plant [] v w run broken = refl
none-fails plant (h ∷ hs) v w run broken =
    ap (λ b. b || list_any has_failed hs) (not-true (has_failed h) (λ is. (failing-breaks plant v run.0 h run.1 is).0 broken)) ∙
    none-fails plant hs run.0 w run.2 (stays-broken plant v run.0 h run.1 broken)

broken-stays : (plant : PlantDefinition) (hs : List Happened) (v w : View) → IsEventRun plant v hs w → v.broken ≡ true → w.broken ≡ true
broken-stays plant [] v w run broken = subst (λ (x : View). x.broken ≡ true) (sym run) broken
broken-stays plant (h ∷ hs) v w run broken = broken-stays plant hs run.0 w run.2 (stays-broken plant v run.0 h run.1 broken)

either : (a b : Bool) (P : Type 0) → (a ≡ true → P) → (b ≡ true → P) → (a || b) ≡ true → P
either true b P first second is = first refl
either false b P first second is = second is

counted-once : (before here : Bool) (first mid last : ℕ) → (before ≡ true → here ≡ false) → mid ≡ counted before first → last ≡ counted here mid → last ≡ counted (before || here) first
counted-once true true first mid last once was is = absurd (false≢true (sym (once refl)))
counted-once true false first mid last once was is = is ∙ was
counted-once false true first mid last once was is = is ∙ ap (counted true) was
counted-once false false first mid last once was is = is ∙ was

-- a plant that was asked for some events, and then for others, was asked for both
pub driven-join : (plant : PlantDefinition) (digest : List ℕ) (v u w : View) (s m t : DiskState) (a b c : HandFields) (before behind : List Event) (hs gs : List Happened) → v.present ≡ fold plant v.acked v.tail
    → IsDriven plant digest v s a before hs u m b → IsDriven plant digest u m b behind gs w t c → IsDriven plant digest v s a (before ++ behind) (hs ++ gs) w t c
driven-join plant digest v u w s m t a b c before behind hs gs leads first second = record {
  asked = map-append asked_in hs gs ∙ ap (λ es. es ++ map asked_in gs) first.asked ∙ ap (λ es. before ++ es) second.asked;
  run = events-join plant hs gs v u w first.run second.run;
  handed = handed-join plant hs gs v u w a b c first.handed second.handed;
  stops = λ kept.
      let since : List FiringDefinition = all_fired hs ++ all_fired gs in
      let acked : IsAckedOf plant v (all_fired hs) u = events-ack plant hs v u leads first.run in
      let one : Leaves (BODY + 1) (StandsForFrontSince plant digest (size_of s) v since) s m =
      leaves_weaker (BODY + 1) (StandsForFrontSince plant digest (size_of s) v (all_fired hs)) (StandsForFrontSince plant digest (size_of s) v since) s m
      (λ cells stands. front-since-more plant digest (size_of s) v (all_fired hs) (all_fired gs) cells stands) (first.stops kept) in
      let two : Leaves (BODY + 1) (StandsForFrontSince plant digest (size_of s) u (all_fired gs)) m t =
      subst (λ (n : ℕ). Leaves (BODY + 1) (StandsForFrontSince plant digest n u (all_fired gs)) m t) first.size (second.stops (first.keeps ∙ kept)) in
      subst (λ cs. Leaves (BODY + 1) (StandsForFrontSince plant digest (size_of s) v cs) s t) (sym (flat_map-append fired_by hs gs))
      (leaves_then (BODY + 1) (StandsForFrontSince plant digest (size_of s) v since) s m t one
      (leaves_weaker (BODY + 1) (StandsForFrontSince plant digest (size_of s) u (all_fired gs)) (StandsForFrontSince plant digest (size_of s) v since) m t
      (λ cells stands. front-since-then plant digest (size_of s) v (all_fired hs) (all_fired gs) u cells acked stands) two));
  cause = counted-once (list_any has_failed hs) (list_any has_failed gs) s.failures m.failures t.failures
      (λ was. none-fails plant gs u w second.run (first.failed was)) first.cause second.cause ∙
      ap (λ b. counted b s.failures) (sym (list_any-append has_failed hs gs));
  failed = λ some. either (list_any has_failed hs) (list_any has_failed gs) (w.broken ≡ true)
      (λ was. broken-stays plant gs u w second.run (first.failed was))
      second.failed
      (sym (list_any-append has_failed hs gs) ∙ some);
  idle = λ all.
      let both = and_parts (list_all is_in_memory before) (list_all is_in_memory behind) (sym (list_all-append is_in_memory before behind) ∙ all) in
      second.idle both.1 ∙ first.idle both.0;
  untouched = λ none.
      let both = neither (list_any may_call hs) (list_any may_call gs) (sym (list_any-append may_call hs gs) ∙ none) in
      second.untouched both.1 ∙ first.untouched both.0;
  size = second.size ∙ first.size;
  keeps = second.keeps ∙ first.keeps;
}

-- ---- no event, and one

module _ (plant : PlantDefinition) (digest : List ℕ) (v : View) (s : DiskState) (hands : HandFields) where
  -- before the first event
  pub driven-none : (s.keeps ≡ true → (cells : List Cell) → MayBe (BODY + 1) s cells → StandsForFront plant digest (size_of s) v cells) → IsDriven plant digest v s hands [] [] v s hands
  driven-none front = record {
    asked = refl;
    run = refl;
    handed = (refl, refl);
    stops = λ keeps. leaves_start (BODY + 1) (StandsForFrontSince plant digest (size_of s) v []) s (λ cells may. since-now plant digest (size_of s) v cells (front keeps cells may));
    cause = refl;
    failed = λ none. absurd (false≢true none);
    idle = λ all. refl;
    untouched = λ none. refl;
    size = refl;
    keeps = refl;
  }

  -- after one, by what the call that met it says
  pub driven-one : (h : Happened) (w : View) (m : DiskState) (after : HandFields) → IsEvent plant v h w → (e : Event) → asked_in h ≡ e
      → (s.keeps ≡ true → Leaves (BODY + 1) (StandsForFront plant digest (size_of s) v) s m) → m.failures ≡ counted (has_failed h) s.failures
      → (is_in_memory e ≡ true → m ≡ s) → (may_call h ≡ false → m ≡ s) → size_of m ≡ size_of s → m.keeps ≡ s.keeps → IsHandedIn plant hands h → AreHandsAfter plant v hands h after
      → IsDriven plant digest v s hands (e ∷ []) (h ∷ []) w m after
  driven-one h w m after event e asked stops cause idle untouched size keeps handed behind = record {
    asked = ap (λ x. x ∷ []) asked;
    run = (w, event, refl);
    handed = (handed, (w, event, (after, behind, (refl, refl))));
    stops = λ kept. leaves_weaker (BODY + 1) (StandsForFront plant digest (size_of s) v) (StandsForFrontSince plant digest (size_of s) v (all_fired (h ∷ []))) s m
        (λ cells stands. front-since-more plant digest (size_of s) v [] (all_fired (h ∷ [])) cells (since-now plant digest (size_of s) v cells stands))
        (stops kept);
    cause = cause ∙ ap (λ b. counted b s.failures) (sym (or-false (has_failed h)));
    failed = λ some. (failing-breaks plant v w h event (sym (or-false (has_failed h)) ∙ some)).1;
    idle = λ all. idle (and_parts (is_in_memory e) true all).0;
    untouched = λ none. untouched (neither (may_call h) false none).0;
    size = size;
    keeps = keeps;
  }
