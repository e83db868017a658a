-- What a stop leaves is right, whatever of a run it falls in.
use Rattle.std.proofs.Common.{◌≡◌, inl, inr, ⊎_elim, ℕ, ◌+◌, ◌-◌, ◌<◌, ◌≤◌, Bool, true, false, nat_lt, cond, eqb, List, [], ◌++◌, length, map, take, drop, replicate, get_or, None, Some, Result, Ok, Err, IfOk, refl, sym, ◌∙◌, ap, subst, arith}
use Rattle.std.proofs.Math.Seq.{drop-append-add, take-append-add}
use Rattle.std.proofs.lemmas.Bool.{le-ltb}
use Rattle.std.proofs.lemmas.List.{get_or-replicate, length-append, length-replicate, length-take-le}
use Rattle.disk_model.specs.declared.cells.TheConstants.{BODY}
use Rattle.disk_model.specs.Cells.{Cell, MayBe, body_at, cell, cells_in, seen_cells}
use Rattle.disk_model.specs.DiskState.{DiskState, size_of}
use Rattle.disk_model.specs.MemDisk.{fresh}
use Rattle.disk_model.specs.Moments.{seen_may}
use Rattle.disk_model.proofs.CellBytes.{cell-cells_of}
use Rattle.plant_core.specs.Events.{IsAckedOf, IsEventRun, all_fired}
use Rattle.plant_core.specs.Stops.{StandsForFront}
use Rattle.plant_core.specs.View.{View}
use Rattle.plant_core.specs.declared.events.Event.{Event}
use Rattle.plant_core.specs.declared.events.Happened.{Happened}
use Rattle.plant_core.proofs.EventRuns.{events-ack, events-run, fold-append}
use Rattle.plant_image.specs.Faults.{fault_of}
use Rattle.plant_image.specs.Standing.{StandsFor}
use Rattle.plant_image.specs.declared.fault.ImageFault.TheVariants.{NotFormatted}
use Rattle.petri_atom.specs.Local.{Local}
use Rattle.record_codec.specs.Ring.{identity_cell}
use Rattle.recovery.specs.Booting.{IsBooted, IsBooting}
use Rattle.recovery.specs.Formatting.{IsFormatting, formatted_size}
use Rattle.plant_model.specs.Firing.{FiringDefinition}
use Rattle.plant_model.specs.Plant.{PlantDefinition}
use Rattle.plant_model.specs.Runs.{IsRun, fold}
use Rattle.plant_model.specs.Step.{initial_states}
use Rattle.plant_model.proofs.OnRuns.{run-folds, runs-join}
use Rattle.crash_explorer.specs.Judging.{IsRight, IsRightStop, IsRunOf, state_after}
use Rattle.plant_model.specs.Chosen.{fired_of}
use Rattle.plant_model.specs.declared.fired.Firing.{Firing}
use Rattle.crash_explorer.specs.Running.{IsAt, IsEnded, IsFirstBoot, IsLived, IsMadeUntil, device_in, fired_in, is_formatting}
use Rattle.crash_explorer.specs.declared.running.Ended.{Ended}
use Rattle.crash_explorer.specs.declared.running.Stage.{Stage}
use Rattle.crash_explorer.specs.declared.running.Stage.TheVariants.{Running}

module _ (plant : PlantDefinition) (digest : List ℕ) where
  -- the first state, before anything was fired
  abbrev pub StandsForFirst : ℕ → List Cell → Type 0
  StandsForFirst bytes cells = StandsFor plant digest bytes cells (initial_states plant) 0

  -- what stands for it is right where nothing was fired
  pub first-right : (bytes : ℕ) (formatting : Bool) (cells : List Cell) → StandsForFirst bytes cells → IsRightStop plant digest bytes [] [] formatting cells
  first-right bytes formatting cells stands = inl (0, omega arith, stands)

  -- so is a run that ended before anything was fired, where what a stop leaves of its device is
  pub ended-first : (bytes : ℕ) (e : Ended) (stage : Stage) → e.fired.items ≡ [] → e.acked ≡ 0 → e.stage ≡ stage → size_of (device_in e) ≡ bytes
      → ((cells : List Cell) → MayBe (BODY + 1) (device_in e) cells → IsRightStop plant digest bytes [] [] (is_formatting stage) cells) → IsEnded plant digest bytes e
  ended-first bytes e stage none zero at size right = record {
    run = subst (λ (l : List Firing). IsRunOf plant (map fired_of l)) (sym none) refl;
    acked = omega (arith, zero);
    size = size;
    stops = λ cells may.
        subst (λ (n : ℕ). IsRightStop plant digest bytes (take n (map fired_of e.fired.items)) (drop n (map fired_of e.fired.items)) (is_formatting e.stage) cells) (sym zero)
        (subst (λ (l : List Firing). IsRightStop plant digest bytes (take 0 (map fired_of l)) (drop 0 (map fired_of l)) (is_formatting e.stage) cells) (sym none)
        (subst (λ (s : Stage). IsRightStop plant digest bytes [] [] (is_formatting s) cells) (sym at) (right cells may)));
  }

  -- ---- while the device was formatted

  -- a device with an empty first cell reads as never formatted
  unformatted : (bytes : ℕ) (cells : List Cell) → nat_lt bytes (BODY + 1) ≡ false → cell cells identity_cell ≡ None → fault_of plant digest bytes cells ≡ Some NotFormatted
  unformatted bytes cells large empty = rw (large, empty) refl

  -- the first cell of a device that was all zeros, at which nothing is pending, is empty
  zeros-empty : (bytes : ℕ) (cells : List Cell) → (BODY + 1) ≤ bytes → MayBe (BODY + 1) (fresh (replicate bytes 0)) cells → cell cells identity_cell ≡ None
  zeros-empty bytes cells large may =
      let image : List ℕ = may.image in
      let zeros : List ℕ = replicate bytes 0 in
      let long : length image ≡ bytes = may.left.size ∙ length-replicate bytes 0 in
      let bytes_long : length zeros ≡ bytes = length-replicate bytes 0 in
      let settled : get_or (replicate (length zeros) false) 0 false ≡ false = get_or-replicate (length zeros) 0 false false (omega arith) in
      let zero : get_or image 0 0 ≡ 0 = may.left.others 0 settled ∙ get_or-replicate bytes 0 0 0 (omega arith) in
      let inside : 0 < cells_in (BODY + 1) (length image) = omega arith in
      ap (λ (l : List Cell). cell l 0) may.same
      ∙ cell-cells_of (BODY + 1) image 0 inside
      ∙ ap (λ (g : ℕ). cond (eqb g 165) (Some (body_at (BODY + 1) image 0)) None) zero

  -- what a stop leaves of a device that was all zeros and is formatted
  pub formatting-right : (ring : ℕ) (s : DiskState) (cells : List Cell) → s ≡ fresh (replicate (formatted_size plant ring) 0) → IsFormatting plant digest s cells
      → IsRightStop plant digest (formatted_size plant ring) [] [] true cells
  formatting-right ring s cells zeros is =
      let bytes : ℕ = formatted_size plant ring in
      let size : size_of s ≡ bytes = ap size_of zeros ∙ length-replicate bytes 0 in
      let large : (BODY + 1) ≤ bytes = omega arith in
      let small : nat_lt bytes (BODY + 1) ≡ false = le-ltb bytes (BODY + 1) large in
      ⊎_elim
      (λ may. inr (refl, unformatted bytes cells small (zeros-empty bytes cells large (subst (λ (d : DiskState). MayBe (BODY + 1) d cells) zeros may))))
      (λ made. ⊎_elim (λ empty. inr (refl, unformatted bytes cells small empty)) (λ stands. first-right bytes true cells (subst (λ (n : ℕ). StandsForFirst n cells) size stands)) made)
      is

  -- ---- while the plant was booted

  -- what a stop leaves of a formatted device while it is booted
  pub booting-right : (s : DiskState) (cells : List Cell) → ((left : List Cell) → MayBe (BODY + 1) s left → StandsForFirst (size_of s) left) → IsBooting plant digest s cells → StandsForFirst (size_of s) cells
  booting-right s cells formatted is = ⊎_elim (λ may. formatted cells may)
      (λ alike.
      let seen = formatted (seen_cells (BODY + 1) s) (seen_may (BODY + 1) s) in
      let states : alike.states ≡ initial_states plant = sym alike.stood.states_are ∙ seen.states_are in
      let number : alike.number ≡ 0 = sym alike.stood.number_is ∙ seen.number_is in
      record { sound = alike.stand.sound; states_are = alike.stand.states_are ∙ states; number_is = alike.stand.number_is ∙ number })
      is

  -- the plant that is booted is where its device stands
  pub booted-at : (bytes : ℕ) (behind : List FiringDefinition) (cells : List Cell) (v : View) → IsRunOf plant behind → IsBooted plant digest bytes cells v
      → StandsFor plant digest bytes cells (state_after plant behind) (length behind) → IsAt plant behind v
  booted-at bytes behind cells v run booted stands = record {
    run = run;
    acked = booted.acked ∙ stands.states_are;
    present = booted.present ∙ booted.acked ∙ stands.states_are;
    tail = booted.tail;
    number = booted.number ∙ stands.number_is;
  }

  -- ---- while the plant ran

  module _ (bytes : ℕ) (behind : List FiringDefinition) (v w : View) (hs : List Happened) (at : IsAt plant behind v) (run : IsEventRun plant v hs w) where
    abbrev fired : List FiringDefinition
    fired = behind ++ all_fired hs

    leads : v.present ≡ fold plant v.acked v.tail
    leads = at.present ∙ sym at.acked ∙ ap (λ (cs : List FiringDefinition). fold plant v.acked cs) (sym at.tail)

    acked : IsAckedOf plant v (all_fired hs) w
    acked = events-ack plant hs v w leads run

    all-of : v.tail ++ all_fired hs ≡ all_fired hs
    all-of = ap (λ (cs : List FiringDefinition). cs ++ all_fired hs) at.tail

    grown : length behind + (w.number - v.number) ≡ w.number
    grown = omega (arith, at.number, acked.grows)

    -- what was fired is a run
    pub is-run : IsRunOf plant fired
    is-run =
        let more : IsRun plant (state_after plant behind) (all_fired hs) w.present = subst (λ (s : List Local). IsRun plant s (all_fired hs) w.present) at.present (events-run plant hs v w run) in
        let whole : IsRun plant (initial_states plant) fired w.present = runs-join plant behind (all_fired hs) (initial_states plant) (state_after plant behind) w.present at.run more in
        subst (λ (s : List Local). IsRun plant (initial_states plant) fired s) (sym (run-folds plant fired (initial_states plant) w.present whole)) whole

    -- of which no more is acknowledged
    pub within : w.number ≤ length fired
    within = omega (arith, acked.within, grown, length-append behind (all_fired hs), ap (λ (cs : List FiringDefinition). length cs) all-of)

    acked-is : w.acked ≡ state_after plant (take w.number fired)
    acked-is =
        let n : ℕ = w.number - v.number in
        acked.acked
        ∙ ap (λ (cs : List FiringDefinition). fold plant v.acked (take n cs)) all-of
        ∙ ap (λ (s : List Local). fold plant s (take n (all_fired hs))) at.acked
        ∙ sym (fold-append plant behind (take n (all_fired hs)) (initial_states plant))
        ∙ ap (λ (cs : List FiringDefinition). state_after plant cs) (sym (take-append-add behind (all_fired hs) n))
        ∙ ap (λ (m : ℕ). state_after plant (take m fired)) grown

    tail-is : w.tail ≡ drop w.number fired
    tail-is =
        let n : ℕ = w.number - v.number in
        acked.tail
        ∙ ap (λ (cs : List FiringDefinition). drop n cs) all-of
        ∙ sym (drop-append-add behind (all_fired hs) n)
        ∙ ap (λ (m : ℕ). drop m fired) grown

    -- and what a stop leaves is right
    pub running-right : (cells : List Cell) → StandsForFront plant digest bytes w cells → IsRight plant digest bytes (take w.number fired) (drop w.number fired) cells
    running-right cells stands =
        let k : ℕ = stands.0 in
        let long : length (take w.number fired) ≡ w.number = length-take-le w.number fired within in
        let states : fold plant w.acked (take k w.tail) ≡ state_after plant (take w.number fired ++ take k (drop w.number fired)) =
        ap (λ (s : List Local). fold plant s (take k w.tail)) acked-is
        ∙ ap (λ (cs : List FiringDefinition). fold plant (state_after plant (take w.number fired)) (take k cs)) tail-is
        ∙ sym (fold-append plant (take w.number fired) (take k (drop w.number fired)) (initial_states plant)) in (
          k,
          subst (λ (cs : List FiringDefinition). k ≤ length cs) tail-is stands.1,
          record {
            sound = stands.2.sound;
            states_are = stands.2.states_are ∙ states;
            number_is = stands.2.number_is ∙ ap (λ (n : ℕ). n + k) (sym long);
          },
        )

-- a run that ended before anything was fired made nothing
pub made-none : (plant : PlantDefinition) (digest : List ℕ) (bytes : ℕ) (events : List Event) (e : Ended) (stage : Stage) → e.fired.items ≡ [] → e.stage ≡ stage → IsMadeUntil plant digest bytes events stage [] 0 (device_in e)
    → e.acked ≡ 0 → IsMadeUntil plant digest bytes events e.stage (fired_in e) e.acked (device_in e)
made-none plant digest bytes events e stage none at made zero =
    subst (λ (n : ℕ). IsMadeUntil plant digest bytes events e.stage (map fired_of e.fired.items) n (device_in e)) (sym zero)
    (subst (λ (l : List Firing). IsMadeUntil plant digest bytes events e.stage (map fired_of l) 0 (device_in e)) (sym none)
    (subst (λ (s : Stage). IsMadeUntil plant digest bytes events s [] 0 (device_in e)) (sym at) made))

-- a run of a plant that was booted from a formatted device made what it was asked for
pub made-running : {E : Type 0} (plant : PlantDefinition) (digest : List ℕ) (bytes : ℕ) (events : List Event) (opened : View) (r : Result Ended E) → IsFirstBoot plant digest bytes opened
    → IfOk r (λ (e : Ended). IsLived plant digest events opened [] (fired_in e) e.acked (device_in e)) → IfOk r (λ (e : Ended). e.stage ≡ Running)
    → IfOk r (λ (e : Ended). IsMadeUntil plant digest bytes events e.stage (fired_in e) e.acked (device_in e))
made-running plant digest bytes events opened (Ok e) first lived stage =
    subst (λ (s : Stage). IsMadeUntil plant digest bytes events s (fired_in e) e.acked (device_in e)) (sym stage) (opened, first, lived)
made-running plant digest bytes events opened (Err fault) first lived stage = tt
