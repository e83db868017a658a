-- What periods one after another come to.
use Rattle.std.proofs.Common.{◌≡◌, ℕ, ◌+◌, ◌-◌, ◌≤◌, refl, sym, ◌∙◌, ap, subst, List, [], ◌∷◌, ◌++◌, length, take, drop, arith}
use Rattle.std.proofs.lemmas.List.{length-append, length-take-le, take-append-drop, take-take}
use Rattle.disk_model.specs.Cells.{Cell, MayBe}
use Rattle.disk_model.specs.DiskState.{DiskState, size_of}
use Rattle.disk_model.specs.declared.cells.TheConstants.{BODY}
use Rattle.petri_atom.specs.Local.{Local}
use Rattle.plant_model.specs.Firing.{FiringDefinition}
use Rattle.plant_model.specs.Plant.{PlantDefinition}
use Rattle.plant_model.specs.Runs.{IsRun, fold}
use Rattle.plant_model.proofs.OnRuns.{runs-cut, runs-join}
use Rattle.plant_image.specs.Contents.{last_number}
use Rattle.plant_image.specs.Standing.{StandsFor}
use Rattle.plant_core.specs.Events.{IsAckedOf, all_fired}
use Rattle.plant_core.specs.Stops.{number_held}
use Rattle.plant_core.proofs.EventByEvent.{front-since}
use Rattle.plant_core.proofs.EventRuns.{events-ack, events-run, fold-append}
use Rattle.recovery.specs.Booting.{StandAlike}
use Rattle.recovery.specs.Lifetimes.{HoldAcknowledged, IsLifetime, IsPeriod, Period, acked_in, all_kept, cut_short, kept_in, opening}
use Rattle.recovery.specs.Migrating.{IsMigrated}
use Rattle.recovery.specs.OldImage.{OldStandsFor, old_contents}

module _ (plant : PlantDefinition) (digest : List ℕ) (bytes : ℕ) where
  -- ---- one period

  module _ (cells : List Cell) (s : Period) (period : IsPeriod plant digest bytes cells s) where
    abbrev fired : List FiringDefinition
    fired = all_fired s.happened

    leads : s.opened.present ≡ fold plant s.opened.acked s.opened.tail
    leads = period.booted.present ∙ ap (fold plant s.opened.acked) (sym period.booted.tail)

    acked : IsAckedOf plant s.opened fired s.closed
    acked = events-ack plant s.happened s.opened s.closed leads period.run

    -- with nothing to acknowledge at the beginning, what is not acknowledged at the end was fired in the period
    all-of : s.opened.tail ++ fired ≡ fired
    all-of = ap (λ cs. cs ++ fired) period.booted.tail

    acked-within : s.closed.number - s.opened.number ≤ length fired
    acked-within = subst (λ cs. s.closed.number - s.opened.number ≤ length cs) all-of acked.within

    -- what the stop left, by its length
    front : (n : ℕ) × (n ≤ length fired) × StandsFor plant digest bytes s.left (fold plant s.opened.acked (take n fired)) (s.opened.number + n)
    front = subst (λ cs. (n : ℕ) × (n ≤ length cs) × StandsFor plant digest bytes s.left (fold plant s.opened.acked (take n cs)) (s.opened.number + n)) all-of
        (front-since plant digest bytes s.opened fired s.closed s.left acked period.stopped)

    grown : number_held plant s.left - s.opened.number ≡ front.0
    grown = omega (arith, front.2.number_is)

    kept-long : length (kept_in plant s) ≡ front.0
    kept-long = length-take-le (number_held plant s.left - s.opened.number) fired (omega (arith, grown, front.1)) ∙ grown

    -- it is no less than what was acknowledged
    pub holds : take (length (acked_in s)) (kept_in plant s) ≡ acked_in s
    holds =
        let a : ℕ = s.closed.number - s.opened.number in
        let more : a ≤ number_held plant s.left - s.opened.number = omega (arith, period.stopped.2.number_is) in
        ap (λ (n : ℕ). take n (kept_in plant s)) (length-take-le a fired acked-within) ∙ take-take a (number_held plant s.left - s.opened.number) fired more

    module _ (states : List Local) (number : ℕ) (stood : StandsFor plant digest bytes cells states number) where
      begins : s.opened.acked ≡ states
      begins = period.booted.acked ∙ stood.states_are

      numbered : s.opened.number ≡ number
      numbered = period.booted.number ∙ stood.number_is

      pub goes-on : StandsFor plant digest bytes s.left (fold plant states (kept_in plant s)) (number + length (kept_in plant s))
      goes-on =
          subst (λ (n : ℕ). StandsFor plant digest bytes s.left (fold plant states (kept_in plant s)) n) (omega (arith, numbered, kept-long))
          (subst (λ ss. StandsFor plant digest bytes s.left (fold plant ss (kept_in plant s)) (s.opened.number + front.0)) begins
          (subst (λ (n : ℕ). StandsFor plant digest bytes s.left (fold plant s.opened.acked (take n fired)) (s.opened.number + front.0)) (sym grown) front.2))

      pub runs-on : IsRun plant states (kept_in plant s) (fold plant states (kept_in plant s))
      runs-on =
          let k : ℕ = number_held plant s.left - s.opened.number in
          let whole : IsRun plant states fired s.closed.present =
          subst (λ ss. IsRun plant ss fired s.closed.present) (period.booted.present ∙ begins) (events-run plant s.happened s.opened s.closed period.run) in
          (runs-cut plant (take k fired) (drop k fired) states s.closed.present (subst (λ cs. IsRun plant states cs s.closed.present) (sym (take-append-drop k fired)) whole)).0

  -- ---- all of them

  pub life-stands : (periods : List Period) (first last : List Cell) (states : List Local) (number : ℕ) → StandsFor plant digest bytes first states number → IsLifetime plant digest bytes first periods last
      → StandsFor plant digest bytes last (fold plant states (all_kept plant periods)) (number + length (all_kept plant periods))
  life-stands [] first last states number stood life =
      subst (λ cells. StandsFor plant digest bytes cells states (number + 0)) (sym life)
      (subst (λ (n : ℕ). StandsFor plant digest bytes first states n) (omega arith) stood)
  life-stands (s ∷ rest) first last states number stood life =
      let kept : List FiringDefinition = kept_in plant s in
      let more : List FiringDefinition = all_kept plant rest in
      subst (λ (n : ℕ). StandsFor plant digest bytes last (fold plant states (kept ++ more)) n) (omega (arith, length-append kept more))
      (subst (λ ss. StandsFor plant digest bytes last ss (number + length kept + length more)) (sym (fold-append plant kept more states))
      (life-stands rest s.left last (fold plant states kept) (number + length kept) (goes-on first s life.0 states number stood) life.1))

  pub life-runs : (periods : List Period) (first last : List Cell) (states : List Local) (number : ℕ) → StandsFor plant digest bytes first states number → IsLifetime plant digest bytes first periods last
      → IsRun plant states (all_kept plant periods) (fold plant states (all_kept plant periods))
  life-runs [] first last states number stood life = refl
  life-runs (s ∷ rest) first last states number stood life =
      let kept : List FiringDefinition = kept_in plant s in
      let more : List FiringDefinition = all_kept plant rest in
      subst (IsRun plant states (kept ++ more)) (sym (fold-append plant kept more states))
      (runs-join plant kept more states (fold plant states kept) (fold plant (fold plant states kept) more)
      (runs-on first s life.0 states number stood)
      (life-runs rest s.left last (fold plant states kept) (number + length kept) (goes-on first s life.0 states number stood) life.1))

  pub life-holds : (periods : List Period) (first last : List Cell) → IsLifetime plant digest bytes first periods last → HoldAcknowledged plant periods
  life-holds [] first last life = tt
  life-holds (s ∷ rest) first last life = (holds first s life.0, life-holds rest s.left last life.1)

  -- ---- from an image of the first layout

  module _ (ring : ℕ) (old first : List Cell) (made : DiskState) (brought : IsMigrated plant digest ring (old_contents plant old) made) (may : MayBe (BODY + 1) made first) where
    -- whatever a stop leaves of the device that it was brought over to stands for what it stood for
    pub brought-stands : (states : List Local) (number : ℕ) → OldStandsFor plant digest bytes old states number → StandsFor plant digest (size_of made) first states number
    brought-stands states number stood =
        subst (λ (n : ℕ). StandsFor plant digest (size_of made) first states n) stood.number_is
        (subst (λ ss. StandsFor plant digest (size_of made) first ss (last_number (old_contents plant old))) stood.states_are (brought.stands first may))

  -- ---- a run in front

  module _ (first last : List Cell) (before : List FiringDefinition) (periods : List Period) (states : List Local) (stood : StandsFor plant digest bytes first (fold plant states before) (length before))
      (life : IsLifetime plant digest bytes first periods last) where
    abbrev more : List FiringDefinition
    more = all_kept plant periods

    pub front-stands : StandsFor plant digest bytes last (fold plant states (before ++ more)) (length (before ++ more))
    front-stands =
        subst (λ (n : ℕ). StandsFor plant digest bytes last (fold plant states (before ++ more)) n) (sym (length-append before more))
        (subst (λ ss. StandsFor plant digest bytes last ss (length before + length more)) (sym (fold-append plant before more states))
        (life-stands periods first last (fold plant states before) (length before) stood life))

    pub front-runs : IsRun plant states before (fold plant states before) → IsRun plant states (before ++ more) (fold plant states (before ++ more))
    front-runs run =
        subst (IsRun plant states (before ++ more)) (sym (fold-append plant before more states))
        (runs-join plant before more states (fold plant states before) (fold plant (fold plant states before) more) run
        (life-runs periods first last (fold plant states before) (length before) stood life))

  -- ---- a boot that is cut short

  pub short-period : (cells left : List Cell) → StandAlike plant digest bytes cells left → IsPeriod plant digest bytes cells (cut_short plant cells left)
  short-period cells left alike = record {
    booted = record {
      sound = alike.stood.sound;
      acked = refl;
      number = refl;
      acked_counts = λ atom. refl;
      tail = refl;
      present = refl;
      counts = refl;
      base = refl;
      ring = refl;
      marks = refl;
      saved = refl;
      kept = refl;
      away = refl;
      broken = refl;
    };
    run = refl;
    stopped = (
      0,
      omega arith,
      subst (λ (n : ℕ). StandsFor plant digest bytes left (opening plant cells).acked n) (sym alike.stood.number_is ∙ omega arith)
          (subst (λ ss. StandsFor plant digest bytes left ss alike.number) (sym alike.stood.states_are) alike.stand),
    );
  }
