-- Trials that are made one after another.
use Rattle.std.proofs.Common.{◌≡◌, ◌+◌, ◌*◌, ◌/◌, ◌%◌, ◌<◌, ◌≤◌, ◌∙◌, ap, subst, sym, arith, ℕ, Bool, true, false, List, [], ◌∷◌, ◌++◌, length, Option, Some, Result, Ok, Err, OnOk}
use Rattle.std.specs.Prelude.{flat_map, if◌then◌else◌, slice_get}
use Rattle.std.specs.Io.KnownBytes.{Appends}
use Rattle.std.proofs.KnownBytes.{Appends-trans}
use Rattle.std.proofs.lemmas.Grind.{flat_map-append}
use Rattle.std.proofs.lemmas.List.{append-nil}
use Rattle.disk_model.specs.declared.change.Tear.{Tear}
use Rattle.plant_core.specs.declared.events.Event.{Event}
use Rattle.plant_model.specs.Plant.{PlantDefinition}
use Rattle.plant_model.specs.System.{digest_of, plant_of}
use Rattle.plant_model.specs.declared.system.System.{System}
use Rattle.crash_explorer.specs.Exploring.{IsExplorerOf, IsNextTrial, IsTrial, stops_of, trials_left}
use Rattle.crash_explorer.specs.declared.explorer.Explorer.{Explorer}
use Rattle.crash_explorer.specs.declared.explorer.TheConstants.{TEARS}
use Rattle.crash_explorer.specs.declared.explorer.Trial.{Trial}
use Rattle.image_commands.specs.Trials.{AreTrialsFrom, IsTrialAt, listed_line, wrong_of}

-- one more trial after those that were made
pub trials_and_next : (plant : PlantDefinition) (digest : List ℕ) (ring : ℕ) (events : List Event) (number : ℕ) (trials : List Trial) (t : Trial) →
    AreTrialsFrom plant digest ring events number trials → IsTrialAt plant digest ring events (number + length trials) t → AreTrialsFrom plant digest ring events number (trials ++ t ∷ [])
trials_and_next plant digest ring events number [] t made next =
    let none : List Trial = [] in
    let place : number + length none ≡ number = omega arith in
    (subst (λ (n : ℕ). IsTrialAt plant digest ring events n t) place next, tt)
trials_and_next plant digest ring events number (first ∷ trials) t made next =
    let place : number + length (first ∷ trials) ≡ (number + 1) + length trials = omega arith in
    (made.0, trials_and_next plant digest ring events (number + 1) trials t made.1 (subst (λ (n : ℕ). IsTrialAt plant digest ring events n t) place next))

-- the next trial of an explorer is the one with the number of those that were made
pub next_is_at : (system : System) (ring : ℕ) (events : List Event) (e : Explorer) (number : ℕ) (t : Trial) →
    IsExplorerOf system ring events e → number + trials_left e ≡ 4 * stops_of e → 0 < trials_left e → IsNextTrial e t →
    IsTrialAt (plant_of system) (digest_of system) ring events number t
next_is_at system ring events e number t is left more next =
    let place : number ≡ 4 * e.stop + e.tear = omega (arith, e.torn, e.within) in
    let stop : e.stop ≡ number / 4 = omega (arith, e.torn) in
    let tear : e.tear ≡ number % 4 = omega (arith, e.torn) in
    let torn : Tear = next.0 in
    let by_system : IsTrial (plant_of system) (digest_of system) e.ring e.events.now (e.stop + 1) torn t =
    subst (λ (s : System). IsTrial (plant_of s) (digest_of s) e.ring e.events.now (e.stop + 1) torn t) is.of_system next.2 in
    let by_ring : IsTrial (plant_of system) (digest_of system) ring e.events.now (e.stop + 1) torn t =
    subst (λ (r : ℕ). IsTrial (plant_of system) (digest_of system) r e.events.now (e.stop + 1) torn t) is.of_ring by_system in
    let by_events : IsTrial (plant_of system) (digest_of system) ring events (e.stop + 1) torn t =
    subst (λ (asked : List Event). IsTrial (plant_of system) (digest_of system) ring asked (e.stop + 1) torn t) is.of_events by_ring in (
      torn,
      subst (λ (n : ℕ). slice_get TEARS n ≡ Some torn) tear next.1,
      subst (λ (n : ℕ). IsTrial (plant_of system) (digest_of system) ring events (n + 1) torn t) stop by_events,
    )

-- the line of one more trial after those that were printed
pub lines_and_next : (a b c : Option (List ℕ)) (list : Bool) (trials : List Trial) (t : Trial) →
    Appends a b (flat_map (listed_line list) trials) → Appends b c (listed_line list t) → Appends a c (flat_map (listed_line list) (trials ++ t ∷ []))
lines_and_next a b c list trials t printed next =
    let both : Appends a c (flat_map (listed_line list) trials ++ listed_line list t) = Appends-trans a b c (flat_map (listed_line list) trials) (listed_line list t) printed next in
    let one : flat_map (listed_line list) (t ∷ []) ≡ listed_line list t = append-nil (listed_line list t) in
    let same : flat_map (listed_line list) trials ++ listed_line list t ≡ flat_map (listed_line list) (trials ++ t ∷ []) =
    ap (λ (l : List ℕ). flat_map (listed_line list) trials ++ l) (sym one) ∙ sym (flat_map-append (listed_line list) trials (t ∷ [])) in
    subst (λ (l : List ℕ). Appends a c l) same both

-- what is appended last, if it is
pub appended_last : {T E : Type 0} (r : Result T E) (a b c : Option (List ℕ)) (front last : List ℕ) → Appends a b front → OnOk r (Appends b c last) → OnOk r (Appends a c (front ++ last))
appended_last (Ok v) a b c front last one two = Appends-trans a b c front last one two
appended_last (Err e) a b c front last one two = tt

-- one for a trial at most
pub wrong_of-few : (t : Trial) → wrong_of t ≤ 1
wrong_of-few t = elim t.right as (λ (b : Bool). (if b then 0 else 1) ≤ 1) [ true ↦ omega arith | false ↦ omega arith ]
