-- The run of a seed, by what a run by picks comes to.
use Rattle.std.proofs.Common.{◌≡◌, ◌≢◌, ℕ, subst, List}
use Rattle.std.specs.Prelude.{Bool, Option, Some, Result, Err, IfOk, IfSome}
use Rattle.std.specs.Io.KnownBytes.{Appends}
use Rattle.petri_atom.specs.Local.{Local}
use Rattle.plant_model.specs.Plant.{PlantDefinition}
use Rattle.plant_model.specs.Step.{initial_states}
use Rattle.run_text.specs.History.{History, told_after}
use Rattle.run_text.specs.Picks.{PickDefinition}
use Rattle.run_text.specs.Ran.{IfRan, OnRan}
use Rattle.run_text.specs.Runs.{chosen, refusal_in}
use Rattle.run_text.specs.Steps.{printed_from}
use Rattle.run_text.specs.Watched.{Held, picks_until, reached_by}
use Rattle.run_text.specs.declared.fault.TraceFault.{TraceFault}
use Rattle.run_text.specs.declared.fault.TraceFault.TheVariants.{Memory}
use Rattle.run_text.specs.declared.watching.Reached.{Reached}
use Rattle.run_summary.specs.Totals.{Totals, totals_of}
use Rattle.run_tallies.specs.Lines.{tally_parts}
use Rattle.run_tallies.specs.Made.{IsMade}
use Rattle.run_tallies.proofs.Following.{if-these, ok-follows, ran-follows}

-- what holds of a plant in a state, with picks, holds of what these are known to be
moved : (P : PlantDefinition → List Local → List PickDefinition → Type 0) {plant known_plant : PlantDefinition} {states known_states : List Local} {picks known_picks : List PickDefinition}
    → plant ≡ known_plant → states ≡ known_states → picks ≡ known_picks → P plant states picks → P known_plant known_states known_picks
moved P {plant} {known_plant} {states} {known_states} {picks} {known_picks} plant_is states_is picks_are holds =
    subst (P known_plant known_states) picks_are (subst (λ s. P known_plant s picks) states_is (subst (λ p. P p states picks) plant_is holds))

-- a run by random picks from the first states on that is watched
pub made-by : (several : Bool) (held : Held) (seed : ℕ) (was now : Totals) (plant here : PlantDefinition) (states : List Local) (random drawn : List PickDefinition) (known : Option (List PickDefinition))
    (ended : Result (Option Reached) TraceFault) (before after : Option (List ℕ))
    → here ≡ plant → states ≡ initial_states plant → drawn ≡ random → known ≡ Some (picks_until held here states 1 drawn)
    → IfRan ended (λ refusal. IfSome known (λ left. refusal ≡ refusal_in here states 1 left))
    → IfOk ended (λ reached. IfSome known (λ left. reached ≡ reached_by held here states left))
    → OnRan ended (IfSome known (λ left. Appends before after (printed_from (tally_parts (Some seed) several held) here states 1 left)))
    → ((told : History) → was ≡ totals_of here told → OnRan ended (IfSome known (λ left. now ≡ totals_of here (told_after here states (chosen here states 1 left) told))))
    → ended ≢ Err Memory
    → IsMade several held plant (picks_until held plant (initial_states plant) 1 random) seed was now ended before after
made-by several held seed was now plant here states random drawn known ended before after plant_is states_are drawn_is known_is refusal reached printed counted no_memory = record {
  refusal = moved (λ p s r. IfRan ended (λ refusal. refusal ≡ refusal_in p s 1 (picks_until held p s 1 r))) plant_is states_are drawn_is
      (ran-follows ended _ (λ refusal. refusal ≡ refusal_in here states 1 (picks_until held here states 1 drawn))
      (λ refusal holds. if-these (λ left. refusal ≡ refusal_in here states 1 left) known_is holds) refusal);
  reached = moved (λ p s r. IfOk ended (λ reached. reached ≡ reached_by held p s (picks_until held p s 1 r))) plant_is states_are drawn_is
      (ok-follows ended _ (λ reached. reached ≡ reached_by held here states (picks_until held here states 1 drawn))
      (λ reached holds. if-these (λ left. reached ≡ reached_by held here states left) known_is holds) reached);
  printed = moved (λ p s r. OnRan ended (Appends before after (printed_from (tally_parts (Some seed) several held) p s 1 (picks_until held p s 1 r)))) plant_is states_are drawn_is
      (ran-follows ended _ (λ refusal. Appends before after (printed_from (tally_parts (Some seed) several held) here states 1 (picks_until held here states 1 drawn)))
      (λ refusal holds. if-these (λ left. Appends before after (printed_from (tally_parts (Some seed) several held) here states 1 left)) known_is holds) printed);
  counted = moved (λ p s r. (told : History) → was ≡ totals_of p told → OnRan ended (now ≡ totals_of p (told_after p s (chosen p s 1 (picks_until held p s 1 r)) told))) plant_is states_are drawn_is
      (λ told is. ran-follows ended _ (λ refusal. now ≡ totals_of here (told_after here states (chosen here states 1 (picks_until held here states 1 drawn)) told))
      (λ refusal holds. if-these (λ left. now ≡ totals_of here (told_after here states (chosen here states 1 left) told)) known_is holds) (counted told is));
  no_memory = no_memory;
}
