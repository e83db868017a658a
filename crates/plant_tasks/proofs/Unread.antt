-- A task whose words can't be read.
use Rattle.std.proofs.Common.{◌≡◌, ◌≢◌, ◌<◌, ◌∙◌, ℕ, sym, subst, List, drop, get_or, length, Option, Some, None, Result, Ok, Err}
use Rattle.std.specs.Option.{option_or}
use Rattle.std.proofs.lemmas.List.{at_drop_more}
use Rattle.plant_model.specs.Plant.{PlantDefinition}
use Rattle.run_watches.specs.Watches.{WatchTree, watch_in}
use Rattle.run_watches.specs.declared.fault.WatchFault.{WatchFault}
use Rattle.command_line.specs.declared.request.WatchWords.{WatchWords}
use Rattle.plant_tasks.specs.Ending.{IfRead, IsSilent}
use Rattle.plant_tasks.specs.Watches.{IsBadAt, IsFirstBad, bad_from, bad_or, first_bad, watches_in}
use Rattle.plant_tasks.specs.declared.ending.PlantEnding.{PlantEnding}
use Rattle.plant_tasks.specs.declared.ending.PlantEnding.TheVariants as ending

-- what is bad alone is so whatever comes later
bad_before : (place : ℕ) (watch : Result WatchTree WatchFault) (later : Option PlantEnding) (ending : PlantEnding) → bad_or place watch None ≡ Some ending → bad_or place watch later ≡ Some ending
bad_before place (Ok watch) later ending bad = absurd (cc)
bad_before place (Err fault) later ending bad = bad

-- where the first bad one is among those from a place on, the one at this place is the first if it is bad
pub first_here : (plant : PlantDefinition) (words : List WatchWords) (at place : ℕ) (other : WatchWords) (found : PlantEnding) → at ≡ place → place < length words
    → bad_from place (watches_in plant (drop place words)) ≡ first_bad plant words → IsBadAt plant at (get_or words place other).text.now found → IsFirstBad plant words found
first_here plant words at place other found here within from bad no_memory =
    sym from ∙ at_drop_more (λ left. bad_from place (watches_in plant left)) words place other within ∙
    bad_before place _ _ found (subst (λ n. bad_or n (watch_in plant (get_or words place other).text.now) None ≡ Some found) here (bad no_memory))

-- a silent ending tells what it tells of the words
pub told_bad : (A : Type 0) (found : PlantEnding) (bad : Option PlantEnding) → IsSilent found → (found ≢ ending.Memory → bad ≡ Some found) → IfRead {A = A} (Err found) (λ told. told ≡ bad)
told_bad A (ending.NoAtom place) bad silent is = tt
told_bad A (ending.BadWatch place fault) bad silent is = sym (is (λ same. cc))
told_bad A (ending.NoConnector place) bad silent is = sym (is (λ same. cc))
told_bad A ending.Memory bad silent is = tt
told_bad A ending.Usage bad silent is = absurd silent
told_bad A (ending.Plant fault) bad silent is = absurd silent
told_bad A ending.Unopened bad silent is = absurd silent
told_bad A ending.InputUnread bad silent is = absurd silent
told_bad A ending.LinesUnread bad silent is = absurd silent
told_bad A (ending.Refused refusal) bad silent is = absurd silent
told_bad A ending.Unsaved bad silent is = absurd silent
told_bad A ending.Held bad silent is = absurd silent
told_bad A ending.Unwritten bad silent is = absurd silent

-- where nothing is bad that stands before, an ending tells the same of both
pub told_behind : (A B : Type 0) (found : PlantEnding) (first bad : Option PlantEnding) → None ≡ first → IsSilent found → IfRead {A = A} (Err found) (λ told. told ≡ bad)
    → IfRead {A = B} (Err found) (λ told. told ≡ option_or first bad)
told_behind A B (ending.NoAtom place) first bad none silent is = tt
told_behind A B (ending.NoConnector place) first bad none silent is = subst (λ one. Some (ending.NoConnector place) ≡ option_or one bad) none is
told_behind A B (ending.BadWatch place fault) first bad none silent is = subst (λ one. Some (ending.BadWatch place fault) ≡ option_or one bad) none is
told_behind A B ending.Memory first bad none silent is = tt
told_behind A B ending.Usage first bad none silent is = absurd silent
told_behind A B (ending.Plant fault) first bad none silent is = absurd silent
told_behind A B ending.Unopened first bad none silent is = absurd silent
told_behind A B ending.InputUnread first bad none silent is = absurd silent
told_behind A B ending.LinesUnread first bad none silent is = absurd silent
told_behind A B (ending.Refused refusal) first bad none silent is = absurd silent
told_behind A B ending.Unsaved first bad none silent is = absurd silent
told_behind A B ending.Held first bad none silent is = absurd silent
told_behind A B ending.Unwritten first bad none silent is = absurd silent
