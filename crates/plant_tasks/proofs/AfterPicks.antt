-- What is printed of the state after picks, and how a task then ends.
use Rattle.std.proofs.Common.{◌≡◌, ◌≢◌, ◌∙◌, ap, sym, refl, subst, append-nil, List, ℕ, [], false, Option, Some, None, Result, Ok, Err}
use Rattle.std.specs.Prelude.{IfErr, IfSome, OnOk, option_map}
use Rattle.std.specs.Option.{option_map_or}
use Rattle.std.specs.Io.KnownBytes.{Appends}
use Rattle.petri_atom.specs.Local.{Local}
use Rattle.plant_model.specs.Plant.{PlantDefinition}
use Rattle.plant_model.specs.Step.{initial_states}
use Rattle.blocked_text.specs.Blocked.{blocked_text}
use Rattle.run_text.specs.Picks.{PickDefinition}
use Rattle.run_text.specs.Ran.{IfRan}
use Rattle.run_text.specs.Runs.{refusal_of, state_after}
use Rattle.run_text.specs.declared.fault.Refusal.{Refusal}
use Rattle.run_text.specs.declared.fault.TraceFault.{TraceFault}
use Rattle.run_text.specs.declared.fault.TraceFault.TheVariants as trace
use Rattle.command_line.specs.declared.request.Picking.{Picking}
use Rattle.command_line.specs.declared.request.Task.{Task}
use Rattle.plant_tasks.specs.Done.{IsDone}
use Rattle.plant_tasks.specs.Ending.{IfDone, IfEnded, IfRead, IsOfTask, IsSilent, OnDone, task_ending}
use Rattle.plant_tasks.specs.Picked.{after_picks, picks_said, refusal_said}
use Rattle.plant_tasks.specs.Printed.{bad_by, held_by, plant_read, printed_of, refusal_by, saved_of, why_after}
use Rattle.plant_tasks.specs.declared.task.ReadPlant.{ReadPlant}
use Rattle.plant_tasks.specs.declared.ending.PlantEnding.{PlantEnding}
use Rattle.plant_tasks.specs.declared.ending.PlantEnding.TheVariants as ending
use Rattle.plant_tasks.proofs.Unwatched.{unwatched}

-- nothing is appended where nothing changes
nothing_appended : (a : Option (List ℕ)) → Appends a a []
nothing_appended None = tt
nothing_appended (Some xs) = sym (append-nil xs)

-- where no pick is refused, what is printed after them is the text
after_all : (plant : PlantDefinition) (picks : List PickDefinition) (text : List PickDefinition → List ℕ) (a b : Option (List ℕ)) →
    None ≡ refusal_of plant picks → Appends a b (text picks) → Appends a b (after_picks plant text picks)
after_all plant picks text a b none printed =
    subst (λ first. Appends a b (option_map_or (λ refusal. []) first (text picks))) none printed

-- where one is refused, it is nothing
after_refused : (plant : PlantDefinition) (picks : List PickDefinition) (text : List PickDefinition → List ℕ) (a b : Option (List ℕ)) (refusal : Refusal) →
    Some refusal ≡ refusal_of plant picks → b ≡ a → Appends a b (after_picks plant text picks)
after_refused plant picks text a b refusal first same =
    subst (λ first. Appends a b (option_map_or (λ refusal. []) first (text picks))) first
    (subst (λ now. Appends a now []) (sym same) (nothing_appended a))

-- what is printed of the state after the picks that are known, where one is refused and where none is
after_ran : (ran : Result (Unit {0}) TraceFault) (plant : PlantDefinition) (left : Option (List PickDefinition)) (text : List PickDefinition → List ℕ) (a b : Option (List ℕ)) →
    IfRan ran (λ refusal. IfSome left (λ picks. refusal ≡ refusal_of plant picks)) → OnOk ran (IfSome left (λ picks. Appends a b (text picks))) →
    ((fault : TraceFault) → ran ≡ Err fault → fault ≢ trace.Write → b ≡ a) → IfDone (task_ending ran) (λ refusal. IfSome (option_map (after_picks plant text) left) (Appends a b))
after_ran (Ok done) plant None text a b refused printed silent = tt
after_ran (Ok done) plant (Some picks) text a b refused printed silent = after_all plant picks text a b refused printed
after_ran (Err trace.Memory) plant left text a b refused printed silent = tt
after_ran (Err trace.Write) plant left text a b refused printed silent = tt
after_ran (Err trace.Read) plant left text a b refused printed silent = tt
after_ran (Err (trace.Refused refusal)) plant None text a b refused printed silent = tt
after_ran (Err (trace.Refused refusal)) plant (Some picks) text a b refused printed silent =
    after_refused plant picks text a b refusal refused (silent (trace.Refused refusal) refl (λ same. cc))

-- the same of the picks that were asked for
pub after_asked : (ended : Result (Unit {0}) PlantEnding) (ran : Result (Unit {0}) TraceFault) (plant : PlantDefinition) (left said : Option (List PickDefinition))
    (text : List PickDefinition → List ℕ) (a b : Option (List ℕ)) → ended ≡ task_ending ran → left ≡ said →
    IfRan ran (λ refusal. IfSome left (λ picks. refusal ≡ refusal_of plant picks)) → OnOk ran (IfSome left (λ picks. Appends a b (text picks))) →
    ((fault : TraceFault) → ran ≡ Err fault → fault ≢ trace.Write → b ≡ a) → OnDone ended (IfSome (option_map (after_picks plant text) said) (Appends a b))
after_asked ended ran plant left said text a b is same refused printed silent =
    subst (λ ended. OnDone ended (IfSome (option_map (after_picks plant text) said) (Appends a b))) (sym is)
    (subst (λ picks. OnDone (task_ending ran) (IfSome (option_map (after_picks plant text) picks) (Appends a b))) same
    (after_ran ran plant left text a b refused printed silent))

-- where the picks are known, a task ends by the refusal of its run
refused_ran : (ran : Result (Unit {0}) TraceFault) (plant : PlantDefinition) (left : Option (List PickDefinition)) →
    IfRan ran (λ refusal. IfSome left (λ picks. refusal ≡ refusal_of plant picks)) → IfDone (task_ending ran) (λ refusal. IfSome (option_map (refusal_of plant) left) (λ first. refusal ≡ first))
refused_ran (Ok done) plant None refused = tt
refused_ran (Ok done) plant (Some picks) refused = refused
refused_ran (Err trace.Memory) plant left refused = tt
refused_ran (Err trace.Write) plant left refused = tt
refused_ran (Err trace.Read) plant left refused = tt
refused_ran (Err (trace.Refused refusal)) plant None refused = tt
refused_ran (Err (trace.Refused refusal)) plant (Some picks) refused = refused

-- the same of the picks that were asked for
pub refused_asked : (ended : Result (Unit {0}) PlantEnding) (ran : Result (Unit {0}) TraceFault) (plant : PlantDefinition) (left said : Option (List PickDefinition)) →
    ended ≡ task_ending ran → left ≡ said → IfRan ran (λ refusal. IfSome left (λ picks. refusal ≡ refusal_of plant picks)) →
    IfDone ended (λ refusal. IfSome (option_map (refusal_of plant) said) (λ first. refusal ≡ first))
refused_asked ended ran plant left said is same refused =
    subst (λ ended. IfDone ended (λ refusal. IfSome (option_map (refusal_of plant) said) (λ first. refusal ≡ first))) (sym is)
    (subst (λ picks. IfDone (task_ending ran) (λ refusal. IfSome (option_map (refusal_of plant) picks) (λ first. refusal ≡ first))) same
    (refused_ran ran plant left refused))

-- what is printed of a state is what is printed after the picks that lead to it
pub why_printed : (asked plant : PlantDefinition) (now reached : List Local) (lines table : List ℕ) (left : Option (List PickDefinition)) (a b : Option (List ℕ)) →
    asked ≡ plant → now ≡ reached → lines ≡ table → IfSome left (λ picks. reached ≡ state_after plant (initial_states plant) picks) →
    Appends a b (blocked_text asked now lines) → IfSome left (λ picks. Appends a b (why_after plant table picks))
why_printed asked plant now reached lines table None a b of_plant here by led printed = tt
why_printed asked plant now reached lines table (Some picks) a b of_plant here by led printed =
    subst (λ state. Appends a b (blocked_text plant state table)) (here ∙ led)
    (subst (λ of_rules. Appends a b (blocked_text plant now of_rules)) by
    (subst (λ of_asked. Appends a b (blocked_text of_asked now lines)) of_plant printed))

-- what holds is held where a run ends without a fault, and where one of its picks is refused
pub holds : {P : Type 0} (ended : Result (Unit {0}) PlantEnding) → P → OnDone ended P
holds (Ok done) fact = fact
holds (Err (ending.Refused refusal)) fact = fact
holds (Err ending.Usage) fact = tt
holds (Err (ending.Plant fault)) fact = tt
holds (Err ending.Unopened) fact = tt
holds (Err ending.InputUnread) fact = tt
holds (Err ending.LinesUnread) fact = tt
holds (Err ending.Unsaved) fact = tt
holds (Err (ending.NoAtom number)) fact = tt
holds (Err (ending.NoConnector number)) fact = tt
holds (Err (ending.BadWatch place fault)) fact = tt
holds (Err ending.Held) fact = fact
holds (Err ending.Memory) fact = tt
holds (Err ending.Unwritten) fact = tt

-- a task that saves nothing has saved nothing
pub saved_nothing : (ended : Result (Unit {0}) PlantEnding) (a : Option (List ℕ)) → OnDone ended (Appends a a [])
saved_nothing ended a = holds ended (nothing_appended a)

-- a run that ends early is a task that was not done
of_task : (ran : Result (Unit {0}) TraceFault) → IfErr (task_ending ran) IsOfTask
of_task (Ok done) = tt
of_task (Err trace.Memory) = tt
of_task (Err trace.Write) = tt
of_task (Err trace.Read) = tt
of_task (Err (trace.Refused refusal)) = tt

-- where its ending is silent, what stays as it is at any fault but the writer's stays as it is
stays : {W : Type 0} (ran : Result (Unit {0}) TraceFault) (before after : W) → ((fault : TraceFault) → ran ≡ Err fault → fault ≢ trace.Write → after ≡ before) →
    IfErr (task_ending ran) (λ ending. IsSilent ending → after ≡ before)
stays (Ok done) before after silent = tt
stays (Err trace.Memory) before after silent = λ of_silent. silent trace.Memory refl (λ same. cc)
stays (Err trace.Write) before after silent = λ of_silent. absurd of_silent
stays (Err trace.Read) before after silent = λ of_silent. absurd of_silent
stays (Err (trace.Refused refusal)) before after silent = λ of_silent. absurd of_silent

-- A task is done that prints a text of the state after its picks and saves nothing.
pub after_done : {W S : Type 0} (taken : W → Option (List ℕ)) (kept : S → Option (List ℕ)) (asked task : Task) (plant : ReadPlant) (input : Option (List ℕ)) (picking : Picking)
    (text : List PickDefinition → List ℕ) (ended : Result (Unit {0}) PlantEnding) (ran : Result (Unit {0}) TraceFault) (left : Option (List PickDefinition))
    (before after : W) (unsaved : S) → asked ≡ task →
    printed_of task plant input ≡ option_map (after_picks (plant_read plant) text) (picks_said picking (plant_read plant) input) → saved_of task plant input ≡ Some [] →
    refusal_by task plant input ≡ refusal_said picking (plant_read plant) input → held_by task plant input ≡ Some false → bad_by task plant ≡ None →
    ended ≡ task_ending ran → left ≡ picks_said picking (plant_read plant) input →
    IfRan ran (λ refusal. IfSome left (λ picks. refusal ≡ refusal_of (plant_read plant) picks)) → OnOk ran (IfSome left (λ picks. Appends (taken before) (taken after) (text picks))) →
    ((fault : TraceFault) → ran ≡ Err fault → fault ≢ trace.Write → after ≡ before) → IsDone taken kept asked plant input ended before after unsaved unsaved
after_done taken kept asked task plant input picking text ended ran left before after unsaved same_task prints saves refuses never_held none_bad is same refused printed silent =
    subst (λ one. IsDone taken kept one plant input ended before after unsaved unsaved) (sym same_task)
    (subst (λ ended. IsDone taken kept task plant input ended before after unsaved unsaved) (sym is) (record {
      printed = subst (λ all. OnDone (task_ending ran) (IfSome all (Appends (taken before) (taken after)))) (sym prints)
          (after_asked (task_ending ran) ran (plant_read plant) left (picks_said picking (plant_read plant) input) text (taken before) (taken after) refl same refused printed
          (λ fault of_fault other. ap taken (silent fault of_fault other)));
      saved = subst (λ all. OnDone (task_ending ran) (IfSome all (Appends (kept unsaved) (kept unsaved)))) (sym saves) (saved_nothing (task_ending ran) (kept unsaved));
      refusal = subst (λ first. IfDone (task_ending ran) (λ refusal. IfSome first (λ one. refusal ≡ one))) (sym refuses)
          (refused_asked (task_ending ran) ran (plant_read plant) left (picks_said picking (plant_read plant) input) refl same refused);
      held = subst (λ said. IfEnded (task_ending ran) (λ held. IfSome said (λ first. held ≡ first))) (sym never_held) (unwatched (task_ending ran) (of_task ran)).held;
      read = subst (λ said. IfRead (task_ending ran) (λ bad. bad ≡ said)) (sym none_bad) (unwatched (task_ending ran) (of_task ran)).read;
      of_task = (unwatched (task_ending ran) (of_task ran)).of_watched;
      nothing_printed = stays ran before after silent;
      nothing_saved = stays ran unsaved unsaved (λ fault of_fault other. refl);
    }))
