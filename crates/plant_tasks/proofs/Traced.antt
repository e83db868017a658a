-- A run that is watched and weighted, and how its task then ends.
use Rattle.std.proofs.Common.{◌≡◌, ◌∙◌, ℕ, ap, sym, refl, subst, Bool, List, [], ◌∷◌, map, length, nat_lt, ◌+◌, Option, None, Result, Ok}
use Rattle.std.specs.Prelude.{IfOk, IfSome, option_map, position}
use Rattle.std.specs.Io.KnownBytes.{Appends}
use Rattle.std.proofs.lemmas.List.{length-map}
use Rattle.plant_model.specs.Plant.{PlantDefinition}
use Rattle.plant_model.specs.Step.{initial_states}
use Rattle.plant_words.proofs.Positions.{position_of_mapped}
use Rattle.run_text.specs.Picks.{PickDefinition}
use Rattle.run_text.specs.Runs.{refusal_of}
use Rattle.run_text.specs.Steps.{saved_in}
use Rattle.run_text.specs.Told.{IsTold}
use Rattle.run_text.specs.Watched.{Held, reached_by, watched}
use Rattle.run_text.specs.declared.fault.TraceFault.{TraceFault}
use Rattle.run_text.specs.declared.watching.Reached.{Reached}
use Rattle.run_watches.specs.Watches.{first_of, watch_in, watch_of}
use Rattle.run_watches.specs.declared.watch.Watch.{Watch}
use Rattle.command_line.specs.declared.request.Picking.{Picking}
use Rattle.command_line.specs.declared.request.Task.{Task}
use Rattle.command_line.specs.declared.request.WatchWords.{WatchWords}
use Rattle.command_line.specs.declared.request.WeightWords.{WeightWords}
use Rattle.plant_tasks.specs.Done.{IsDone}
use Rattle.plant_tasks.specs.Ending.{IfDone, IfEnded, OnDone, trace_ending}
use Rattle.plant_tasks.specs.Picked.{picks_weighted}
use Rattle.plant_tasks.specs.Printed.{bad_by, held_by, plant_read, printed_of, refusal_by, saved_of}
use Rattle.plant_tasks.specs.Reached.{are_several}
use Rattle.plant_tasks.specs.Traced.{ends_held, picks_watched}
use Rattle.plant_tasks.specs.Watches.{bad_from, first_bad, held_in, holds_if, is_held, watches_in}
use Rattle.plant_tasks.specs.Weights.{weights_said}
use Rattle.plant_tasks.specs.Words.{AreRead}
use Rattle.plant_tasks.specs.declared.ending.PlantEnding.{PlantEnding}
use Rattle.plant_tasks.specs.declared.task.ReadPlant.{ReadPlant}
use Rattle.plant_tasks.specs.declared.words.RunWords.{RunWords}
use Rattle.plant_tasks.proofs.Endings.{done_of, held_of, of_task, quiet, read_of}

-- the watches that were read from words hold where these do
pub held_read : (plant : PlantDefinition) (words : List WatchWords) (watches : List Watch) → map (λ watch. Ok (watch_of watch)) watches ≡ watches_in plant words
    → first_of watches ≡ held_in plant words
held_read plant words watches read =
    λ i now states. (position_of_mapped (λ watch. Ok (watch_of watch)) (holds_if now states) watches ∙ ap (position (holds_if now states)) read) i

-- there are as many
pub several_read : (plant : PlantDefinition) (words : List WatchWords) (watches : List Watch) → map (λ watch. Ok (watch_of watch)) watches ≡ watches_in plant words
    → are_several watches ≡ are_several words
several_read plant words watches read =
    ap (nat_lt 1) (sym (length-map watches (λ watch. Ok (watch_of watch))) ∙ ap length read ∙ length-map words (λ one. watch_in plant one.text.now))

-- words that were read as they are lent were read as they are kept
pub lent_read : (plant : PlantDefinition) (watches lent : List WatchWords) (weights lent_weights : List WeightWords) (words : RunWords) → lent ≡ watches → lent_weights ≡ weights
    → AreRead plant lent lent_weights words → AreRead plant watches weights words
lent_read plant watches lent weights lent_weights words same same_weights read =
    subst (λ all. AreRead plant all weights words) same (subst (λ all. AreRead plant lent all words) same_weights read)

-- and none of the words is bad
none_bad : (place : ℕ) (watches : List Watch) → bad_from place (map (λ watch. Ok (watch_of watch)) watches) ≡ None
none_bad place [] = refl
none_bad place (watch ∷ more) = none_bad (place + 1) more

pub read_well : (plant : PlantDefinition) (words : List WatchWords) (watches : List Watch) → map (λ watch. Ok (watch_of watch)) watches ≡ watches_in plant words
    → None ≡ first_bad plant words
read_well plant words watches read = sym (none_bad 0 watches) ∙ ap (bad_from 0) read

-- A task is done that prints a run by the picks that are asked for, up to where something holds that it is watched for. The text may say whether it is watched for
-- several things, and which of them holds.
pub run_done : {W S : Type 0} (taken : W → Option (List ℕ)) (kept : S → Option (List ℕ)) (asked task : Task) (plant : ReadPlant) (input : Option (List ℕ))
    (words : List WatchWords) (weights : List WeightWords) (picking : Picking) (text : Bool → Held → PlantDefinition → List PickDefinition → List ℕ)
    (ended : Result (Unit {0}) PlantEnding) (ran : Result (Option Reached) TraceFault) (held : Held) (several : Bool) (left : Option (List PickDefinition))
    (before after : W) (unsaved after_saving : S) → asked ≡ task
    → printed_of task plant input ≡ option_map (text (are_several words) (held_in (plant_read plant) words) (plant_read plant)) (picks_watched words weights picking (plant_read plant) input)
    → saved_of task plant input ≡ option_map (saved_in (plant_read plant)) (picks_watched words weights picking (plant_read plant) input)
    → refusal_by task plant input ≡ option_map (refusal_of (plant_read plant)) (picks_watched words weights picking (plant_read plant) input)
    → held_by task plant input ≡ option_map (ends_held words (plant_read plant)) (picks_watched words weights picking (plant_read plant) input)
    → None ≡ bad_by task plant
    → ended ≡ trace_ending words ran → held ≡ held_in (plant_read plant) words → several ≡ are_several words
    → left ≡ picks_weighted (weights_said (plant_read plant) weights) picking (plant_read plant) input
    → IsTold taken kept (text several held) (plant_read plant) (watched held (plant_read plant) (initial_states (plant_read plant)) 1 left) ran before after unsaved after_saving
    → IfOk ran (λ reached. IfSome (watched held (plant_read plant) (initial_states (plant_read plant)) 1 left) (λ picks. reached ≡ reached_by held (plant_read plant) (initial_states (plant_read plant)) picks))
    → IsDone taken kept asked plant input ended before after unsaved after_saving
run_done taken kept asked task plant input words weights picking text ended ran held several left before after unsaved after_saving
    same_task prints saves refuses holds well is same_held same_several same_left told reached =
    let of = plant_read plant in
    let first = initial_states of in
    let known = picks_watched words weights picking of input in
    let said : IsTold taken kept (text (are_several words) (held_in of words)) of known ran before after unsaved after_saving =
    subst (λ picks. IsTold taken kept (text (are_several words) (held_in of words)) of (watched (held_in of words) of first 1 picks) ran before after unsaved after_saving) same_left
    (subst (λ many. IsTold taken kept (text many (held_in of words)) of (watched (held_in of words) of first 1 left) ran before after unsaved after_saving) same_several
    (subst (λ h. IsTold taken kept (text several h) of (watched h of first 1 left) ran before after unsaved after_saving) same_held told)) in
    let came : IfOk ran (λ reached. IfSome known (λ picks. reached ≡ reached_by (held_in of words) of first picks)) =
    subst (λ picks. IfOk ran (λ reached. IfSome (watched (held_in of words) of first 1 picks) (λ picks. reached ≡ reached_by (held_in of words) of first picks))) same_left
    (subst (λ h. IfOk ran (λ reached. IfSome (watched h of first 1 left) (λ picks. reached ≡ reached_by h of first picks))) same_held reached) in
    subst (λ one. IsDone taken kept one plant input ended before after unsaved after_saving) (sym same_task)
    (subst (λ end. IsDone taken kept task plant input end before after unsaved after_saving) (sym is) (record {
      printed = subst (λ all. OnDone (trace_ending words ran) (IfSome all (Appends (taken before) (taken after)))) (sym prints)
          (done_of (is_held words) ran (text (are_several words) (held_in of words) of) known (λ refusal text. Appends (taken before) (taken after) text) said.printed);
      saved = subst (λ all. OnDone (trace_ending words ran) (IfSome all (Appends (kept unsaved) (kept after_saving)))) (sym saves)
          (done_of (is_held words) ran (saved_in of) known (λ refusal text. Appends (kept unsaved) (kept after_saving) text) said.saved);
      refusal = subst (λ one. IfDone (trace_ending words ran) (λ refusal. IfSome one (λ first. refusal ≡ first))) (sym refuses)
          (done_of (is_held words) ran (refusal_of of) known (λ refusal first. refusal ≡ first) said.refusal);
      held = subst (λ one. IfEnded (trace_ending words ran) (λ held. IfSome one (λ first. held ≡ first))) (sym holds)
          (held_of (is_held words) ran known (reached_by (held_in of words) of first) came);
      read = read_of (is_held words) ran (bad_by task plant) well;
      of_task = of_task (is_held words) ran;
      nothing_printed = quiet (is_held words) ran before after said.nothing_printed;
      nothing_saved = quiet (is_held words) ran unsaved after_saving said.nothing_saved;
    }))
