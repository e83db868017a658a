-- What doing a task comes to.
use Rattle.std.specs.Prelude.{◌≡◌, ℕ, List, Option, IfErr, IfSome, Result}
use Rattle.std.specs.Io.KnownBytes.{Appends}
use Rattle.command_line.specs.declared.request.Task.{Task}
use Rattle.plant_tasks.specs.Ending.{IfDone, IfEnded, IfRead, IsOfWatched, IsSilent, OnDone}
use Rattle.plant_tasks.specs.Printed.{bad_by, held_by, printed_of, refusal_by, saved_of}
use Rattle.plant_tasks.specs.declared.ending.PlantEnding.{PlantEnding}
use Rattle.plant_tasks.specs.declared.task.ReadPlant.{ReadPlant}

-- A task of a plant that was read was done, or ended early. Its output was `before` and is `after` now, and what it saves to was
-- `unsaved` and is `after_saving` now; `taken` and `kept` say which bytes the two took. As far as the input's bytes are known, what the task says is printed and
-- what it fires is saved, up to the first pick that is refused; and no other pick is named as refused. It ends as one that came to what must not hold exactly where it
-- did. The words by which it is watched and weighted can all be read where the task was done, and else the ending tells the first that can't. Where an ending is silent, both stay as
-- they were.
pub record IsDone {W S : Type 0} (taken : W → Option (List ℕ)) (kept : S → Option (List ℕ)) (task : Task) (plant : ReadPlant) (input : Option (List ℕ))
    (result : Result (Unit {0}) PlantEnding) (before after : W) (unsaved after_saving : S) : Type 0 where
  pub printed : OnDone result (IfSome (printed_of task plant input) (Appends (taken before) (taken after)))
  pub saved : OnDone result (IfSome (saved_of task plant input) (Appends (kept unsaved) (kept after_saving)))
  pub refusal : IfDone result (λ refusal. IfSome (refusal_by task plant input) (λ first. refusal ≡ first))
  pub held : IfEnded result (λ held. IfSome (held_by task plant input) (λ first. held ≡ first))
  pub read : IfRead result (λ bad. bad ≡ bad_by task plant)
  pub of_task : IfErr result IsOfWatched
  pub nothing_printed : IfErr result (λ ending. IsSilent ending → after ≡ before)
  pub nothing_saved : IfErr result (λ ending. IsSilent ending → after_saving ≡ unsaved)
