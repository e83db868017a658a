-- What the run of a plant comes to that is printed and saved.
use Rattle.std.specs.Prelude.{◌≡◌, ℕ, List, Option, Result, Err, IfSome}
use Rattle.std.specs.Io.KnownBytes.{Appends}
use Rattle.plant_model.specs.Plant.{PlantDefinition}
use Rattle.run_text.specs.Picks.{PickDefinition}
use Rattle.run_text.specs.Ran.{IfRan, OnRan}
use Rattle.run_text.specs.Runs.{refusal_of}
use Rattle.run_text.specs.Steps.{saved_in}
use Rattle.run_text.specs.declared.fault.TraceFault.{TraceFault}
use Rattle.run_text.specs.declared.fault.TraceFault.TheVariants.{Memory}

-- A plant was run from its first states on. Its output was `before` and is `after` now, and what it saves to was `unsaved` and is `after_saving` now;
-- `taken` and `kept` say which bytes the two took. Where the picks are known, the text that they make is printed, and what they fire is saved; and the pick
-- that is answered as refused is the first that is. If memory was lacking, both stay as they were.
pub record IsTold {W S X : Type 0} (taken : W → Option (List ℕ)) (kept : S → Option (List ℕ)) (text : PlantDefinition → List PickDefinition → List ℕ)
    (plant : PlantDefinition) (picks : Option (List PickDefinition)) (result : Result X TraceFault) (before after : W) (unsaved after_saving : S) : Type 0 where
  pub refusal : IfRan result (λ refusal. IfSome picks (λ left. refusal ≡ refusal_of plant left))
  pub printed : OnRan result (IfSome picks (λ left. Appends (taken before) (taken after) (text plant left)))
  pub saved : OnRan result (IfSome picks (λ left. Appends (kept unsaved) (kept after_saving) (saved_in plant left)))
  pub nothing_printed : result ≡ Err Memory → after ≡ before
  pub nothing_saved : result ≡ Err Memory → after_saving ≡ unsaved
