-- The summary behind one run.
use Rattle.std.proofs.Common.{◌≡◌, ◌∙◌, ℕ, subst, List, [], ◌++◌}
use Rattle.std.specs.Prelude.{Bool, Option, None, Result, IfSome}
use Rattle.std.specs.Io.KnownBytes.{Appends}
use Rattle.std.proofs.KnownBytes.{Appends-trans}
use Rattle.plant_model.specs.Plant.{PlantDefinition}
use Rattle.run_text.specs.Picks.{PickDefinition}
use Rattle.run_text.specs.Ran.{OnRan}
use Rattle.run_text.specs.Runs.{refusal_of}
use Rattle.run_text.specs.Steps.{saved_in}
use Rattle.run_text.specs.Told.{IsTold}
use Rattle.run_text.specs.Watched.{Held}
use Rattle.run_text.specs.declared.fault.TraceFault.{TraceFault}
use Rattle.run_summary.specs.Lines.{summary_text}
use Rattle.run_summary.specs.Totals.{Totals, totals_of}
use Rattle.run_tallies.specs.Lines.{run_lines}
use Rattle.run_tallies.specs.Outcome.{IsBehind}
use Rattle.run_tallies.specs.Tally.{tally_text, told_by}
use Rattle.run_tallies.proofs.Following.{if-any, known-both, memory-unless, ran-both, ran-unless}

-- a run whose summary is printed behind its lines is told as a tally
pub told-tallied : {W S X : Type 0} (taken : W → Option (List ℕ)) (kept : S → Option (List ℕ)) (asked : Option ℕ) (several : Bool) (held : Held) (plant : PlantDefinition) (known : Option (List PickDefinition))
    (ran result : Result X TraceFault) (before between after : W) (unsaved after_saving : S) (summary : Totals)
    → IsTold taken kept (run_lines None several held) plant known ran before between unsaved after_saving
    → OnRan ran (IfSome known (λ left. summary ≡ totals_of plant (told_by plant left [])))
    → IsBehind taken (summary_text plant asked summary) ran result between after
    → IsTold taken kept (tally_text asked several held) plant known result before after unsaved after_saving
told-tallied taken kept asked several held plant known ran result before between after unsaved after_saving summary told counted behind = record {
  refusal = ran-unless ran result (λ refusal. IfSome known (λ left. refusal ≡ refusal_of plant left)) behind.same told.refusal;
  printed =
      ran-both result (λ refusal. IfSome known (λ left. Appends (taken before) (taken after) (run_lines None several held plant left ++ summary_text plant asked summary)))
      (λ refusal. IfSome known (λ left. summary ≡ totals_of plant (told_by plant left [])))
      (λ refusal. IfSome known (λ left. Appends (taken before) (taken after) (tally_text asked several held plant left)))
      (λ refusal shown is. known-both known _ _ (λ left. Appends (taken before) (taken after) (tally_text asked several held plant left))
      (λ left text same. subst (λ (totals : Totals). Appends (taken before) (taken after) (run_lines None several held plant left ++ summary_text plant asked totals)) same text) shown is)
      (ran-both result (λ refusal. IfSome known (λ left. Appends (taken before) (taken between) (run_lines None several held plant left)))
      (λ refusal. Appends (taken between) (taken after) (summary_text plant asked summary))
      (λ refusal. IfSome known (λ left. Appends (taken before) (taken after) (run_lines None several held plant left ++ summary_text plant asked summary)))
      (λ refusal lines last. known-both known (λ left. Appends (taken before) (taken between) (run_lines None several held plant left)) (λ left. Appends (taken between) (taken after) (summary_text plant asked summary)) _
      (λ left first second. Appends-trans (taken before) (taken between) (taken after) _ _ first second) lines (if-any known _ last))
      (ran-unless ran result (λ refusal. IfSome known (λ left. Appends (taken before) (taken between) (run_lines None several held plant left))) behind.same told.printed) behind.printed)
      (ran-unless ran result (λ refusal. IfSome known (λ left. summary ≡ totals_of plant (told_by plant left []))) behind.same counted);
  saved = ran-unless ran result (λ refusal. IfSome known (λ left. Appends (kept unsaved) (kept after_saving) (saved_in plant left))) behind.same told.saved;
  nothing_printed = λ is. behind.nothing_printed is ∙ told.nothing_printed (memory-unless ran result behind.same is);
  nothing_saved = λ is. told.nothing_saved (memory-unless ran result behind.same is);
}

-- a summary behind lines is a text of both
pub told-behind : {W X : Type 0} (taken : W → Option (List ℕ)) (plant : PlantDefinition) (asked known_asked : Option ℕ) (ran result : Result X TraceFault) (before between after : W) (lines : List ℕ) (summary totals : Totals)
    → asked ≡ known_asked → OnRan ran (Appends (taken before) (taken between) lines) → OnRan ran (summary ≡ totals)
    → IsBehind taken (summary_text plant asked summary) ran result between after
    → OnRan result (Appends (taken before) (taken after) (lines ++ summary_text plant known_asked totals))
told-behind taken plant asked known_asked ran result before between after lines summary totals asked_is printed counted behind =
    subst (λ a. OnRan result (Appends (taken before) (taken after) (lines ++ summary_text plant a totals))) asked_is
    (ran-both result (λ refusal. Appends (taken before) (taken after) (lines ++ summary_text plant asked summary)) (λ refusal. summary ≡ totals)
    (λ refusal. Appends (taken before) (taken after) (lines ++ summary_text plant asked totals))
    (λ refusal text same. subst (λ (t : Totals). Appends (taken before) (taken after) (lines ++ summary_text plant asked t)) same text)
    (ran-both result (λ refusal. Appends (taken before) (taken between) lines) (λ refusal. Appends (taken between) (taken after) (summary_text plant asked summary))
    (λ refusal. Appends (taken before) (taken after) (lines ++ summary_text plant asked summary))
    (λ refusal first last. Appends-trans (taken before) (taken between) (taken after) lines (summary_text plant asked summary) first last)
    (ran-unless ran result (λ refusal. Appends (taken before) (taken between) lines) behind.same printed) behind.printed)
    (ran-unless ran result (λ refusal. summary ≡ totals) behind.same counted))
