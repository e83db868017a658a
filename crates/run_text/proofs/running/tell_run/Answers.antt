use Rattle.std.proofs.Common.{◌≡◌, sym, subst}
use Rattle.std.specs.Prelude.{IfOk, IfSome}
use Rattle.std.specs.Io.KnownBytes.{Appends}
use Rattle.plant_model.specs.Step.{initial_states}
use Rattle.plant_model.specs.System.{plant_of}
use Rattle.step_core.specs.Running.{states_in}
use Rattle.run_text.specs.History.{told_after}
use Rattle.run_text.specs.Ran.{IfRan, OnRan}
use Rattle.run_text.specs.Runs.{chosen, refusal_in, state_after}
use Rattle.run_text.specs.Steps.{printed_from, saved_from}
use Rattle.run_text.specs.Watched.{reached_by}
use Rattle.run_text.proofs.AfterHead.{holds-of, printed-after}
use Rattle.run_text.proofs.running.tell_run.Goals as goal

pub run_picks-requires : goal.run_picks-requires
run_picks-requires g c = (
  c.requires.0,
  subst (λ p. g.T.Telling.IsReady c.args.telling.now p c.requires.0 (states_in c.in_ok-run.run')) (sym c.in_ok-run.ensures.plant)
      (subst (g.T.Telling.IsReady c.args.telling.now (plant_of c.args.system.now) c.requires.0) (sym c.in_ok-run.ensures.first) c.requires.1),
)

pub returns : goal.returns
returns g c =
    let parts = g.T.Telling.parts c.args.telling.now in
    let held = g.V.Watching.held c.args.watching.now in
    let taken = g.V.Watching.taken c.args.watching.now in
    let plant = plant_of c.args.system.now in
    let first = c.in_ok-run.ensures in
    let run = c.run_picks.ensures in
    let result = c.run_picks.result in
    let left = g.P.Picks.left c.args.picks.now in
    let known = taken plant (initial_states plant) left in
    let start = g.W.Write.contents c.args.output.now in
    let now = g.W.Write.contents c.tell_start.new.output in
    let after = g.W.Write.contents c.run_picks.new.output in
    let head : Appends start now (parts.start plant (initial_states plant)) =
    holds-of (λ p s. Appends start now (parts.start p s)) first.plant first.first c.in_ok-tell_start.ensures in
    record {
      told = record {
        refusal = holds-of (λ p s. IfRan result (λ refusal. IfSome (taken p s left) (λ picks. refusal ≡ refusal_in p s 1 picks))) first.plant first.first run.refusal;
        printed = printed-after result known start now after (parts.start plant (initial_states plant)) (printed_from parts plant (initial_states plant) 1) head
            (holds-of (λ p s. OnRan result (IfSome (taken p s left) (λ picks. Appends now after (printed_from parts p s 1 picks)))) first.plant first.first run.printed);
        saved = holds-of (λ p s. OnRan result (IfSome (taken p s left) (λ picks. Appends (g.S.Write.contents c.args.saved.now) (g.S.Write.contents c.run_picks.new.saved) (saved_from p s 1 picks)))) first.plant first.first run.saved;
        nothing_printed = λ is. absurd (run.no_memory is);
        nothing_saved = λ is. absurd (run.no_memory is);
      };
      reached = holds-of (λ p s. IfOk result (λ reached. IfSome (taken p s left) (λ picks. reached ≡ reached_by held p s picks))) first.plant first.first run.reached;
      ready = λ told is.
          holds-of (λ p s. g.T.Telling.IsReady c.args.telling.now p told s → OnRan result (IfSome (taken p s left) (λ picks. g.T.Telling.IsReady c.run_picks.new.telling p (told_after p s (chosen p s 1 picks) told) (state_after p s picks))))
          first.plant first.first (run.ready told) is;
    }
