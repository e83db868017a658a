use Rattle.std.proofs.Common.{◌≡◌, []}
use Rattle.std.specs.Prelude.{IfSome}
use Rattle.plant_model.specs.Step.{initial_states}
use Rattle.plant_model.specs.System.{plant_of}
use Rattle.run_text.specs.Watched.{reached_by}
use Rattle.run_tallies.proofs.Behind.{told-tallied}
use Rattle.run_tallies.proofs.Following.{ok-unless}
use Rattle.run_tallies.proofs.tally.tally_run.Goals as goal

pub returns : goal.returns
returns g c =
    let held = g.V.Watching.held c.args.watching.now in
    let plant = plant_of c.args.system.now in
    let known = g.V.Watching.taken c.args.watching.now plant (initial_states plant) (g.P.Picks.left c.args.picks.now) in
    let ran = c.tell_run-ran.ensures in
    record {
      told = told-tallied g.W.Write.contents g.S.Write.contents c.args.asked c.args.several held plant known c.tell_run-ran.result c.with_summary.result
          c.args.output.now c.tell_run-ran.new.output c.with_summary.new.output c.args.saved.now c.tell_run-ran.new.saved c.tell_run-ran.new.telling.summary
          ran.told (ran.ready [] c.in_ok-of.ensures) c.with_summary.ensures;
      reached = ok-unless c.tell_run-ran.result c.with_summary.result (λ reached. IfSome known (λ left. reached ≡ reached_by held plant (initial_states plant) left)) c.with_summary.ensures.same ran.reached;
    }
