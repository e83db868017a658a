use Rattle.std.proofs.Common.{◌<◌, arith, sym, ◌∙◌, ap, get_or, length, unwrap_or}
use Rattle.std.specs.Prelude.{Some}
use Rattle.std.proofs.lemmas.Option.{get_or_from_slice_get}
use Rattle.step_core.specs.Parts.{nothing_shown}
use Rattle.step_executor.specs.Executing.{states_in}
use Rattle.step_executor.proofs.Standing.{states-many}
use Rattle.step_executor.proofs.Wholes.{committed-at, committed-long}
use Rattle.step_executor.proofs.executor.Executor.committed.Goals as goal

pub state-requires-in-None : goal.state-requires-in-None
state-requires-in-None c =
    let run = c.args.self.now in
    omega (arith, c.requires, committed-long run.committed (states_in run), run.behind.many, states-many run)

pub returns-in-Some : goal.returns-in-Some
returns-in-Some c =
    let run = c.args.self.now in
    let n = c.args.atom in
    let within : n < length run.committed = omega (arith, c.requires, committed-long run.committed (states_in run)) in
    committed-at run.committed (states_in run) n within ∙
    ap (λ o. Some (unwrap_or o (get_or (states_in run) n nothing_shown))) (sym c.in-Some.ensures) ∙
    ap Some (sym c.copy.ensures)

pub returns-in-None : goal.returns-in-None
returns-in-None c =
    let run = c.args.self.now in
    let n = c.args.atom in
    let within : n < length run.committed = omega (arith, c.requires, committed-long run.committed (states_in run)) in
    committed-at run.committed (states_in run) n within ∙
    ap (λ o. Some (unwrap_or o (get_or (states_in run) n nothing_shown))) (sym c.in-None.ensures) ∙
    ap Some (get_or_from_slice_get (states_in run) n c.state-in-None.result nothing_shown c.state-in-None.ensures.state)
