use Rattle.std.proofs.Common.{sym, ◌∙◌}
use Rattle.std.proofs.lemmas.Option.{none-some, slice_get-get_or}
use Rattle.step_core.specs.Dispatcher.{parts_in}
use Rattle.step_core.specs.Parts.{nothing_shown}
use Rattle.step_executor.specs.Outstanding.{kept_in, whole_of}
use Rattle.step_executor.proofs.executor.Executor.state.Goals as goal

pub unreachable-requires : goal.unreachable-requires
unreachable-requires c =
    let run = c.args.self.now in
    let whole = whole_of (kept_in run.kept.items) (parts_in run.dispatcher) in
    none-some _ (sym c.in-None.is ∙ c.look.ensures ∙ slice_get-get_or whole c.args.atom nothing_shown c.requires)

pub returns-clause-state : goal.returns-clause-state
returns-clause-state c = sym c.look.ensures ∙ c.in-Some.is

pub returns-clause-fits : goal.returns-clause-fits
returns-clause-fits c = λ a its_atom. c.args.self.now.fits c.args.atom a c.in-Some.state its_atom (sym c.look.ensures ∙ c.in-Some.is)
