use Rattle.std.proofs.Common.{◌<◌, sym, ◌∙◌, ap, subst, length}
use Rattle.std.specs.Prelude.{slice_get}
use Rattle.plant_model.specs.Chosen.{choice_of}
use Rattle.step_core.specs.Sure.{IsSure, sure_choices}
use Rattle.step_executor.specs.Executing.{plant_in}
use Rattle.step_executor.proofs.Standing.{parts-known}
use Rattle.step_executor.proofs.executor.Executor.nth.Goals as goal

pub nth_sure-requires : goal.nth_sure-requires
nth_sure-requires c = subst (λ ps. c.args.place < length (sure_choices (plant_in c.args.self.now) ps)) (parts-known c.args.self.now) c.requires

pub returns-clause-entry : goal.returns-clause-entry
returns-clause-entry c = ap (λ ps. slice_get (sure_choices (plant_in c.args.self.now) ps) c.args.place) (parts-known c.args.self.now) ∙ c.nth_sure.ensures.entry

pub returns-clause-sure : goal.returns-clause-sure
returns-clause-sure c = subst (λ ps. IsSure (plant_in c.args.self.now) ps (choice_of c.nth_sure.result)) (sym (parts-known c.args.self.now)) c.nth_sure.ensures.sure
