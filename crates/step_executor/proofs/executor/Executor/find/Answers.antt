use Rattle.std.proofs.Common.{◌≡◌, sym, subst, Some, IfSome}
use Rattle.std.specs.Prelude.{slice_get}
use Rattle.plant_model.specs.Chosen.{choice_of}
use Rattle.step_core.specs.Sure.{IsSure, sure_choices}
use Rattle.step_executor.specs.Executing.{plant_in}
use Rattle.step_executor.proofs.Standing.{parts-known}
use Rattle.step_executor.proofs.executor.Executor.find.Goals as goal

pub returns-clause-there : goal.returns-clause-there
returns-clause-there c =
    subst (λ ps. IfSome c.find_sure.result (λ place. slice_get (sure_choices (plant_in c.args.self.now) ps) place ≡ Some (choice_of c.args.choice.now))) (sym (parts-known c.args.self.now)) c.find_sure.ensures.there

pub returns-clause-none : goal.returns-clause-none
returns-clause-none c none sure =
    c.find_sure.ensures.none none (subst (λ ps. IsSure (plant_in c.args.self.now) ps (choice_of c.args.choice.now)) (parts-known c.args.self.now) sure)
