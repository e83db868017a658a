use Rattle.std.proofs.Common.{◌∙◌, ap, sym}
use Rattle.std.specs.List.{list_all}
use Rattle.std.proofs.lemmas.List.Folds.{list_all-map}
use Rattle.plant_model.specs.BoundExpressions.{clause_of, clause_holds}
use Rattle.plant_model.proofs.bound_expressions.BoundExpressions.hold.Goals as goal

pub returns : goal.returns
returns c =
    let holds = clause_holds c.args.states.now c.args.mask in
    c.each_holds.ensures ∙ ap (list_all (λ clause. holds (clause_of clause))) c.deref.ensures.value ∙
    sym (list_all-map holds clause_of c.args.self.now.clauses.items)
