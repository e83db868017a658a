use Rattle.std.proofs.Common.{◌∙◌, [], ◌∷◌, ◌++◌, ap, arith, rules, sym, take, w64, SFits}
use Rattle.std.proofs.lemmas.Int.{to_z-of_z}
use Rattle.std.proofs.lemmas.List.{take_more}
use Rattle.run_summary.specs.Bounds.{bounds_of}
use Rattle.run_summary.specs.Totals.{bounds_from}
use Rattle.run_summary.proofs.Widening.{first-more}
use Rattle.run_summary.proofs.bounds.first_bounds.Goals as goal

pub loop-variable-preserved : goal.loop-variable-preserved
loop-variable-preserved c =
    let i = c.loop-variable.variable-index in
    let v = c.variable-item.result in
    let fits : SFits w64 v.first = search rules in
    let before = take i c.args.variables.now in
    c.in_ok-push.ensures.items
    ∙ ap (λ bs. bs ++ c.of.result ∷ []) c.loop-variable.invariant
    ∙ ap (λ b. bounds_from 0 before [] ++ b ∷ []) c.of.ensures
    ∙ ap (λ z. bounds_from 0 before [] ++ bounds_of z [] ∷ []) (to_z-of_z w64 v.first fits)
    ∙ sym (first-more 0 before v)
    ∙ ap (λ vs. bounds_from 0 vs []) (ap (λ x. before ++ x ∷ []) c.variable-item.is ∙ sym (take_more c.args.variables.now i v (omega arith)))
