use Rattle.std.proofs.Common.{◌+◌, ◌<◌, ◌≤◌, ◌≢◌, ◌++◌, pos, [], ◌∷◌, ◌∙◌, sym, ap, rules, arith, length, take, map, set, get_or, w64, SFits, get_or-set_other}
use Rattle.std.proofs.lemmas.Int.{to_z-of_z}
use Rattle.std.proofs.lemmas.List.{take_more, take_more_set, map-append, length-set}
use Rattle.petri_atom.proofs.state.first_values.Goals as goal

pub loop-number-preserved : goal.loop-number-preserved
loop-number-preserved c =
    let n = c.loop-number.number in
    let values = c.loop-number.values in
    let variables = c.args.variables.now in
    let variable = c.index-variables-number.result in
    let first = variable.first in
    let fits : SFits w64 first = search rules in
    let same = to_z-of_z w64 first fits in
    let within : n < length values = omega (arith, c.loop-number.invariant.2) in (
      ap (λ x. take (n + 1) (set values n x)) same ∙ take_more_set values n first within ∙
          ap (λ xs. xs ++ first ∷ []) c.loop-number.invariant.0 ∙
          sym (ap (map (λ v. v.first)) (take_more variables n variable c.loop-number-test.true) ∙ map-append (λ v. v.first) (take n variables) (get_or variables n variable ∷ []) ∙ ap (λ v. map (λ u. u.first) (take n variables) ++ v.first ∷ []) (sym c.index-variables-number.is)),
      λ k past.
          let other : k ≢ n = omega arith in
          let before : n ≤ k = omega arith in
          get_or-set_other values n k _ (pos 0) other ∙ c.loop-number.invariant.1 k before,
      length-set values n _ ∙ c.loop-number.invariant.2,
    )
