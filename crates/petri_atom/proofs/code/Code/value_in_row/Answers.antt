use Rattle.std.proofs.Common.{◌≡◌, ◌∙◌, arith, length, sym, w64, SFits, rules}
use Rattle.std.proofs.lemmas.Bool.{eqb-true}
use Rattle.std.proofs.lemmas.Int.{to_z-of_z}
use Rattle.petri_atom.specs.Local.{value_in}
use Rattle.petri_atom.specs.StraightCode.{first_temporary}
use Rattle.petri_atom.proofs.Straight.{value-same, made-same, row-with, long-with, cells-with, one-step, row-few}
use Rattle.petri_atom.proofs.code.Code.value_in_row.Goals as goal

pub returns-then-is_empty : goal.returns-then-is_empty
returns-then-is_empty c = λ tree code.
    let own = c.args.self.now in
    let variables = c.args.variables.now in
    let row = row-with variables in
    let fits : SFits w64 c.value.result = search rules in
    let none : length own.steps.items ≡ 0 = sym own.steps.ok.0 ∙ eqb-true _ 0 (sym c.is_empty.ensures ∙ c.if-is_empty.true) in
    to_z-of_z w64 c.value.result fits ∙ c.value.ensures ∙
    made-same variables row own.last (λ k. sym (cells-with variables c.told-variables k)) ∙
    sym (one-step own.steps.items own.last (first_temporary own.is_small) row none) ∙
    code.value row (omega (arith, long-with variables c.told-variables, row-few own.is_small)) ∙
    value-same (value_in row) (value_in variables) (λ k. cells-with variables c.told-variables k) tree
