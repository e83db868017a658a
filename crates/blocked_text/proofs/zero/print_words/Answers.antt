use Rattle.std.proofs.Common.{◌≡◌, ◌+◌, ◌<◌, ◌∙◌, ap, sym, subst, arith, codes, drop, length}
use Rattle.std.specs.Prelude.{Some, slice_get}
use Rattle.std.proofs.lemmas.Option.{get_or_from_slice_get, slice_get_within}
use Rattle.petri_atom.specs.Expression.{tree_of}
use Rattle.text_io.specs.Numbered.{numbered}
use Rattle.text_io.proofs.Leading.{Leads}
use Rattle.blocked_text.specs.Separated.{separated_after}
use Rattle.blocked_text.specs.Variables.{variables_in}
use Rattle.blocked_text.specs.Zero.{value_word}
use Rattle.blocked_text.proofs.Seeking.{few-variables}
use Rattle.blocked_text.proofs.Separating.{leads-numbered, none-left, printed-all}
use Rattle.blocked_text.proofs.zero.print_words.Goals as goal

pub overflow_add-place : goal.overflow_add-place
overflow_add-place g c =
    let vars = variables_in (tree_of c.args.expression.now) in
    let within : c.loop-variable.place < length vars = slice_get_within vars c.loop-variable.place c.in-Some.variable (sym c.variable_at.ensures ∙ c.in-Some.is) in
    omega (arith, within, few-variables (tree_of c.args.expression.now), c.requires)

pub loop-variable-smaller : goal.loop-variable-smaller
loop-variable-smaller g c =
    let vars = variables_in (tree_of c.args.expression.now) in
    let within : c.loop-variable.place < length vars = slice_get_within vars c.loop-variable.place c.in-Some.variable (sym c.variable_at.ensures ∙ c.in-Some.is) in
    omega (arith, within)

pub loop-variable-preserved : goal.loop-variable-preserved
loop-variable-preserved g c =
    let vars = variables_in (tree_of c.args.expression.now) in
    let i = c.loop-variable.place in
    let there : slice_get vars i ≡ Some c.in-Some.variable = sym c.variable_at.ensures ∙ c.in-Some.is in
    let word = value_word g.V.Same.same (g.N.Names.name_of c.args.names.now) (g.S.Valuation.value_at c.args.values.now) vars in
    let next = g.W.Write.contents c.print_first.new.output in
    subst (λ before. Leads (g.W.Write.contents c.args.output.now) next (separated_after before (codes ", ") (numbered word (i + 1) (drop (i + 1) vars))) (separated_after (codes " (") (codes ", ") (numbered word 0 vars)))
    (sym c.in_ok-before.ensures.next)
    (leads-numbered word vars i c.in-Some.variable c.loop-variable.before.now (codes ", ") (g.W.Write.contents c.args.output.now) (g.W.Write.contents c.loop-variable.output) next _
    (slice_get_within vars i c.in-Some.variable there) (sym (get_or_from_slice_get vars i c.in-Some.variable c.in-Some.variable there)) c.loop-variable.invariant c.in_ok-before.ensures.printed)

pub returns : goal.returns
returns g c =
    let vars = variables_in (tree_of c.args.expression.now) in
    let word = value_word g.V.Same.same (g.N.Names.name_of c.args.names.now) (g.S.Valuation.value_at c.args.values.now) vars in
    printed-all _ _ _ _ c.loop-variable.invariant
    (ap (λ vs. separated_after c.loop-variable.before.now (codes ", ") (numbered word c.loop-variable.place vs)) (none-left vars c.loop-variable.place (sym c.variable_at.ensures ∙ c.in_default.is)))
