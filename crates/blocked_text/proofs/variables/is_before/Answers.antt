use Rattle.std.proofs.Common.{◌∙◌, sym, arith}
use Rattle.petri_atom.specs.Expression.{tree_of}
use Rattle.blocked_text.specs.Variables.{variables_in}
use Rattle.blocked_text.proofs.Finding.{any-taken, none-taken}
use Rattle.blocked_text.proofs.variables.is_before.Goals as goal

pub returns-then-is_at : goal.returns-then-is_at
returns-then-is_at g c =
    sym (any-taken (λ v. g.V.Same.same v c.args.variable) (variables_in (tree_of c.args.expression.now)) c.loop-earlier.earlier c.args.place
    (omega arith) (sym c.is_at.ensures ∙ c.if-is_at.true))

pub loop-earlier-preserved : goal.loop-earlier-preserved
loop-earlier-preserved g c =
    none-taken (λ v. g.V.Same.same v c.args.variable) (variables_in (tree_of c.args.expression.now)) c.loop-earlier.earlier
    c.loop-earlier.invariant (sym c.is_at.ensures ∙ c.if-is_at.false)
