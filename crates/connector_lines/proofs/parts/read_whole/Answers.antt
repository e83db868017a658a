use Rattle.std.proofs.Common.{sym}
use Rattle.plant_words.specs.Expressions.{expression_in}
use Rattle.plant_words.specs.declared.line_fault.LineFault.TheVariants.{Memory}
use Rattle.plant_words.proofs.Early.{found_after}
use Rattle.plant_words.proofs.Exits.{found_fault}
use Rattle.connector_lines.specs.Rows.{whole_expression}
use Rattle.connector_lines.proofs.WantingLines.{word_is_over, none_is_over}
use Rattle.connector_lines.proofs.parts.read_whole.Goals as goal

pub returns-in_err-end-clause-fault : goal.returns-in_err-end-clause-fault
returns-in_err-end-clause-fault g c =
    let named = g.N.Variables.variable_named c.args.names.now in
    found_fault Memory (whole_expression named c.args.words.now) c.from_residual-in_err-end.result c.in_err-end.field-0.0 c.from_residual-in_err-end.ensures.1
    (λ _. word_is_over (expression_in named c.args.words.now) c.read_expression.new.words c.in_err-end.field-0.0 c.in_ok-expression.ensures.behind (sym c.in_err-end.ensures))

pub returns-in_err-expression-2-clause-memory : goal.returns-in_err-expression-2-clause-memory
returns-in_err-expression-2-clause-memory g c =
    let named = g.N.Variables.variable_named c.args.names.now in
    found_after (whole_expression named c.args.words.now) c.from_residual-in_err-expression-2.result _ c.from_residual-in_err-expression-2.ensures.1
    (λ memory. none_is_over (expression_in named c.args.words.now) c.read_expression.new.words c.in_ok-end.field-0 c.in_ok-expression.ensures.behind (sym c.in_ok-end.ensures))
