use Rattle.petri_atom.specs.declared.parts.TheConstants.{MAX_WORDS}
use Rattle.plant_words.specs.Expressions.{expressions_in}
use Rattle.plant_words.proofs.ExpressionReading.{only_made, only_left, only_fault}
use Rattle.plant_words.proofs.expression.read_expression.Goals as goal

pub returns-clause-expression : goal.returns-clause-expression
returns-clause-expression g c =
    only_made (g.N.Variables.variable_named c.args.names.now) c.read_operand.new.limit c.args.words.now c.read_operand.new.words c.read_operand.result c.read_operand.ensures.expression

pub returns-clause-behind : goal.returns-clause-behind
returns-clause-behind g c =
    only_left (g.N.Variables.variable_named c.args.names.now) c.read_operand.new.limit c.args.words.now c.read_operand.new.words c.read_operand.result c.read_operand.ensures.expression

pub returns-clause-fault : goal.returns-clause-fault
returns-clause-fault g c =
    only_fault c.read_operand.result
    (λ wanted. expressions_in (g.N.Variables.variable_named c.args.names.now) MAX_WORDS wanted c.args.words.now)
    c.read_operand.ensures.fault
