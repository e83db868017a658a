use Rattle.plant_words.proofs.ExpressionReading.{negation_stands, operation_stands}
use Rattle.plant_words.proofs.ExpressionPassing.{passes_three}
use Rattle.plant_words.proofs.expression.+read_operand.Goals as goal

pub returns-in_ok-operand-in-Negation-clause-expression :
    goal.returns-in_ok-operand-in-Negation-clause-expression
returns-in_ok-operand-in-Negation-clause-expression g t c =
    negation_stands (g.N.Variables.variable_named c.args.names.now) c.args.limit.now c.next_word.new.limit c.read_operand.new.limit
    c.args.words.now c.next_word.new.words c.read_operand.new.words
    c.in_ok-number.field-0 c.in_ok-operand-in-Negation.operand c.negation.result
    c.in-Negation.is c.in_ok-number.ensures.word c.in_ok-operand-in-Negation.ensures.expression c.negation.ensures

pub returns-in_ok-right-in-Operation-clause-expression :
    goal.returns-in_ok-right-in-Operation-clause-expression
returns-in_ok-right-in-Operation-clause-expression g t c =
    operation_stands (g.N.Variables.variable_named c.args.names.now) c.args.limit.now c.next_word.new.limit c.read_operand-in-Operation.new.limit c.read_operand-in-Operation-2.new.limit
    c.args.words.now c.next_word.new.words c.read_operand-in-Operation.new.words c.read_operand-in-Operation-2.new.words
    c.in_ok-number.field-0 c.in-Operation.operator c.in_ok-left-in-Operation.left c.in_ok-right-in-Operation.right c.operation.result
    c.in-Operation.is c.in_ok-number.ensures.word c.in_ok-left-in-Operation.ensures.expression c.in_ok-right-in-Operation.ensures.expression c.operation.ensures

pub returns-in_err-right-in-Operation-clause-passed :
    goal.returns-in_err-right-in-Operation-clause-passed
returns-in_err-right-in-Operation-clause-passed g t c =
    passes_three (g.N.Variables.variable_named c.args.names.now) c.args.limit.now c.next_word.new.limit c.read_operand-in-Operation.new.limit c.read_operand-in-Operation-2.new.limit
    c.args.words.now c.next_word.new.words c.read_operand-in-Operation.new.words c.read_operand-in-Operation-2.new.words
    c.next_word.ensures.passed c.read_operand-in-Operation.ensures.passed c.read_operand-in-Operation-2.ensures.passed
    c.next_word.ensures.within c.read_operand-in-Operation.ensures.within c.read_operand-in-Operation-2.ensures.within

pub returns-in_ok-right-in-Operation-clause-passed :
    goal.returns-in_ok-right-in-Operation-clause-passed
returns-in_ok-right-in-Operation-clause-passed g t c =
    passes_three (g.N.Variables.variable_named c.args.names.now) c.args.limit.now c.next_word.new.limit c.read_operand-in-Operation.new.limit c.read_operand-in-Operation-2.new.limit
    c.args.words.now c.next_word.new.words c.read_operand-in-Operation.new.words c.read_operand-in-Operation-2.new.words
    c.next_word.ensures.passed c.read_operand-in-Operation.ensures.passed c.read_operand-in-Operation-2.ensures.passed
    c.next_word.ensures.within c.read_operand-in-Operation.ensures.within c.read_operand-in-Operation-2.ensures.within
