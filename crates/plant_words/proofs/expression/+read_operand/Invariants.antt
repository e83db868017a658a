use Rattle.plant_words.proofs.expression.+read_operand.Given as goal

abbrev pub decreases-read_operand : goal.decreases-read_operand
decreases-read_operand g l = l.limit.now
