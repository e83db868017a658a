use Rattle.plant_words.specs.Expressions.{expression_in}
use Rattle.atom_lines.specs.Draft.{drafted}
use Rattle.atom_lines.specs.Lookup.{variable_number}
use Rattle.atom_lines.proofs.Making.{expression_is_read}
use Rattle.atom_lines.proofs.draft.AtomDraft.read_expression.Goals as goal

pub returns-clause-expression : goal.returns-clause-expression
returns-clause-expression c =
    expression_is_read (expression_in (variable_number (drafted c.args.self.now)) c.args.words.now) c.read_expression.new.words c.in_ok-read_expression.field-0
    c.in_ok-read_expression.ensures.expression c.in_ok-read_expression.ensures.behind
