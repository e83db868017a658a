use Rattle.std.proofs.Common.{rules, ◌≡◌, ◌∙◌, ap, sym, ◌∷◌}
use Rattle.std.specs.Prelude.{is_ok}
use Rattle.plant_words.proofs.ExpressionPassing.{passes_none, passes_one}
use Rattle.plant_words.proofs.expression.next_word.Goals as goal

pub returns-clause-passed : goal.returns-clause-passed
returns-clause-passed g c =
    let splits : c.args.words.now ≡ c.in_ok-word.word.now ∷ c.next_word.new.self = search rules in
    rw splits (passes_one (g.N.Variables.variable_named c.args.names.now) c.in_ok-word.word.now c.next_word.new.self c.args.limit.now c.in_ok-left.left
    (ap is_ok (sym c.read_word.ensures ∙ c.in_ok-meaning.was)) (search rules))

pub returns-in_err-meaning-clause-passed : goal.returns-in_err-meaning-clause-passed
returns-in_err-meaning-clause-passed g c = passes_none (g.N.Variables.variable_named c.args.names.now) _ c.args.words.now c.peek.new.self c.peek.ensures.kept
