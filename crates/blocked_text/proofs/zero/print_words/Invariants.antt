-- The variables from this place on are left.
use Rattle.std.proofs.Common.{◌-◌, codes, drop, length}
use Rattle.petri_atom.specs.Expression.{tree_of}
use Rattle.text_io.specs.Numbered.{numbered}
use Rattle.text_io.proofs.Leading.{Leads}
use Rattle.blocked_text.specs.Separated.{separated_after}
use Rattle.blocked_text.specs.Variables.{variables_in}
use Rattle.blocked_text.specs.Zero.{value_word, value_words}
use Rattle.blocked_text.proofs.zero.print_words.Given as goal

abbrev pub invariant-loop-variable : goal.invariant-loop-variable
invariant-loop-variable g l =
    Leads (g.W.Write.contents l.initial.output) (g.W.Write.contents l.output)
    (separated_after l.before (codes ", ") (numbered (value_word g.V.Same.same (g.N.Names.name_of l.names) (g.S.Valuation.value_at l.values) (variables_in (tree_of l.expression))) l.place (drop l.place (variables_in (tree_of l.expression)))))
    (separated_after (codes " (") (codes ", ") (value_words g.V.Same.same (g.N.Names.name_of l.names) (g.S.Valuation.value_at l.values) (variables_in (tree_of l.expression))))

abbrev pub decreases-loop-variable : goal.decreases-loop-variable
decreases-loop-variable g l = length (variables_in (tree_of l.expression)) - l.place
