-- The words of the children from this one on are left.
use Rattle.std.proofs.Common.{drop, map}
use Rattle.petri_atom.specs.Atom.{definition_of}
use Rattle.connector_tree.specs.Tokens.{children_tokens}
use Rattle.part_text.specs.Words.{token_word}
use Rattle.plant_drawing.proofs.Breaking.{WrapsOn}
use Rattle.plant_drawing.proofs.tree.+words.Given as goal

abbrev pub invariant-print_words-loop-child : goal.invariant-print_words-loop-child
invariant-print_words-loop-child g l =
    WrapsOn (g.W.Write.contents l.initial.output) (g.W.Write.contents l.output) l.left l.now
    (map (token_word (map definition_of l.atoms)) (children_tokens (drop l.child-index l.children)))
    (map (token_word (map definition_of l.atoms)) (children_tokens l.children))
