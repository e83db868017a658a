-- The words of the children from this one on are left.
use Rattle.std.proofs.Common.{drop, map}
use Rattle.std.specs.Prelude.{flat_map}
use Rattle.petri_atom.specs.Atom.{definition_of}
use Rattle.connector_tree.specs.Tokens.{children_tokens}
use Rattle.text_io.proofs.Leading.{Leads}
use Rattle.part_text.specs.Words.{spaced_word}
use Rattle.part_text.proofs.words.+words.Given as goal

abbrev pub invariant-print_words-loop-child : goal.invariant-print_words-loop-child
invariant-print_words-loop-child g l =
    Leads (g.W.Write.contents l.initial.output) (g.W.Write.contents l.output)
    (flat_map (spaced_word (map definition_of l.atoms)) (children_tokens (drop l.child-index l.children)))
    (flat_map (spaced_word (map definition_of l.atoms)) (children_tokens l.children))
