use Rattle.std.proofs.Common.{sym, subst, map, OnOk}
use Rattle.std.specs.Prelude.{flat_map}
use Rattle.std.specs.Io.KnownBytes.{Appends}
use Rattle.petri_atom.specs.Atom.{definition_of}
use Rattle.connector_tree.specs.Tokens.{node_tokens, children_tokens}
use Rattle.part_text.specs.Words.{spaced_word}
use Rattle.part_text.proofs.TokenTexts.{bracket-printed}
use Rattle.part_text.proofs.words.+words.Goals as goal

pub print_node_words-returns-in_ok-print_words-in-Fusion : goal.print_node_words-returns-in_ok-print_words-in-Fusion
print_node_words-returns-in_ok-print_words-in-Fusion g t c =
    let say = spaced_word (map definition_of c.args.atoms.now) in
    let start = g.W.Write.contents c.args.output.now in
    let begun = g.W.Write.contents c.print_text.new.writer in
    let printed = g.W.Write.contents c.print_words.new.output in
    let after = g.W.Write.contents c.print_close.new.output in
    let children : Appends begun printed (flat_map say (children_tokens c.in-Fusion.children.items)) =
    subst (λ items. Appends begun printed (flat_map say (children_tokens items))) c.deref.ensures.value c.in_ok-print_words-in-Fusion.ensures in
    subst (λ node. OnOk c.print_close.result (Appends start after (flat_map say (node_tokens node c.args.trigger)))) (sym c.in-Fusion.is)
    (bracket-printed say c.in-Fusion.children c.args.trigger c.print_close.result start begun printed after c.in_ok-print_text-in-Fusion.ensures children c.print_close.ensures)
