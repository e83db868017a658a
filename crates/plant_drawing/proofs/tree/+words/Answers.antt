use Rattle.std.proofs.Common.{◌≡◌, ◌+◌, ◌∙◌, ap, sym, subst, List, [], ◌∷◌, ◌++◌, ℕ, codes, map, arith, drop, IfOk}
use Rattle.std.proofs.lemmas.List.{drop_all, map-append}
use Rattle.petri_atom.specs.Atom.{definition_of}
use Rattle.connector_tree.specs.Tokens.{node_tokens, children_tokens}
use Rattle.connector_tree.specs.declared.token.Token.TheVariants.{Close}
use Rattle.connector_tree.proofs.Written.{tokens-fusion}
use Rattle.part_text.specs.Words.{token_word, trigger_mark}
use Rattle.plant_drawing.specs.Wrapped.{Wraps}
use Rattle.plant_drawing.proofs.Breaking.{wraps-last, wraps-more, wraps-none, wraps-same, wraps-then}
use Rattle.plant_drawing.proofs.Listing.{words-child}
use Rattle.plant_drawing.proofs.tree.+words.Goals as goal

pub print_words-loop-child-preserved : goal.print_words-loop-child-preserved
print_words-loop-child-preserved g t c =
    let say = token_word (map definition_of c.args.atoms.now) in
    let i = c.loop-child.child-index in
    let children = c.args.children.now in
    let child = c.child-item.result in
    wraps-more (g.W.Write.contents c.args.output.now) (g.W.Write.contents c.loop-child.output) (g.W.Write.contents c.print_node_words.new.output)
    c.args.left c.loop-child.now c.in_ok-now.now
    (map say (node_tokens child.node child.trigger)) (map say (children_tokens (drop (i + 1) children))) (map say (children_tokens children))
    (wraps-same c.loop-child.invariant (words-child say children i child (omega arith) c.child-item.is)) c.in_ok-now.ensures

pub print_words-returns : goal.print_words-returns
print_words-returns g t c =
    let say = token_word (map definition_of c.args.atoms.now) in
    let children = c.args.children.now in
    let done : drop c.loop-child.child-index children ≡ [] = drop_all c.loop-child.child-index children c.loop-child-test.false in
    (wraps-same {rest = map say (children_tokens (drop c.loop-child.child-index children))} c.loop-child.invariant (ap (λ cs. map say (children_tokens cs)) done)).by
    (g.W.Write.contents c.loop-child.output) c.loop-child.now (wraps-none c.loop-child.now (g.W.Write.contents c.loop-child.output))

pub print_node_words-returns-in_ok-inside-in-Fusion : goal.print_node_words-returns-in_ok-inside-in-Fusion
print_node_words-returns-in_ok-inside-in-Fusion g t c =
    let say = token_word (map definition_of c.args.atoms.now) in
    let trigger = c.args.trigger in
    let left = c.args.left in
    let now = c.in_ok-now-in-Fusion.now in
    let inside = c.in_ok-inside-in-Fusion.inside in
    let items = c.in-Fusion.children.items in
    let inner = map say (children_tokens items) in
    let last : List (List ℕ) = (codes "]" ++ trigger_mark trigger) ∷ [] in
    let start = g.W.Write.contents c.args.output.now in
    let begun = g.W.Write.contents c.print_word.new.output in
    let printed = g.W.Write.contents c.print_words.new.output in
    let after = g.W.Write.contents c.print_close.new.output in
    let children : Wraps now inner begun printed inside =
    subst (λ cs. Wraps now (map say (children_tokens cs)) begun printed inside) c.deref.ensures.value c.in_ok-inside-in-Fusion.ensures in
    let words : map say (node_tokens c.args.node.now trigger) ≡ codes "[" ∷ (inner ++ last) =
    ap (λ node. map say (node_tokens node trigger)) c.in-Fusion.is
    ∙ ap (map say) (tokens-fusion c.in-Fusion.children trigger)
    ∙ ap (λ ws. codes "[" ∷ ws) (map-append say (children_tokens items) (Close trigger ∷ [])) in
    subst (λ ws. IfOk c.print_close.result (Wraps left ws start after)) (sym words)
    (wraps-last left inside c.print_close.result (codes "[" ∷ inner) last start printed after
    (wraps-then left now inside (codes "[" ∷ []) inner start begun printed c.in_ok-now-in-Fusion.ensures children) c.print_close.ensures)
