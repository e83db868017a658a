use Rattle.std.proofs.Common.{◌≡◌, ◌∙◌, ap, sym, subst, append-nil, OnOk}
use Rattle.std.specs.Prelude.{flat_map}
use Rattle.std.specs.Io.KnownBytes.{Appends}
use Rattle.connector_tree.specs.Tokens.{node_tokens, children_tokens}
use Rattle.part_text.proofs.TokenTexts.{fusion-text}
use Rattle.plant_drawing.specs.Edges.{token_edge}
use Rattle.plant_drawing.proofs.edges.+edges.Goals as goal

pub print_node_edges-returns-in-Fusion : goal.print_node_edges-returns-in-Fusion
print_node_edges-returns-in-Fusion g t c =
    let say = token_edge c.args.drawn (g.E.LeafEdges.edge_to c.args.edges.now) in
    let printed : flat_map say (node_tokens c.args.node.now c.args.trigger) ≡ flat_map say (children_tokens c.deref.result.now) =
    ap (λ node. flat_map say (node_tokens node c.args.trigger)) c.in-Fusion.is
    ∙ fusion-text say c.in-Fusion.children c.args.trigger
    ∙ append-nil (flat_map say (children_tokens c.in-Fusion.children.items))
    ∙ ap (λ children. flat_map say (children_tokens children)) (sym c.deref.ensures.value) in
    subst (λ text. OnOk c.print_edges.result (Appends (g.W.Write.contents c.args.output.now) (g.W.Write.contents c.print_edges.new.output) text)) (sym printed) c.print_edges.ensures
