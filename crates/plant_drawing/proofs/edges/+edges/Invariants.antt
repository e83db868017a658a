-- The edges of the children from this one on are left.
use Rattle.std.proofs.Common.{drop}
use Rattle.std.specs.Prelude.{flat_map}
use Rattle.connector_tree.specs.Tokens.{children_tokens}
use Rattle.text_io.proofs.Leading.{Leads}
use Rattle.plant_drawing.specs.Edges.{token_edge}
use Rattle.plant_drawing.proofs.edges.+edges.Given as goal

abbrev pub invariant-print_edges-loop-child : goal.invariant-print_edges-loop-child
invariant-print_edges-loop-child g l =
    Leads (g.W.Write.contents l.initial.output) (g.W.Write.contents l.output)
    (flat_map (token_edge l.drawn (g.E.LeafEdges.edge_to l.edges)) (children_tokens (drop l.child-index l.children)))
    (flat_map (token_edge l.drawn (g.E.LeafEdges.edge_to l.edges)) (children_tokens l.children))
