use Rattle.std.proofs.Common.{◌≡◌, ◌∙◌, sym, ap, Err}
use Rattle.std.proofs.lemmas.Result.{IfOk-at_ok, err_from_is_err_and}
use Rattle.connector_tree.specs.Tree.{tree_of}
use Rattle.connector_tree.specs.Tokens.{is_balanced}
use Rattle.connector_tree.specs.TokenFaults.{fault_in}
use Rattle.connector_tree.proofs.TokenFaults.{fault-tree}
use Rattle.connector_lines.specs.Trees.{tree_in}
use Rattle.connector_lines.proofs.Readings.{balanced, tree_read}
use Rattle.connector_lines.proofs.WantingTrees.{tree_wants_none}
use Rattle.connector_lines.proofs.tree.read_tree.Goals as goal

pub returns-in_err-tokens-clause-memory : goal.returns-in_err-tokens-clause-memory
returns-in_err-tokens-clause-memory g c =
    let named = g.N.Ports.port_named c.args.names.now in
    let p = err_from_is_err_and c.from_residual.result c.from_residual.ensures.1 in
    rw (p.1, p.2) (λ memory. absurd (tree_wants_none named c.args.words.now (ap (tree_in named) (sym c.peek.ensures.kept) ∙ c.in_err-tokens.ensures.fault ∙ ap Err memory)))

pub connector_of-requires-clause-balanced : goal.connector_of-requires-clause-balanced
connector_of-requires-clause-balanced g c =
    let named = g.N.Ports.port_named c.args.names.now in
    let read = c.in_ok-tokens.ensures.tokens in
    let made : c.in_ok-tokens-2.field-0.items ≡ read.tokens = IfOk-at_ok (λ v. v.items ≡ read.tokens) c.in_ok-tokens-2.was read.are_made in
    ap (is_balanced 0) (c.deref.ensures.value ∙ made) ∙ balanced named c.peek.new.self 0 read.tokens (tree_read named c.peek.new.self read.tokens read.says).0

pub connector_of-requires-clause-judged : goal.connector_of-requires-clause-judged
connector_of-requires-clause-judged g c =
    let named = g.N.Ports.port_named c.args.names.now in
    let read = c.in_ok-tokens.ensures.tokens in
    let made : c.in_ok-tokens-2.field-0.items ≡ read.tokens = IfOk-at_ok (λ v. v.items ≡ read.tokens) c.in_ok-tokens-2.was read.are_made in
    ap fault_in (c.deref.ensures.value ∙ made) ∙ (tree_read named c.peek.new.self read.tokens read.says).1

pub returns-clause-sound : goal.returns-clause-sound
returns-clause-sound g c =
    let named = g.N.Ports.port_named c.args.names.now in
    let read = c.in_ok-tokens.ensures.tokens in
    let made : c.in_ok-tokens-2.field-0.items ≡ read.tokens = IfOk-at_ok (λ v. v.items ≡ read.tokens) c.in_ok-tokens-2.was read.are_made in
    sym (fault-tree (tree_of c.in_ok-connector_of.field-0)) ∙ ap fault_in (c.in_ok-connector_of.ensures ∙ c.deref.ensures.value ∙ made) ∙ (tree_read named c.peek.new.self read.tokens read.says).1
