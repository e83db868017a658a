use Rattle.std.proofs.Common.{◌≡◌, true, ◌++◌, drop}
use Rattle.connector_tree.specs.Tokens.{is_balanced}
use Rattle.connector_tree.specs.TreeDrafts.{tokens_made, level_of}
use Rattle.connector_tree.proofs.tree_draft.connector_of.Given as goal

abbrev pub invariant-loop-token : goal.invariant-loop-token
invariant-loop-token l = record {
  made : tokens_made l.draft ++ drop l.token-index l.tokens ≡ l.tokens;
  balanced : is_balanced (level_of l.draft) (drop l.token-index l.tokens) ≡ true;
}
