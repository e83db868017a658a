use Rattle.std.proofs.Common.{◌≡◌, ◌+◌, ◌<◌, ◌≤◌, ◌++◌, List, length, IfOk}
use Rattle.connector_tree.specs.declared.token.Token.{Token}
use Rattle.connector_tree.specs.TokenFaults.{fault_in}
use Rattle.connector_lines.specs.Tokens.{tokens_in}
use Rattle.connector_lines.specs.Judging.{fault_after}
use Rattle.connector_lines.proofs.Readings.{after_all}
use Rattle.connector_lines.proofs.tree.read_tokens.Given as goal

-- The tokens so far were made if there was memory for them. What is left leads to the same end as all did, and the shape
-- says which fault the tree has with the tokens that are left.
abbrev pub invariant-loop-word : goal.invariant-loop-word
invariant-loop-word g l = record {
  before : List Token;
  are_made : IfOk l.tokens (λ tokens. tokens.items ≡ before);
  within : l.level + length l.words ≤ length l.initial.words;
  so_far : after_all before (tokens_in (g.N.Ports.port_named l.names) l.level l.words) ≡ tokens_in (g.N.Ports.port_named l.names) 0 l.initial.words;
  judged : (later : List Token) → 0 < length before + length later → fault_after l.shape l.level later ≡ fault_in (before ++ later);
}

abbrev pub decreases-loop-word : goal.decreases-loop-word
decreases-loop-word g l = length l.words
