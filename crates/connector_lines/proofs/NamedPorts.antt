-- What words say that are a tree: a tree without a fault, over ports that are named.
use Rattle.std.proofs.Common.{◌≡◌, ℕ, ◌==◌, codes, Bool, true, false, if◌then◌else◌, List, [], ◌∷◌, Option, Some, None, Result, Ok, Err, IfOk, refl, sym, ap, subst, ◌∙◌}
use Rattle.std.specs.List.{list_all}
use Rattle.std.specs.Option.{option_map_or}
use Rattle.std.proofs.lemmas.Bool.{and_from}
use Rattle.petri_atom.specs.Name.{is_same_text}
use Rattle.plant_words.specs.Lines.{is_legal_line}
use Rattle.plant_words.specs.Splits.{PortParts, port_parts}
use Rattle.connector_tree.specs.declared.tree.Port.{Port}
use Rattle.connector_tree.specs.declared.faults.TreeFault.{TreeFault}
use Rattle.connector_tree.specs.declared.token.Token.{Token}
use Rattle.connector_tree.specs.declared.token.Token.TheVariants.{Leaf, Open, Close}
use Rattle.connector_tree.specs.Tokens.{level_after, ports_in}
use Rattle.connector_tree.specs.TokenFaults.{fault_in}
use Rattle.connector_lines.specs.declared.tree_words_fault.TreeWordsFault.{TreeWordsFault}
use Rattle.connector_lines.specs.declared.tree_words_fault.TreeWordsFault.TheVariants.{NotAscii, Shape}
use Rattle.connector_lines.specs.Tokens.{Names, Reading, leaf_of, leaf_in, legal_token_in, token_in, led_by, behind, tokens_in}
use Rattle.connector_lines.specs.Trees.{unless, judged, tree_in}

-- ---- faults

unless-sound : (tokens read : List Token) (fault : Option TreeFault) → fault_in tokens ≡ fault → unless tokens fault ≡ Ok read →
    (tokens ≡ read) × (fault_in read ≡ None)
unless-sound tokens read None none told =
    let same : tokens ≡ read = cc in
    (same, ap fault_in (sym same) ∙ none)
unless-sound tokens read (Some fault) some told = absurd (cc)

judged-sound : (r : Reading) (tokens : List Token) → judged r ≡ Ok tokens → (r ≡ Ok tokens) × (fault_in tokens ≡ None)
judged-sound (Ok read) tokens told =
    let parts = unless-sound read tokens (fault_in read) refl told in
    (ap Ok parts.0, parts.1)
judged-sound (Err fault) tokens told = absurd (cc)

-- a tree that words are has no fault
pub tree-sound : (named : Names) (words : List (List ℕ)) (tokens : List Token) → tree_in named words ≡ Ok tokens → fault_in tokens ≡ None
tree-sound named [] tokens told = absurd (cc)
tree-sound named (word ∷ words) tokens told = (judged-sound (tokens_in named 0 (word ∷ words)) tokens told).1

-- ---- ports

-- the port of a token, where it is one, passes the test
abbrev token_passes : (Port → Bool) → Token → Bool
token_passes test (Leaf port trigger) = test port
token_passes test Open = true
token_passes test (Close trigger) = true

-- ports that pass the test, where tokens were read
abbrev PortsPass : (Port → Bool) → Reading → Type 0
PortsPass test reading = IfOk reading (λ tokens. list_all test (ports_in tokens) ≡ true)

module _ (test : Port → Bool) (named : Names) (passes : (atom port : List ℕ) (p : Port) → named atom port ≡ Some p → test p ≡ true) where
  at_port : (trigger : Bool) (found : Option Port) → ((p : Port) → found ≡ Some p → test p ≡ true) →
      IfOk (leaf_of trigger found) (λ token. token_passes test token ≡ true)
  at_port trigger None each = tt
  at_port trigger (Some p) each = each p refl

  at_leaf : (parts : Option PortParts) → IfOk (leaf_in named parts) (λ token. token_passes test token ≡ true)
  at_leaf None = tt
  at_leaf (Some parts) = at_port parts.quoted (named parts.atom parts.port) (passes parts.atom parts.port)

  at_bracket : (opens closes leads : Bool) (parts : Option PortParts) →
      IfOk (option_map_or (λ bracket. Ok bracket) (if opens then Some Open else if closes then Some (Close false) else if leads then Some (Close true) else None) (leaf_in named parts)) (λ token. token_passes test token ≡ true)
  at_bracket true closes leads parts = refl
  at_bracket false true leads parts = refl
  at_bracket false false true parts = refl
  at_bracket false false false parts = at_leaf parts

  at_legal : (legal : Bool) (said : Result Token TreeWordsFault) → IfOk said (λ token. token_passes test token ≡ true) →
      IfOk (if legal then said else Err NotAscii) (λ token. token_passes test token ≡ true)
  at_legal true said own = own
  at_legal false said own = tt

  led : (token : Token) (reading : Reading) → token_passes test token ≡ true → PortsPass test reading → PortsPass test (led_by token reading)
  led (Leaf port trigger) (Ok tokens) own all = and_from _ _ own all
  led Open (Ok tokens) own all = all
  led (Close trigger) (Ok tokens) own all = all
  led token (Err fault) own all = tt

  at_level : (token : Token) (next : Option ℕ) (read : ℕ → Reading) → token_passes test token ≡ true →
      ((level : ℕ) → PortsPass test (read level)) → PortsPass test (option_map_or (λ n. led_by token (read n)) next (Err Shape))
  at_level token None read own all = tt
  at_level token (Some level) read own all = led token (read level) own (all level)

  at_word : (word : Result Token TreeWordsFault) (level : ℕ) (read : ℕ → Reading) →
      IfOk word (λ token. token_passes test token ≡ true) → ((next : ℕ) → PortsPass test (read next)) →
      PortsPass test (behind word level read)
  at_word (Err fault) level read own all = tt
  at_word (Ok token) level read own all = at_level token (level_after token level) read own all

  at_end : (closed : Bool) → PortsPass test (if closed then Ok [] else Err Shape)
  at_end true = refl
  at_end false = tt

  at_words : (level : ℕ) (words : List (List ℕ)) → PortsPass test (tokens_in named level words)
  at_words level [] = at_end (level == 0)
  at_words level (word ∷ words) =
      at_word (token_in named word) level (λ next. tokens_in named next words)
      (at_legal (is_legal_line word) (legal_token_in named word)
      (at_bracket (is_same_text word (codes "[")) (is_same_text word (codes "]")) (is_same_text word (codes "]'")) (port_parts word)))
      (λ next. at_words next words)

  -- the ports of a tree that words are pass a test that each port passes which is named
  pub ports-pass : (words : List (List ℕ)) (tokens : List Token) → tree_in named words ≡ Ok tokens → list_all test (ports_in tokens) ≡ true
  ports-pass [] tokens told = absurd (cc)
  ports-pass (word ∷ words) tokens told =
      subst (PortsPass test) (judged-sound (tokens_in named 0 (word ∷ words)) tokens told).0 (at_words 0 (word ∷ words))
