-- No words say that memory is wanting.
use Rattle.std.proofs.Common.{◌≡◌, ◌≢◌, ap, ℕ, ◌==◌, Bool, true, false, if◌then◌else◌, List, [], ◌∷◌, Option, Some, None, Result, Ok, Err}
use Rattle.std.specs.Option.{option_map_or}
use Rattle.plant_words.specs.Lines.{is_legal_line}
use Rattle.plant_words.specs.Splits.{PortParts, port_parts}
use Rattle.connector_tree.specs.declared.tree.Port.{Port}
use Rattle.connector_tree.specs.declared.faults.TreeFault.{TreeFault}
use Rattle.connector_tree.specs.declared.token.Token.{Token}
use Rattle.connector_tree.specs.Tokens.{level_after}
use Rattle.connector_tree.specs.TokenFaults.{fault_in}
use Rattle.connector_lines.specs.declared.tree_words_fault.TreeWordsFault.{TreeWordsFault}
use Rattle.connector_lines.specs.declared.tree_words_fault.TreeWordsFault.TheVariants.{NotAscii, Memory, Shape}
use Rattle.connector_lines.specs.Tokens.{Names, Reading, bracket_in, leaf_of, leaf_in, legal_token_in, token_in, led_by, behind, tokens_in}
use Rattle.connector_lines.specs.Trees.{unless, judged, tree_in}

port_wants_none : (trigger : Bool) (port : Option Port) → leaf_of trigger port ≢ Err Memory
port_wants_none trigger None wants = absurd (cc)
port_wants_none trigger (Some port) wants = absurd (cc)

leaf_wants_none : (named : Names) (parts : Option PortParts) → leaf_in named parts ≢ Err Memory
leaf_wants_none named None wants = absurd (cc)
leaf_wants_none named (Some parts) wants = port_wants_none parts.quoted (named parts.atom parts.port) wants

said_wants_none : (bracket : Option Token) (leaf : Result Token TreeWordsFault) → leaf ≢ Err Memory → option_map_or (λ b. Ok b) bracket leaf ≢ Err Memory
said_wants_none None leaf none wants = none wants
said_wants_none (Some bracket) leaf none wants = absurd (cc)

legal_wants_none : (legal : Bool) (said : Result Token TreeWordsFault) → said ≢ Err Memory → ◌≢◌ {A = Result Token TreeWordsFault} (if legal then said else Err NotAscii) (Err Memory)
legal_wants_none true said none wants = none wants
legal_wants_none false said none wants = absurd (cc)

word_wants_none : (named : Names) (word : List ℕ) → token_in named word ≢ Err Memory
word_wants_none named word =
    legal_wants_none (is_legal_line word) (legal_token_in named word) (said_wants_none (bracket_in word) (leaf_in named (port_parts word)) (leaf_wants_none named (port_parts word)))

led_wants_none : (token : Token) (read : Reading) → read ≢ Err Memory → led_by token read ≢ Err Memory
led_wants_none token (Ok tokens) none wants = absurd (cc)
led_wants_none token (Err fault) none wants = none wants

level_wants_none : (token : Token) (level : Option ℕ) (read : ℕ → Reading) → ((next : ℕ) → read next ≢ Err Memory) → option_map_or (λ next. led_by token (read next)) level (Err Shape) ≢ Err Memory
level_wants_none token None read none wants = absurd (cc)
level_wants_none token (Some next) read none wants = led_wants_none token (read next) (none next) wants

after_wants_none : (said : Result Token TreeWordsFault) (level : ℕ) (read : ℕ → Reading) → said ≢ Err Memory → ((next : ℕ) → read next ≢ Err Memory) → behind said level read ≢ Err Memory
after_wants_none (Ok token) level read first none wants = level_wants_none token (level_after token level) read none wants
after_wants_none (Err fault) level read first none wants =
    let same : fault ≡ Memory = cc in
    first (ap Err same)

end_wants_none : (closed : Bool) → ◌≢◌ {A = Reading} (if closed then Ok [] else Err Shape) (Err Memory)
end_wants_none true wants = absurd (cc)
end_wants_none false wants = absurd (cc)

tokens_want_none : (named : Names) (level : ℕ) (words : List (List ℕ)) → tokens_in named level words ≢ Err Memory
tokens_want_none named level [] = end_wants_none (level == 0)
tokens_want_none named level (word ∷ words) =
    after_wants_none (token_in named word) level (λ next. tokens_in named next words) (word_wants_none named word) (λ next. tokens_want_none named next words)

unless_wants_none : (tokens : List Token) (fault : Option TreeFault) → unless tokens fault ≢ Err Memory
unless_wants_none tokens None wants = absurd (cc)
unless_wants_none tokens (Some fault) wants = absurd (cc)

judged_wants_none : (read : Reading) → read ≢ Err Memory → judged read ≢ Err Memory
judged_wants_none (Ok tokens) none = unless_wants_none tokens (fault_in tokens)
judged_wants_none (Err fault) none = none

-- the fault of a tree is no want of memory
pub tree_wants_none : (named : Names) (words : List (List ℕ)) → tree_in named words ≢ Err Memory
tree_wants_none named [] wants = absurd (cc)
tree_wants_none named (word ∷ words) wants = judged_wants_none (tokens_in named 0 (word ∷ words)) (tokens_want_none named 0 (word ∷ words)) wants
