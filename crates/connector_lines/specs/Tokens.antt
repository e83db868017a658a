-- What words say where a tree may stand.
use Rattle.std.specs.Prelude.{ℕ, ◌==◌, Bool, true, false, if◌then◌else◌, List, [], ◌∷◌, codes, Option, Some, None, Result, Ok, Err}
use Rattle.std.specs.Option.{option_map_or}
use Rattle.petri_atom.specs.Name.{is_same_text}
use Rattle.plant_words.specs.Lines.{is_legal_line}
use Rattle.plant_words.specs.Splits.{PortParts, port_parts}
use Rattle.connector_tree.specs.declared.tree.Port.{Port}
use Rattle.connector_tree.specs.declared.token.Token.{Token}
use Rattle.connector_tree.specs.declared.token.Token.TheVariants.{Leaf, Open, Close}
use Rattle.connector_tree.specs.Tokens.{level_after}
use Rattle.connector_lines.specs.declared.tree_words_fault.TreeWordsFault.{TreeWordsFault}
use Rattle.connector_lines.specs.declared.tree_words_fault.TreeWordsFault.TheVariants.{NotAscii, UnknownName, Shape}

-- the ports of a plant, each by the names of its atom and its own
abbrev pub Names : Type 0
Names = List ℕ → List ℕ → Option Port

-- a bracket: `[`, or `]` and `]'`, where the quote marks the bracket as a trigger
abbrev pub bracket_in : List ℕ → Option Token
bracket_in word =
    if is_same_text word (codes "[") then Some Open
    else if is_same_text word (codes "]") then Some (Close false)
    else if is_same_text word (codes "]'") then Some (Close true)
    else None

-- the port of that name
abbrev pub leaf_of : Bool → Option Port → Result Token TreeWordsFault
leaf_of trigger None = Err UnknownName
leaf_of trigger (Some port) = Ok (Leaf port trigger)

-- what the parts of a port's word say, where it is one; a quote marks a trigger
abbrev pub leaf_in : Names → Option PortParts → Result Token TreeWordsFault
leaf_in named None = Err Shape
leaf_in named (Some parts) = leaf_of parts.quoted (named parts.atom parts.port)

-- what a word of legal bytes says: a bracket, or else a port that is named
abbrev pub legal_token_in : Names → List ℕ → Result Token TreeWordsFault
legal_token_in named word = option_map_or (λ bracket. Ok bracket) (bracket_in word) (leaf_in named (port_parts word))

-- what a word says; one with an illegal byte is that fault
abbrev pub token_in : Names → List ℕ → Result Token TreeWordsFault
token_in named word = if is_legal_line word then legal_token_in named word else Err NotAscii

-- the tokens of words, or their first fault
abbrev pub Reading : Type 0
Reading = Result (List Token) TreeWordsFault

-- a token, and those that are read after it
abbrev pub led_by : Token → Reading → Reading
led_by token (Ok tokens) = Ok (token ∷ tokens)
led_by token (Err fault) = Err fault

-- what one word says, and what is read after it with so many brackets open
abbrev pub behind : Result Token TreeWordsFault → ℕ → (ℕ → Reading) → Reading
behind (Err fault) level read = Err fault
behind (Ok token) level read = option_map_or (λ next. led_by token (read next)) (level_after token level) (Err Shape)

-- What each word says, where so many brackets are open before them: the first word from the left with a fault is the one at fault, and a
-- bracket that stays open is a fault after all words.
abbrev pub tokens_in : Names → ℕ → List (List ℕ) → Reading
tokens_in named level [] = if level == 0 then Ok [] else Err Shape
tokens_in named level (word ∷ words) = behind (token_in named word) level (λ next. tokens_in named next words)
