-- An expression that is written as in other languages, put into the form of plant texts.
use Rattle.std.specs.Prelude.{ℕ, zero, suc, ◌+◌, ◌-◌, min, ◌==◌, nat_lt, Bool, not, ◌&&◌, ◌||◌, false, if◌then◌else◌, List, [], ◌∷◌, ◌++◌, length, take, drop, slice_get, Option, Some, None, codes}
use Rattle.std.specs.Option.{option_map_or}
use Rattle.petri_atom.specs.Name.{is_same_text}
use Rattle.petri_atom.specs.declared.parts.TheConstants.{MAX_WORDS}
use Rattle.plant_words.specs.ExpressionWords.{could_be_variable}
use Rattle.plant_words.specs.Numbers.{is_numeric}
use Rattle.shown_fault.specs.Lent.{text_in}
use Rattle.shown_fault.specs.Operands.{operands_of}
use Rattle.shown_fault.specs.Shown.{joined}
use Rattle.shown_fault.specs.Tokens.{is_bracket, is_turned, level_of, plain}
use Rattle.shown_fault.specs.declared.prefix.Form.{Form}
use Rattle.shown_fault.specs.declared.prefix.Form.TheVariants.{Exact, Operation, Minus, Negation, Enclosed, Unclear}
use Rattle.shown_fault.specs.declared.tokens.TheConstants.{ADDING, COMPARING, LEVEL_COUNT}

-- how many operands a word takes; `at` takes an atom and a place
abbrev pub arity : List ℕ → ℕ
arity word = if is_same_text word (codes "at") then 2 else operands_of word

-- a number, or a word that may be a variable
abbrev pub is_operand : List ℕ → Bool
is_operand word = is_numeric word || could_be_variable word

-- the word, or what plant texts have for it, is a part of an expression
abbrev pub is_part : List ℕ → Bool
is_part word = not (is_turned word) && (nat_lt 0 (arity (plain word)) || is_operand (plain word))

-- the words are so many expressions in the form of plant texts, if brackets are left out
abbrev pub is_exact : ℕ → List (List ℕ) → Bool
is_exact wanted [] = wanted == 0
is_exact wanted (token ∷ tokens) =
    if is_bracket token then is_exact wanted tokens
    else if wanted == 0 || (nat_lt MAX_WORDS wanted || not (is_part token)) then false
    else is_exact (wanted - 1 + arity (plain token)) tokens

-- the words as plant texts have them, each after a space; brackets are left out
abbrev pub plain_text : List (List ℕ) → List ℕ
plain_text [] = []
plain_text (token ∷ tokens) = (if is_bracket token then [] else codes " " ++ plain token) ++ plain_text tokens

-- how many brackets are open after the word, if so many are before it
abbrev pub depth_after : ℕ → List ℕ → ℕ
depth_after depth token =
    if is_same_text token (codes "(") && nat_lt depth MAX_WORDS then depth + 1
    else if is_same_text token (codes ")") then depth - 1 else depth

-- the word is an operator of the level
abbrev pub is_at_level : ℕ → List ℕ → Bool
is_at_level level token = option_map_or (λ found. found == level) (level_of token) false

-- the place of the last of these words that is an operator of the level and stands in no brackets, where so many are open before
-- them, and they are numbered from this on; or else this
abbrev pub last_at : Option ℕ → ℕ → ℕ → ℕ → List (List ℕ) → Option ℕ
last_at last level depth index [] = last
last_at last level depth index (token ∷ tokens) =
    last_at (if depth == 0 && is_at_level level token then Some index else last) level (depth_after depth token) (index + 1) tokens

-- the loosest of so many levels, from this one on, of the operators that stand in no brackets, and the place of the last one of it
abbrev pub loosest : ℕ → ℕ → List (List ℕ) → Option (ℕ × ℕ)
loosest zero level tokens = None
loosest (suc more) level tokens = option_map_or (λ place. Some (level, place)) (last_at None level 0 0 tokens) (loosest more (level + 1) tokens)

-- the word at the place is this one
abbrev pub is_text_at : List (List ℕ) → ℕ → List ℕ → Bool
is_text_at tokens place text = option_map_or (λ token. is_same_text token text) (slice_get tokens place) false

-- a bracket is opened first, and one closed last
abbrev pub is_enclosed : List (List ℕ) → Bool
is_enclosed tokens = is_text_at tokens 0 (codes "(") && is_text_at tokens (length tokens - 1) (codes ")")

-- what words are made of whose loosest operator, of this level, has this place
abbrev pub split_form : ℕ → ℕ → List (List ℕ) → Form
split_form level place tokens = if nat_lt 0 place then Operation level place else if is_text_at tokens 0 (codes "-") then Minus else Unclear

-- what words are made of that have no operator between operands
abbrev pub other_form : List (List ℕ) → Form
other_form tokens =
    if is_text_at tokens 0 (codes "!") || is_text_at tokens 0 (codes "not") then Negation
    else if is_enclosed tokens then Enclosed else Unclear

-- what words are made of, if no looser operator than of this level has to be looked for
abbrev pub form_of : ℕ → List (List ℕ) → Form
form_of level tokens =
    if is_exact 1 tokens then Exact
    else option_map_or (λ found. split_form found.0 found.1 tokens) (loosest (LEVEL_COUNT - level) level tokens) (other_form tokens)

-- the loosest level of an operator on the left of one of this level: as loose, but that no side of a comparison is one
abbrev pub side_level : ℕ → ℕ
side_level level = if level == COMPARING then ADDING else level

-- the loosest level of an operator on the right of one of this level
abbrev pub tighter_level : ℕ → ℕ
tighter_level level = min level LEVEL_COUNT + 1

-- the operator of a word before its operands; nothing if one of them is not known
abbrev pub operation : List ℕ → Option (List ℕ) → Option (List ℕ) → Option (List ℕ)
operation token (Some left) (Some right) =
    Some (if is_turned token then joined (codes " " ∷ plain token ∷ right ∷ left ∷ []) else joined (codes " " ∷ plain token ∷ left ∷ right ∷ []))
operation token left right = None

-- a text after this one; nothing if it is not known
abbrev pub after_text : List ℕ → Option (List ℕ) → Option (List ℕ)
after_text lead (Some text) = Some (joined (lead ∷ text ∷ []))
after_text lead None = None

-- words that are made of this, in the form of plant texts, by how their parts are put into it
abbrev pub form_text : Form → (ℕ → List (List ℕ) → Option (List ℕ)) → List (List ℕ) → Option (List ℕ)
form_text Exact put tokens = Some (plain_text tokens)
form_text (Operation level place) put tokens =
    operation (text_in tokens place) (put (side_level level) (take place tokens)) (put (tighter_level level) (drop 1 (drop place tokens)))
form_text Minus put tokens = after_text (codes " - 0") (put (tighter_level ADDING) (drop 1 tokens))
form_text Negation put tokens = after_text (codes " !") (put LEVEL_COUNT (drop 1 tokens))
form_text Enclosed put tokens = put 0 (take (length tokens - 2) (drop 1 tokens))
form_text Unclear put tokens = None

-- The expression that words are, in the form of plant texts, each word after a space; nothing if they are none, or have parts within
-- parts more often than the first number says.
abbrev pub in_prefix : ℕ → ℕ → List (List ℕ) → Option (List ℕ)
in_prefix zero level tokens = None
in_prefix (suc fuel) level tokens = form_text (form_of level tokens) (λ inner parts. in_prefix fuel inner parts) tokens
