-- The words that would be right in the place of an expression, or of updates, of a line.
use Rattle.std.specs.Prelude.{ℕ, ◌+◌, ◌==◌, Bool, not, ◌||◌, if◌then◌else◌, List, [], ◌∷◌, map, take, drop, flat_map, Option, Some, None, codes}
use Rattle.std.specs.Option.{option_and_then, option_map_or}
use Rattle.petri_atom.specs.Name.{is_same_text}
use Rattle.petri_atom.specs.declared.parts.TheConstants.{MAX_WORDS}
use Rattle.plant_words.specs.Words.{words_of}
use Rattle.shown_fault.specs.Lent.{text_in}
use Rattle.shown_fault.specs.Names.{is_among}
use Rattle.shown_fault.specs.Operands.{ends_expression}
use Rattle.shown_fault.specs.Order.{has_comma}
use Rattle.shown_fault.specs.Prefix.{in_prefix}
use Rattle.shown_fault.specs.RuleSign.{spaced}
use Rattle.shown_fault.specs.Shown.{shown, joined, cut_to, advice_line}
use Rattle.shown_fault.specs.Tokens.{widened}
use Rattle.shown_fault.specs.Wanted.{wanted_in, is_of_expression}
use Rattle.shown_fault.specs.declared.here.TheConstants.{OPENERS}
use Rattle.shown_fault.specs.declared.tokens.Class.TheVariants.{Name}
use Rattle.shown_fault.specs.declared.window.TheConstants.{MAX_SHOWN}

-- an expression begins after the word
abbrev pub is_opener : List ℕ → Bool
is_opener word = is_among (map (λ opener. opener.now) OPENERS) word

-- the place of the last of these words after which an expression begins, numbered from this on; or else this
abbrev pub opening : ℕ → ℕ → List (List ℕ) → ℕ
opening last index [] = last
opening last index (word ∷ words) = opening (if is_opener word then index else last) (index + 1) words

-- the place of the first of these words that stands after an expression, numbered from this on, or that after them all
abbrev pub end_of : ℕ → List (List ℕ) → ℕ
end_of index [] = index
end_of index (word ∷ words) = if ends_expression word then index else end_of (index + 1) words

-- the words up to the first one that stands after an expression
abbrev pub until_end : List (List ℕ) → List (List ℕ)
until_end words = take (end_of 0 words) words

-- the words of the expression of a line in which these first words of it end
abbrev pub expression_words : List (List ℕ) → List (List ℕ) → List (List ℕ)
expression_words line words = until_end (drop 1 (drop (opening 0 0 words) line))

-- a text, unless it is this one
abbrev pub unless_same : List ℕ → List ℕ → Option (List ℕ)
unless_same written text = if is_same_text text written then None else Some text

-- the expression that words are, in the form of plant texts; none of more parts within parts than an expression may have words
unfoldable pub in_form : List (List ℕ) → Option (List ℕ)
in_form tokens = in_prefix MAX_WORDS 0 tokens

-- the words of an expression in the form of plant texts, each after a space; none if they have it already, or are no expression in
-- any form
unfoldable pub righted : List (List ℕ) → Option (List ℕ)
righted words = option_and_then (unless_same (spaced words)) (in_form (words_of (widened Name (spaced words))))

-- what to write in the place of words
abbrev pub write_line : List ℕ → List ℕ
write_line text = advice_line (codes "here write '" ∷ cut_to MAX_SHOWN (shown text) ∷ codes "'" ∷ [])

-- what to write in the place of an expression after this word; nothing if that is not known
abbrev pub opened_line : List ℕ → Option (List ℕ) → List ℕ
opened_line opener text = option_map_or (λ text. write_line (joined (opener ∷ text ∷ []))) text []

-- what to write in the place of the expression of a line in which these first words of it end; nothing if that is not known
unfoldable pub expression_line : List (List ℕ) → List (List ℕ) → List ℕ
expression_line line words =
    if is_among (expression_words line words) (codes "at") then []
    else opened_line (text_in words (opening 0 0 words)) (righted (expression_words line words))

-- a text with `;` as a word in the place of each comma (44)
abbrev pub parted_text : List ℕ → List ℕ
parted_text text = flat_map (λ byte. if byte == 44 then codes " ; " else byte ∷ []) text

-- the place of the first of these words that is this one, numbered from this on, or that after them all
abbrev pub place_of : ℕ → List ℕ → List (List ℕ) → ℕ
place_of index word [] = index
place_of index word (found ∷ words) = if is_same_text found word then index else place_of (index + 1) word words

-- the updates of a line from its `do` on, with `;` in the place of each comma; nothing if the word has no comma
unfoldable pub updates_line : List (List ℕ) → List ℕ → List ℕ
updates_line line word =
    if not (has_comma word) || not (is_among line (codes "do")) then []
    else write_line (joined (codes "do" ∷ spaced (drop 1 (words_of (parted_text (spaced (drop (place_of 0 (codes "do") line) line))))) ∷ []))

-- what to write in the place of a part of a line, whose word at fault stands after these in an expression
abbrev pub here_advice : List (List ℕ) → List (List ℕ) → List ℕ → List ℕ
here_advice line words word =
    if not (is_of_expression (wanted_in words)) then [] else joined (updates_line line word ∷ expression_line line words ∷ [])
