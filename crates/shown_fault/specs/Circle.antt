-- The rules that lead round: those of the connectors that are below and above a connector.
use Rattle.std.specs.Prelude.{ℕ, zero, suc, ◌+◌, Bool, false, not, ◌&&◌, if◌then◌else◌, List, [], ◌∷◌, ◌++◌, Option, slice_get, codes}
use Rattle.std.specs.Option.{option_and_then, option_map, option_map_or}
use Rattle.std.specs.List.{list_any}
use Rattle.std.specs.Borrow.{Bor}
use Rattle.std.specs.Fmt.{decimal}
use Rattle.plant_words.specs.Words.{words_of}
use Rattle.plant_words.specs.Splits.{named_mask_in}
use Rattle.shown_fault.specs.declared.circle.TheConstants.{MAX_SHOWN_RULES}
use Rattle.shown_fault.specs.declared.rule_sign.TheConstants.{RIGHT_SIDE}
use Rattle.shown_fault.specs.declared.window.TheConstants.{MAX_SHOWN}
use Rattle.shown_fault.specs.Shown.{shown, joined, cut_to, advice_line}
use Rattle.shown_fault.specs.Names.{second_word, is_among}
use Rattle.shown_fault.specs.RuleSign.{has_condition}

-- two lent names
abbrev pub names_shown : Bor (List ℕ) × Bor (List ℕ) → List ℕ × List ℕ
names_shown names = (names.0.now, names.1.now)

-- the connector of a side
abbrev pub connector_of : List ℕ → List ℕ
connector_of side = option_map_or (λ parts. parts.0) (named_mask_in side) side

-- the connectors of both sides of a line `prio`
abbrev pub sides_in : List ℕ → Option (List ℕ × List ℕ)
sides_in line =
    option_and_then (λ left. option_map (λ right. (connector_of left, connector_of right)) (slice_get (words_of line) RIGHT_SIDE))
    (second_word (codes "prio") line)

-- sides, the lower one first if the way goes up
abbrev pub facing : Bool → List ℕ × List ℕ → List ℕ × List ℕ
facing is_up sides = if is_up then sides else (sides.1, sides.0)

-- the second side put to the connectors, if the first one is one of them
abbrev pub with_reached : List (List ℕ) → List ℕ × List ℕ → List (List ℕ)
with_reached names sides = if is_among names sides.0 && not (is_among names sides.1) then names ++ sides.1 ∷ [] else names

-- the connectors, and each one that a rule of these lines sets directly above one of them, or below, rule by rule
abbrev pub spread : Bool → List (List ℕ) → List (List ℕ) → List (List ℕ)
spread is_up names [] = names
spread is_up names (line ∷ lines) =
    spread is_up (option_map_or (λ sides. with_reached names (facing is_up sides)) (sides_in line) names) lines

-- the connectors to which a way of rules leads up from these, or down, by so many rounds over the rules
abbrev pub reached : ℕ → Bool → List (List ℕ) → List (List ℕ) → List (List ℕ)
reached zero is_up names lines = names
reached (suc rounds) is_up names lines = reached rounds is_up (spread is_up names lines) lines

-- the line is a rule that leads from a connector above to one below
abbrev pub takes_part : List (List ℕ) → List (List ℕ) → List ℕ → Bool
takes_part above below line =
    option_map_or (λ sides. is_among above sides.0 && is_among below sides.1) (sides_in line)
    (option_map_or (λ name. is_among above name && is_among below name) (second_word (codes "maximal") line) false)

-- a rule with the number of its line
abbrev pub rule_line : ℕ → List ℕ → List ℕ
rule_line number line = advice_line (codes "line " ∷ decimal number ∷ codes ": " ∷ cut_to MAX_SHOWN (shown line) ∷ [])

-- a line for each rule that leads round, of lines that are numbered from this on, where so many are shown
abbrev pub rule_lines : ℕ → ℕ → List (List ℕ) → List (List ℕ) → List (List ℕ) → List ℕ
rule_lines room number above below [] = []
rule_lines zero number above below (line ∷ lines) =
    if takes_part above below line then codes "  ..\n" else rule_lines zero (number + 1) above below lines
rule_lines (suc room) number above below (line ∷ lines) =
    if takes_part above below line then rule_line number line ++ rule_lines room (number + 1) above below lines
    else rule_lines (suc room) (number + 1) above below lines

-- one of the lines is a rule with a condition, and leads round
abbrev pub has_conditions : List (List ℕ) → List (List ℕ) → List (List ℕ) → Bool
has_conditions above below lines = list_any (λ line. has_condition (words_of line) && takes_part above below line) lines

-- that conditions do not matter, if a rule that leads round has one
abbrev pub condition_line : List (List ℕ) → List (List ℕ) → List (List ℕ) → List ℕ
condition_line above below lines =
    if has_conditions above below lines
    then advice_line (codes "conditions do not matter here: rules that lead round are refused even if they never count together" ∷ [])
    else []

-- the rules that lead round, and that conditions do not matter if one of these has one
unfoldable pub circle_lines : List (List ℕ) → List (List ℕ) → List (List ℕ) → List ℕ
circle_lines above below lines =
    joined (rule_lines MAX_SHOWN_RULES 1 above below lines ∷ condition_line above below lines ∷ [])
