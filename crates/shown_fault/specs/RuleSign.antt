-- A rule with another word in the place of its sign.
use Rattle.std.specs.Prelude.{ℕ, Bool, if◌then◌else◌, List, [], ◌∷◌, ◌++◌, drop, slice_get, unwrap_or, codes}
use Rattle.std.specs.Option.{option_map_or}
use Rattle.petri_atom.specs.Name.{is_same_text}
use Rattle.shown_fault.specs.declared.rule_sign.TheConstants.{LEFT_SIDE, RIGHT_SIDE, CONDITION}
use Rattle.shown_fault.specs.declared.window.TheConstants.{MAX_SHOWN}
use Rattle.shown_fault.specs.Front.{is_word_at, has_word}
use Rattle.shown_fault.specs.Shown.{shown, joined, cut_to, advice_line}

-- words, each after a space
abbrev pub spaced : List (List ℕ) → List ℕ
spaced [] = []
spaced (word ∷ words) = codes " " ++ word ++ spaced words

-- the words of a rule have a condition
abbrev pub has_condition : List (List ℕ) → Bool
has_condition words = is_word_at words CONDITION (codes "when")

-- the condition of a rule and what follows it, after a space; empty if there is none
abbrev pub condition_text : List (List ℕ) → List ℕ
condition_text words = if has_condition words then spaced (drop CONDITION words) else codes ""

-- what to write, if the sides of a rule have to change places
unfoldable pub turned_line : List (List ℕ) → List ℕ → List ℕ → List ℕ
turned_line words left right =
    advice_line (codes "write '" ∷ cut_to MAX_SHOWN (shown (joined (codes "prio " ∷ right ∷ codes " < " ∷ left ∷ condition_text words ∷ []))) ∷ codes "'" ∷ [])

-- the same of the sides of the rule, if it has a right one
unfoldable pub turned_advice : List (List ℕ) → List ℕ
turned_advice words = option_map_or (turned_line words (unwrap_or (slice_get words LEFT_SIDE) [])) (slice_get words RIGHT_SIDE) []

-- what can be done about a word in the place of the sign of a rule with these words
abbrev pub sign_advice : List (List ℕ) → List ℕ → List ℕ
sign_advice words word =
    if is_same_text word (codes ">") then turned_advice words
    else if has_word words (codes "<") then advice_line (codes "a side of a rule is one connector: write one rule a line" ∷ [])
    else []
