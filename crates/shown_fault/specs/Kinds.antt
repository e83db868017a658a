-- The kinds of lines, and a line at the wrong place.
use Rattle.std.specs.Prelude.{ℕ, List, [], ◌∷◌, map, codes}
use Rattle.shown_fault.specs.Shown.{joined, advice_line, filled_line}
use Rattle.shown_fault.specs.Near.{near_line}
use Rattle.shown_fault.specs.Table.{text_of}
use Rattle.shown_fault.specs.declared.kinds.TheConstants.{FIRST_WORDS, OWNERS}

-- the kinds of lines, where no line begins with the word, and one that was perhaps meant
abbrev pub kind_advice : List ℕ → List ℕ
kind_advice word =
    joined (advice_line (codes "a line begins with atom, place, var, port, trans, connector, guard, move, prio, maximal or #" ∷ []) ∷
    near_line word (map (λ first. first.now) FIRST_WORDS) ∷ [])

-- to what a part belongs; empty if no line of a part begins with the word
unfoldable pub owner_text : List ℕ → List ℕ
owner_text word = text_of (map (λ row. (row.0.now, row.1.now)) OWNERS) word

-- where a line that begins with the word has to stand; nothing if it may stand anywhere
abbrev pub misplaced_advice : List ℕ → List ℕ
misplaced_advice word = filled_line (owner_text word)
