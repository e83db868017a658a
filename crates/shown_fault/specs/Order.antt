-- What is wrong with a word where it stands, by the words before it.
use Rattle.std.specs.Prelude.{ℕ, Bool, not, ◌&&◌, if◌then◌else◌, List, codes}
use Rattle.petri_atom.specs.Name.{is_same_text}
use Rattle.shown_fault.specs.Front.{has_word}
use Rattle.shown_fault.specs.Spelling.{either_text, is_round}
use Rattle.shown_fault.specs.Table.{has_part}

-- what is wrong with a `when` that stands after the `do` of a transition
unfoldable pub guard_text : List (List ℕ) → List ℕ → List ℕ
guard_text words word =
    if is_same_text word (codes "when") && has_word words (codes "do")
    then codes "'when' comes before 'do': the guard stands before the updates" else codes ""

-- the word has a comma, and no bracket
abbrev pub has_comma : List ℕ → Bool
has_comma word = not (is_round word) && has_part word (codes ",")

-- what is wrong with a word that has a comma; empty if it has none
unfoldable pub comma_text : List (List ℕ) → List ℕ → List ℕ
comma_text words word =
    if not (has_comma word) then codes ""
    else if has_word words (codes "do") then codes "';' stands between two updates, as a word of its own"
    else codes "spaces alone stand between words, and no comma"

-- what is wrong with a word that stands after these, whatever has to stand there; empty if that is not known
abbrev pub order_text : List (List ℕ) → List ℕ → List ℕ
order_text words word = either_text (guard_text words word) (comma_text words word)
