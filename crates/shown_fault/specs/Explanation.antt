-- A fault as it is shown: where it is, what is wrong there, and what can be done.
use Rattle.std.specs.Prelude.{◌≡◌, ℕ, ◌+◌, ◌-◌, Option, Some, None, List, [], ◌∷◌, length, take, drop, codes}
use Rattle.plant_words.specs.Words.{words_of}
use Rattle.plant_text.specs.declared.fault.PlantFault.{PlantFault}
use Rattle.shown_fault.specs.Shown.{joined}
use Rattle.shown_fault.specs.Window.{location_line, window_lines}
use Rattle.shown_fault.specs.Message.{message}
use Rattle.shown_fault.specs.Advice.{advice}

-- What is shown of a fault of a line of these, with a mark at its part after `start` bytes that has `len`: where to jump, the line
-- and the mark, what is wrong, and what can be done.
abbrev pub explanation_of : List ℕ → List (List ℕ) → PlantFault → List ℕ → ℕ → ℕ → List ℕ
explanation_of path lines found line start len =
    joined (location_line path found.line (length (take start line) + 1) ∷
    window_lines line start len ∷
    message found.fault found.line line (take start line) (take len (drop start line)) ∷
    codes "\n" ∷
    advice found.fault (take (found.line - 1) lines) (drop found.line lines) line (words_of (take start line)) (take len (drop start line)) ∷ [])

-- this is shown of a fault of the line, with a mark at some part of it
abbrev pub Explains : List ℕ → List (List ℕ) → PlantFault → Option (List ℕ) → List ℕ → Type 0
Explains path lines found None shown = Unit {0}
Explains path lines found (Some line) shown =
    (start : ℕ) × (len : ℕ) × (shown ≡ explanation_of path lines found line start len)
