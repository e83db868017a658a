-- Where a fault stands: the line for an editor, and the part of the text's line round it, with a mark under it.
use Rattle.std.specs.Prelude.{ℕ, ◌-◌, max, min, List, [], ◌∷◌, ◌==◌, length, take, drop, replicate, nat_le, if◌then◌else◌, codes}
use Rattle.std.specs.Fmt.{decimal}
use Rattle.shown_fault.specs.declared.window.TheConstants.{MAX_SHOWN, LEAD, DOTS}
use Rattle.shown_fault.specs.Shown.{shown, joined, cut_to}

-- where to jump: the path, the line's number and the column, both from 1
abbrev pub location_line : List ℕ → ℕ → ℕ → List ℕ
location_line path line column =
    joined (codes "  " ∷ shown path ∷ codes ":" ∷ decimal line ∷ codes ":" ∷ decimal column ∷ codes "\n" ∷ [])

-- as many cut off, but none if `...` would be no shorter
abbrev pub worth_dots : ℕ → ℕ
worth_dots cut = if nat_le cut DOTS then 0 else cut

-- How many characters are cut off before the window, of so many, where the part stands after so many of them: all but the
-- last 20 before the part, but no more than fill the window.
abbrev pub cut_before : ℕ → ℕ → ℕ
cut_before total before = if nat_le total MAX_SHOWN then 0 else worth_dots (min (before - LEAD) (total - (MAX_SHOWN - DOTS)))

-- what stands in the place of so many characters that are cut off
abbrev pub dots : ℕ → List ℕ
dots cut = if cut == 0 then codes "" else codes "..."

-- the characters after those that are cut off, as many as are shown
abbrev pub window : List ℕ → ℕ → List ℕ
window chars cut = joined (dots cut ∷ cut_to (MAX_SHOWN - length (dots cut)) (drop cut chars) ∷ [])

-- the mark under a part that stands after `lead` and then `before` characters in a window, and is so wide; it is no wider than the
-- window, and one character wide at least
abbrev pub mark_in : ℕ → ℕ → ℕ → ℕ → List ℕ
mark_in window lead before width =
    joined (codes "  " ∷ replicate lead 32 ∷ replicate before 32 ∷ replicate (max 1 (min width (window - lead - before))) 94 ∷ codes " " ∷ [])

-- the window of characters after those cut off, with the mark under the part that stands after so many and is so wide
abbrev pub marked_after : ℕ → List ℕ → ℕ → ℕ → List ℕ
marked_after cut chars before width =
    joined (codes "  " ∷ window chars cut ∷ codes "\n" ∷ mark_in (length (window chars cut)) (length (dots cut)) (before - cut) width ∷ [])

-- the same, where as many are cut off as have to be
abbrev pub marked : List ℕ → ℕ → ℕ → List ℕ
marked chars before width = marked_after (cut_before (length chars) before) chars before width

-- a line as it is shown round the part that begins after `start` bytes and has `len`, and under it the mark
abbrev pub window_lines : List ℕ → ℕ → ℕ → List ℕ
window_lines line start len = marked (shown line) (length (shown (take start line))) (length (shown (take len (drop start line))))
