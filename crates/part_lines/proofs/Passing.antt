-- Going over the lines of a text.
use Rattle.std.proofs.Common.{◌≡◌, ◌∙◌, ap, sym, ℕ, List, [], ◌∷◌, ◌++◌, append_assoc, append-nil}
use Rattle.part_lines.specs.Table.{entry_of, next_number, entries_from}
use Rattle.part_lines.specs.declared.table.PartLine.{PartLine}

-- the entry of the next line is after those before it, and the entries of the lines after it are left
pub line-passed : (entries next : List PartLine) (number after : ℕ) (lines rest : List (List ℕ)) (line : List ℕ) (all : List PartLine)
    → lines ≡ line ∷ rest → next ≡ entries ++ entry_of number line → after ≡ next_number number
    → entries ++ entries_from number lines ≡ all → next ++ entries_from after rest ≡ all
line-passed entries next number after lines rest line all taken pushed counted before =
    ap (λ (es : List PartLine). es ++ entries_from after rest) pushed
    ∙ ap (λ (n : ℕ). (entries ++ entry_of number line) ++ entries_from n rest) counted
    ∙ append_assoc entries (entry_of number line) (entries_from (next_number number) rest)
    ∙ ap (λ (ls : List (List ℕ)). entries ++ entries_from number ls) (sym taken)
    ∙ before

-- no line is left
pub lines-passed : (entries : List PartLine) (number : ℕ) (lines : List (List ℕ)) (all : List PartLine)
    → lines ≡ [] → entries ++ entries_from number lines ≡ all → entries ≡ all
lines-passed entries number lines all none before =
    sym (append-nil entries) ∙ ap (λ (ls : List (List ℕ)). entries ++ entries_from number ls) (sym none) ∙ before
