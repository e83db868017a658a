-- The first line with a fault is one of those that are left.
use Rattle.std.proofs.Common.{◌≡◌, length}
use Rattle.plant_words.specs.Lines.{lines_of}
use Rattle.plant_text.specs.Draft.{drafted}
use Rattle.plant_text.specs.Marks.{faulty_line}
use Rattle.plant_text.specs.Meaning.{nothing}
use Rattle.plant_text.proofs.marks.find_mark.Given as goal

abbrev pub invariant-loop-line : goal.invariant-loop-line
invariant-loop-line l = faulty_line l.lines (drafted l.draft) ≡ faulty_line (lines_of l.text) nothing

abbrev pub decreases-loop-line : goal.decreases-loop-line
decreases-loop-line l = length l.lines
