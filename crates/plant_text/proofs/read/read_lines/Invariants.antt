use Rattle.std.proofs.Common.{◌≡◌, ◌+◌, ◌≤◌, length}
use Rattle.text_io.specs.declared.reading.TheConstants.{MAX_TEXT}
use Rattle.plant_words.specs.Lines.{lines_of}
use Rattle.plant_text.specs.Draft.{drafted}
use Rattle.plant_text.specs.Meaning.{lines_row, nothing}
use Rattle.plant_text.proofs.read.read_lines.Given as goal

-- what is left to read leads to the same end as all of it did, and the number of each line fits
abbrev pub invariant-loop-line : goal.invariant-loop-line
invariant-loop-line l = record {
  leads : lines_row l.number l.lines (drafted l.draft) ≡ lines_row 1 (lines_of l.text) nothing;
  fits : l.number + length l.lines ≤ MAX_TEXT + 1;
}

abbrev pub decreases-loop-line : goal.decreases-loop-line
decreases-loop-line l = length l.lines
