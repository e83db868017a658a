use Rattle.std.proofs.Common.{◌∙◌, ap, sym, Some}
use Rattle.plant_text.specs.Draft.{drafted}
use Rattle.plant_text.proofs.Listing.{line_passed, line_marked}
use Rattle.plant_text.proofs.Marked.{told_line}
use Rattle.plant_text.proofs.marks.find_mark.Goals as goal

pub loop-line-preserved : goal.loop-line-preserved
loop-line-preserved c =
    sym (line_passed c.loop-line.lines c.next_line.new.self c.in-Some.line.now (drafted c.loop-line.draft) (drafted c.mark_of.new.self) c.in-Some.ensures.line (rw c.in_default-2.is at c.in_ok-mark.ensures.added))
    ∙ c.loop-line.invariant

-- the marked line is the first one with a fault
pub returns-in-Some-2-clause-first : goal.returns-in-Some-2-clause-first
returns-in-Some-2-clause-first c =
    ap Some (rw c.in-Some-2.is at c.in_ok-mark.ensures.line)
    ∙ sym (line_marked c.loop-line.lines c.next_line.new.self c.in-Some.line.now (drafted c.loop-line.draft) c.in-Some.ensures.line (rw c.in-Some-2.is at c.in_ok-mark.ensures.refused))
    ∙ c.loop-line.invariant

pub returns-in-Some-2-clause-told : goal.returns-in-Some-2-clause-told
returns-in-Some-2-clause-told c = λ told is line. returns-in-Some-2-clause-first c ∙ told_line c.args.text.now told is line
