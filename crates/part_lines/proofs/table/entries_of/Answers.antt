use Rattle.part_lines.proofs.Passing.{line-passed, lines-passed}
use Rattle.part_lines.proofs.table.entries_of.Goals as goal

pub loop-line-preserved : goal.loop-line-preserved
loop-line-preserved c =
    line-passed c.loop-line.entries.items c.push_line.new.entries.items c.loop-line.number c.saturating_add-number.result c.loop-line.lines c.next_line.new.self c.in-Some.line.now _
    c.in-Some.ensures.line c.in_ok-push_line.ensures c.saturating_add-number.ensures c.loop-line.invariant

pub returns : goal.returns
returns c = lines-passed c.loop-line.entries.items c.loop-line.number c.loop-line.lines _ c.in_default.ensures.line c.loop-line.invariant
