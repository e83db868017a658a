use Rattle.std.proofs.Common.{subst, sym}
use Rattle.std.proofs.lemmas.Bool.{eqb-true}
use Rattle.text_io.specs.LineParts.{TakesPart}
use Rattle.text_io.proofs.LineParts.{full-line, line-kept, line-left, part-more}
use Rattle.text_io.proofs.line.read_line.Goals as goal

pub returns-then-branch-clause-kept : goal.returns-then-branch-clause-kept
returns-then-branch-clause-kept g c =
    line-kept _ _ _ _ _ _ c.loop-reader.invariant (subst (TakesPart _ _ _ _ _) c.if-branch.true c.in_ok-read_part.ensures)

pub returns-then-branch-clause-left : goal.returns-then-branch-clause-left
returns-then-branch-clause-left g c =
    line-left _ _ _ _ _ _ c.loop-reader.invariant (subst (TakesPart _ _ _ _ _) c.if-branch.true c.in_ok-read_part.ensures)

pub loop-reader-preserved : goal.loop-reader-preserved
loop-reader-preserved g c = part-more _ _ _ _ _ _ c.loop-reader.invariant (subst (TakesPart _ _ _ _ _) c.if-branch.false c.in_ok-read_part.ensures)

pub returns-clause-kept : goal.returns-clause-kept
returns-clause-kept g c =
    (full-line _ _ _ _ _ c.loop-reader.invariant (eqb-true _ _ (sym c.loop-reader-test.ensures.value)) c.in_ok-skip_until.ensures.rest).0

pub returns-clause-left : goal.returns-clause-left
returns-clause-left g c =
    (full-line _ _ _ _ _ c.loop-reader.invariant (eqb-true _ _ (sym c.loop-reader-test.ensures.value)) c.in_ok-skip_until.ensures.rest).1
