use Rattle.std.proofs.Common.{◌∙◌, ap, sym, length, arith, ℕ, List}
use Rattle.plant_words.specs.Lines.{lines_of}
use Rattle.plant_text.specs.Draft.{drafted}
use Rattle.plant_text.specs.Meaning.{lines_row}
use Rattle.plant_text.proofs.Listing.{line_read, line_refused, lines_end}
use Rattle.plant_text.proofs.read.read_lines.Goals as goal

pub loop-line-init : goal.loop-line-init
loop-line-init c = record {
  leads = ap (λ (lines : List (List ℕ)). lines_row 1 lines (drafted c.new-draft.result)) c.new-lines.ensures.lines ∙ ap (lines_row 1 (lines_of c.args.text.now)) c.new-draft.ensures;
  fits = omega (arith, c.new-lines.ensures.count, c.requires);
}

pub loop-line-preserved : goal.loop-line-preserved
loop-line-preserved c = record {
  leads = sym (line_read c.loop-line.number c.loop-line.lines c.next_line.new.self c.in-Some.line.now (drafted c.loop-line.draft) (drafted c.add_line.new.self) c.in-Some.ensures.line c.in-Ok.ensures.added) ∙ c.loop-line.invariant.leads;
  fits = omega (arith, ap length c.in-Some.ensures.line, c.loop-line.invariant.fits);
}

pub returns-in-Err-clause-fault : goal.returns-in-Err-clause-fault
returns-in-Err-clause-fault c = λ other.
    sym c.loop-line.invariant.leads ∙ line_refused c.loop-line.number c.loop-line.lines c.next_line.new.self c.in-Some.line.now (drafted c.loop-line.draft) c.in-Err.fault c.placed.result c.in-Some.ensures.line c.placed.ensures c.in-Err.ensures.fault other

pub returns-clause-draft : goal.returns-clause-draft
returns-clause-draft c =
    sym c.loop-line.invariant.leads ∙ lines_end c.loop-line.number c.loop-line.lines (drafted c.loop-line.draft) c.in_default.ensures.line
