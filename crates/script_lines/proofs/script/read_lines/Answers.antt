use Rattle.std.proofs.Common.{◌≡◌, ◌∙◌, ◌+◌, ◌≤◌, ap, sym, subst, arith, cond, [], ◌∷◌, ◌++◌, length, append-nil, Err}
use Rattle.std.specs.Prelude.{IfOk}
use Rattle.plant_model.specs.System.{plant_of}
use Rattle.text_io.specs.declared.reading.TheConstants.{MAX_TEXT}
use Rattle.script_lines.specs.Script.{asked_by_line, is_mistaken}
use Rattle.script_lines.proofs.Lines.{kept_more, line_left, meant_behind}
use Rattle.script_lines.proofs.script.read_lines.Goals.{in-Nothing, in-Asks}
use Rattle.script_lines.proofs.script.read_lines.Goals as goal

pub loop-line-preserved : goal.loop-line-preserved
loop-line-preserved c =
    let l = c.loop-line in
    let plant = plant_of c.args.system.now in
    let said = c.read_line.result in
    let before = l.invariant.before in
    let rest = c.next_line.new.self in
    let left : meant_behind plant l.number before l.lines ≡ cond (is_mistaken said) (Err l.number) (meant_behind plant (l.number + 1) (before ++ asked_by_line said) rest) =
    line_left plant l.number before l.lines rest c.in-Some.line.now said c.in-Some.ensures.line c.read_line.ensures in
    let fits : l.number + 1 + length rest ≤ MAX_TEXT + 1 = omega (arith, ap length c.in-Some.ensures.line, l.invariant.fits) in
    elim c.match-read_line.branch [
      | in-Nothing w ↦ record {
        before = before;
        kept = subst (λ events. IfOk events (λ es. es.items ≡ before)) (sym w.events-is) l.invariant.kept;
        leads = sym (left ∙ ap (λ s. cond (is_mistaken s) (Err l.number) (meant_behind plant (l.number + 1) (before ++ asked_by_line s) rest)) w.in-Nothing.is
            ∙ ap (λ events. meant_behind plant (l.number + 1) events rest) (append-nil before)) ∙ l.invariant.leads;
        fits = fits;
      }
      | in-Asks w ↦ record {
        before = before ++ w.in-Asks.event ∷ [];
        kept = subst (λ events. IfOk events (λ es. es.items ≡ before ++ w.in-Asks.event ∷ [])) (sym w.events-is)
            (kept_more (λ es. es.items) l.events w.with_event-events.result before w.in-Asks.event l.invariant.kept w.with_event-events.ensures);
        leads = sym (left ∙ ap (λ s. cond (is_mistaken s) (Err l.number) (meant_behind plant (l.number + 1) (before ++ asked_by_line s) rest)) w.in-Asks.is) ∙ l.invariant.leads;
        fits = fits;
      }
    ]
