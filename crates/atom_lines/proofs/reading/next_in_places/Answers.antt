use Rattle.std.proofs.Common.{ap, codes, true, false}
use Rattle.atom_lines.specs.Transitions.{ends_places}
use Rattle.atom_lines.proofs.Taken.{at_none, ends_at_to, ends_at_when, ends_at_do, ends_at_none, taken_after, goes_after}
use Rattle.plant_words.proofs.Taken.{tested}
use Rattle.atom_lines.proofs.reading.next_in_places.Goals as goal
use Rattle.atom_lines.proofs.reading.next_in_places.Goals.{then-eq-via-then-eq, then-eq-via-else-eq+then-eq-2, then-eq-via-else-eq+else-eq-2+then-eq-3}

pub returns-in_err-word-clause-word : goal.returns-in_err-word-clause-word
returns-in_err-word-clause-word c = at_none _ _ _ c.from_residual.ensures c.in_err-word.ensures.kept

pub returns-in_err-word-clause-end : goal.returns-in_err-word-clause-end
returns-in_err-word-clause-end c = at_none _ _ _ c.from_residual.ensures (ap ends_places c.in_err-word.ensures.word)

pub returns-then-eq-clause-word : goal.returns-then-eq-clause-word
returns-then-eq-clause-word c = c.in_ok-word.ensures.kept

pub returns-then-eq-clause-end : goal.returns-then-eq-clause-end
returns-then-eq-clause-end c =
    elim c.then-eq.branch [
      | then-eq-via-then-eq w ↦ ends_at_to c.in_ok-word.word.now c.args.words.now c.in_ok-word.ensures.word (tested c.in_ok-word.word.now c.as_slice.result.now (codes "to") c.eq.result true c.as_slice.ensures c.eq.ensures w.if-eq.true)
      | then-eq-via-else-eq+then-eq-2 w ↦ ends_at_when c.in_ok-word.word.now c.args.words.now c.in_ok-word.ensures.word (tested c.in_ok-word.word.now w.as_slice-else-eq.result.now (codes "when") w.eq-else-eq.result true w.as_slice-else-eq.ensures w.eq-else-eq.ensures w.if-eq-2.true)
      | then-eq-via-else-eq+else-eq-2+then-eq-3 w ↦ ends_at_do c.in_ok-word.word.now c.args.words.now c.in_ok-word.ensures.word (tested c.in_ok-word.word.now w.as_slice-else-eq-2.result.now (codes "do") w.eq-else-eq-2.result true w.as_slice-else-eq-2.ensures w.eq-else-eq-2.ensures w.if-eq-3.true)
    ]

pub returns-clause-word : goal.returns-clause-word
returns-clause-word c = taken_after (λ word. word.now) c.peek.new.self c.args.words.now c.next_word.new.self c.in_ok-word.word.now c.in_ok-word.ensures.kept c.in_ok-word.ensures.word c.next_word.result c.next_word.ensures.word

pub returns-clause-end : goal.returns-clause-end
returns-clause-end c =
    let goes = ends_at_none c.in_ok-word.word.now c.args.words.now c.in_ok-word.ensures.word
    (tested c.in_ok-word.word.now c.as_slice.result.now (codes "to") c.eq.result false c.as_slice.ensures c.eq.ensures c.if-eq.false)
    (tested c.in_ok-word.word.now c.as_slice-else-eq.result.now (codes "when") c.eq-else-eq.result false c.as_slice-else-eq.ensures c.eq-else-eq.ensures c.if-eq-2.false)
    (tested c.in_ok-word.word.now c.as_slice-else-eq-2.result.now (codes "do") c.eq-else-eq-2.result false c.as_slice-else-eq-2.ensures c.eq-else-eq-2.ensures c.if-eq-3.false) in
    goes_after (λ word. word.now) c.peek.new.self c.args.words.now c.next_word.new.self c.in_ok-word.word.now c.in_ok-word.ensures.kept c.in_ok-word.ensures.word c.next_word.result (ends_places c.args.words.now) goes c.next_word.ensures.word
