use Rattle.std.proofs.Common.{◌≤◌, take, sym, ◌∙◌, subst, length-take-le}
use Rattle.std.specs.Io.BufRead.{FillKeeps}
use Rattle.std.proofs.BufReadLemmas.{Consumes_shown}
use Rattle.text_io.proofs.line.read_part.Goals as goal

pub returns : goal.returns
returns g c =
    let shown = c.in_ok-ready.ready.now in
    let first = c.first_part-len in
    let len = first.result.0 in
    let rested = c.fill_buf.follows.lender-at-none in
    let filled = subst (FillKeeps _ (g.R.Read.remaining rested) (g.R.BufRead.consumable_len rested)) c.in_ok-ready.was c.fill_buf.follows.holds-at-none in
    let moved = Consumes_shown _ _ _ _ shown len first.ensures.within c.in_ok-ready.ensures.front c.in_ok-ready.ensures.end filled.0 filled.1 c.consume.ensures.bytes in
    record {
      part = take len shown;
      taken = moved.0;
      kept = c.keep.ensures;
      stops = first.ensures.stops;
      ended = first.ensures.ended;
      unended = first.ensures.unended;
      more = λ unended. subst (λ n. 1 ≤ n) (sym (length-take-le len shown first.ensures.within)) (first.ensures.more unended);
      at_end = λ whole none. moved.1 (first.ensures.nothing (sym (length-take-le len shown first.ensures.within) ∙ none));
    }
