use Rattle.std.proofs.Common.{◌≡◌, ◌+◌, ◌-◌, ◌^◌, ◌<◌, ◌∙◌, ap, arith, get_or, length, min}
use Rattle.std.proofs.lemmas.List.{get_or_default}
use Rattle.run_summary.proofs.Counting.{counted-more, counted-past, counts-long}
use Rattle.run_summary.proofs.counts.Counts.count.Goals as goal

pub returns-then-number-len : goal.returns-then-number-len
returns-then-number-len c = λ bound numbers known.
    let counts = c.self.inside.counts.items in
    let within : c.args.number < length counts = omega (arith, c.if-number-len.true, c.len.ensures) in
    let here : c.index.result.now ≡ get_or counts c.args.number 0 =
    c.index.ensures ∙ get_or_default counts c.args.number c.index.result.now 0 within in
    counted-more bound c.args.number numbers counts c.saturating_add.result (c.self.view_is ∙ known)
    (omega (arith, c.if-number-len.true, ap length (c.self.view_is ∙ known), counts-long bound numbers))
    (c.saturating_add.ensures ∙ ap (λ n. min (n + 1) (2 ^ 64 - 1)) here)

pub returns-else-number-len : goal.returns-else-number-len
returns-else-number-len c = λ bound numbers known.
    known ∙ counted-past bound c.args.number numbers
    (omega (arith, c.if-number-len.false, ap length (c.self.view_is ∙ known), counts-long bound numbers))
