use Rattle.std.proofs.Common.{sym, ap, ◌∙◌, arith}
use Rattle.std.specs.Ordering.{nat_cmp}
use Rattle.std.specs.FinSet as set
use Rattle.std.proofs.lemmas.Bool.{false≢true}
use Rattle.priority_filter.proofs.Fewer.{fewer-out}
use Rattle.priority_filter.proofs.condition.overruled_by.Goals as goal

pub lowering-init : goal.lowering-init
lowering-init c other closed n there =
    absurd (false≢true (sym (ap (λ s. set.contains s n) c.new-over.ensures ∙ set.contains-empty nat_cmp n) ∙ there))

pub lowering-preserved : goal.lowering-preserved
lowering-preserved c other closed = c.lower_once-added.ensures.least other closed (c.lowering.invariant other closed)

pub lowering-smaller : goal.lowering-smaller
lowering-smaller c =
    let some = c.lower_once-added.ensures.more c.if-not-added.false in
    fewer-out c.lowering.over c.lower_once-added.new.over c.lower_once-added.ensures.grows some.0 (omega (arith, some.1, c.requires.words)) some.2 some.3

pub returns-then-not-added : goal.returns-then-not-added
returns-then-not-added c = record {
  closed = c.lower_once-added.ensures.closed c.if-not-added.true;
  least = λ other closed. c.lower_once-added.ensures.least other closed (c.lowering.invariant other closed);
}
