use Rattle.std.proofs.Common.{◌≡◌, ◌∙◌, ◌+◌, ◌-◌, suc, ap, sym, arith, drop}
use Rattle.part_lines.specs.Lookup.{behind}
use Rattle.part_lines.proofs.Seeking.{passed-other, passed-found, passed-later}
use Rattle.part_lines.proofs.lookup.end_of.Goals as goal
use Rattle.part_lines.proofs.lookup.end_of.Goals.{then-is_same_kind+else-left-eq0, else-is_same_kind}

pub returns-then-left-eq0-clause-behind : goal.returns-then-left-eq0-clause-behind
returns-then-left-eq0-clause-behind c =
    passed-found c.args.kind c.args.entries.now c.loop-place.place _ _ c.loop-place-test.true c.loop-place.left c.loop-place.invariant
    (omega arith) (sym c.is_same_kind.ensures ∙ c.if-is_same_kind.true)

pub loop-place-preserved : goal.loop-place-preserved
loop-place-preserved c =
    elim c.if-is_same_kind.branch [
      | then-is_same_kind+else-left-eq0 w ↦
          let more : c.loop-place.left ≡ suc (c.loop-place.left - 1) = omega arith in
          ap (λ n. behind c.args.kind n (drop (c.loop-place.place + 1) c.args.entries.now)) w.left-is ∙
          passed-later c.args.kind c.args.entries.now c.loop-place.place _ _ c.loop-place-test.true c.loop-place.left c.loop-place.invariant
          (c.loop-place.left - 1) more (sym c.is_same_kind.ensures ∙ w.if-is_same_kind.true)
      | else-is_same_kind w ↦
          ap (λ n. behind c.args.kind n (drop (c.loop-place.place + 1) c.args.entries.now)) w.left-is ∙
          passed-other c.args.kind c.args.entries.now c.loop-place.place _ _ c.loop-place-test.true c.loop-place.left c.loop-place.invariant
          (sym c.is_same_kind.ensures ∙ w.if-is_same_kind.false)
    ]
