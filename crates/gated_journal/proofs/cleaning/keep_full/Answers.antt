use Rattle.std.proofs.Common.{◌<◌, length, get_or, sym, ◌∙◌, arith, rules}
use Rattle.std.proofs.lemmas.List.{get_or_default}
use Rattle.std.proofs.lemmas.List.Filters.{FiltersInPlace-more_set, FiltersInPlace-more_no, FiltersInPlace-all}
use Rattle.gated_journal.proofs.cleaning.keep_full.Goals.{then-is_full, else-is_full}
use Rattle.gated_journal.proofs.cleaning.keep_full.Goals as goal

pub loop-i-preserved : goal.loop-i-preserved
loop-i-preserved c =
    let within : c.loop-i.i < length c.loop-i.places = omega arith in
    let at = get_or_default c.loop-i.places c.loop-i.i 0 (get_or c.loop-i.places c.loop-i.i 0) within in
    elim c.if-is_full.branch [
      | then-is_full w ↦ rw (w.places-is, w.count-is) (FiltersInPlace-more_set c.loop-i.invariant within (sym c.is_full.ensures ∙ w.if-is_full.true) at)
      | else-is_full w ↦ rw (w.places-is, w.count-is) (FiltersInPlace-more_no c.loop-i.invariant within (sym c.is_full.ensures ∙ w.if-is_full.false) at)
    ]

pub returns-clause-kept : goal.returns-clause-kept
returns-clause-kept c = search (rules, FiltersInPlace-all)
