use Rattle.std.proofs.Common.{◌∙◌, sym, [], ◌∷◌}
use Rattle.step_core.proofs.Behind.{seen-before, unsettled}
use Rattle.step_core.proofs.choices.judge_atom_again.Goals as goal

pub judge_anew-changes-requires : goal.judge_anew-changes-requires
judge_anew-changes-requires c =
    let behind = c.requires.behind in
    let judged = behind.judged in
    record {
      of_plant = c.requires.of_plant;
      behind = record {
        offered_others = λ n a s out known there. judged.offered n a s known (sym (behind.stays n out) ∙ there);
        movable_others = λ n a s out known there. judged.movable n a s known (sym (behind.stays n out) ∙ there);
        before = behind.before;
        as_many = behind.as_many ∙ c.requires.of_plant;
        offered_before = judged.offered;
      };
      counted = judged.counted;
      leaves = judged.leaves;
    }

pub see_again-is_seen_new-requires-clause-others : goal.see_again-is_seen_new-requires-clause-others
see_again-is_seen_new-requires-clause-others c =
    seen-before c.args.system.now (c.args.atom ∷ []) c.args.states.now c.requires.of_plant c.args.judgement.now c.requires.behind

pub settle-requires-clause-unsettled : goal.settle-requires-clause-unsettled
settle-requires-clause-unsettled c =
    let again = c.judge_anew-changes.ensures in
    let sights = c.see_again-is_seen_new.ensures in
    unsettled c.args.system.now (c.args.atom ∷ []) c.args.states.now c.requires.of_plant c.args.judgement.now c.requires.behind
    c.judge_anew-changes.result c.see_again-is_seen_new.result c.judge_anew-changes.new.offers c.judge_anew-changes.new.leaves c.see_again-is_seen_new.new.seen
    again.offered again.movable again.counted again.leaves again.within again.told sights.seen sights.same
