use Rattle.std.proofs.Common.{◌∙◌, arith, sym}
use Rattle.std.proofs.lemmas.Option.{slice_get-get_or, slice_get_within}
use Rattle.plant_model.proofs.Judging.{some_state}
use Rattle.step_core.specs.EnabledTransitions.{atoms_of}
use Rattle.step_core.proofs.Behind.{seen-before, unsettled}
use Rattle.step_core.proofs.choices.judge_again.Goals as goal

pub judge_moved-changes-requires-clause-behind : goal.judge_moved-changes-requires-clause-behind
judge_moved-changes-requires-clause-behind c =
    let behind = c.requires.behind.behind in
    let judged = behind.judged in
    record {
      offered_others = λ n a s out known there. judged.offered n a s known (sym (behind.stays n out) ∙ there);
      movable_others = λ n a s out known there. judged.movable n a s known (sym (behind.stays n out) ∙ there);
      fired = λ k m a s at known there.
          let within = slice_get_within c.args.states.now m.atom s there in
          let was = slice_get-get_or behind.before m.atom some_state (omega (arith, within, behind.as_many)) in
          let by = c.requires.behind.fired k m a _ s at known was there in
          record {
            before = _;
            delivered = by.1.0;
            could = by.0;
            after = by.1.1;
            offered = judged.offered m.atom a _ known was;
            movable = judged.movable m.atom a _ known was;
          };
    }

pub judge_moved-changes-requires-clause-counted : goal.judge_moved-changes-requires-clause-counted
judge_moved-changes-requires-clause-counted c = c.requires.behind.behind.judged.counted

pub judge_moved-changes-requires-clause-leaves : goal.judge_moved-changes-requires-clause-leaves
judge_moved-changes-requires-clause-leaves c = c.requires.behind.behind.judged.leaves

pub see_moved-is_seen_new-requires-clause-others : goal.see_moved-is_seen_new-requires-clause-others
see_moved-is_seen_new-requires-clause-others c =
    seen-before c.args.system.now (atoms_of c.args.moves.now) c.args.states.now c.requires.of_plant c.args.judgement.now c.requires.behind.behind

pub settle-requires-clause-unsettled : goal.settle-requires-clause-unsettled
settle-requires-clause-unsettled c =
    let again = c.judge_moved-changes.ensures in
    let sights = c.see_moved-is_seen_new.ensures in
    unsettled c.args.system.now (atoms_of c.args.moves.now) c.args.states.now c.requires.of_plant c.args.judgement.now c.requires.behind.behind
    c.judge_moved-changes.result c.see_moved-is_seen_new.result c.judge_moved-changes.new.offers c.judge_moved-changes.new.leaves c.see_moved-is_seen_new.new.seen
    again.offered again.movable again.counted again.leaves again.within again.told sights.seen sights.same
