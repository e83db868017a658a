use Rattle.std.proofs.Common.{◌∙◌, ap, sym, subst, arith, [], get_or}
use Rattle.std.specs.Prelude.{slice_get}
use Rattle.std.proofs.lemmas.Bool.{false≢true}
use Rattle.std.proofs.lemmas.Option.{slice_get-get_or}
use Rattle.petri_atom.specs.Local.{Local}
use Rattle.plant_model.specs.System.{interactions_in, plant_of}
use Rattle.plant_model.proofs.Judging.{some_state}
use Rattle.step_core.specs.EnabledTransitions.{AreMovable, AreMovableBut, AreOffered, AreOfferedBut, atoms_of}
use Rattle.step_core.specs.Parts.{shown_in}
use Rattle.plant_model.proofs.BitsLeft.{no-bit}
use Rattle.step_core.proofs.Openness.{unmarked-past}
use Rattle.step_core.proofs.SureBehind.{before-of-plant, movable-others, offered-others, seen-others, unsettled}
use Rattle.step_core.proofs.sure.judge_sure_moved.Goals as goal

pub judge_moved-changes-requires-clause-behind : goal.judge_moved-changes-requires-clause-behind
judge_moved-changes-requires-clause-behind c =
    let plant = plant_of c.args.system.now in
    let all = interactions_in c.args.system.now in
    let parts = c.args.parts.now in
    let moves = c.args.moves.now in
    let j = c.args.judgement.now in
    let behind = c.requires.behind.behind in
    let states = sym c.shown.ensures.states in
    let before = shown_in behind.before in
    record {
      offered_others = subst (λ ss. AreOfferedBut (atoms_of moves) plant.atoms ss j.judgement.offers.sets) states (offered-others plant all c.args.system.now.ranks parts c.requires.of_plant (atoms_of moves) [] j behind);
      movable_others = subst (λ ss. AreMovableBut (atoms_of moves) plant.atoms ss j.judgement.offers.movable) states (movable-others plant all c.args.system.now.ranks parts c.requires.of_plant (atoms_of moves) [] j behind);
      fired = λ k m a s at known there.
          let b : Local = get_or before m.atom some_state in
          let was = slice_get-get_or before m.atom some_state (omega (arith, c.requires.there k m at, before-of-plant plant all c.args.system.now.ranks parts c.requires.of_plant (atoms_of moves) [] j behind)) in
          let fired = c.requires.behind.fired k m a b s at known was (ap (λ ss. slice_get ss m.atom) states ∙ there) in
          record {
            before = b;
            delivered = fired.1.0;
            could = fired.0;
            after = fired.1.1;
            offered = behind.judged.offered m.atom a b known was;
            movable = behind.judged.movable m.atom a b known was;
          };
    }

pub see_moved-is_seen_new-requires-clause-few : goal.see_moved-is_seen_new-requires-clause-few
see_moved-is_seen_new-requires-clause-few c at past = unmarked-past c.args.parts.now at (omega (arith, past, c.shown.ensures.few))

pub see_moved-is_seen_new-requires-clause-others : goal.see_moved-is_seen_new-requires-clause-others
see_moved-is_seen_new-requires-clause-others c =
    seen-others (plant_of c.args.system.now) (interactions_in c.args.system.now) c.args.system.now.ranks c.args.parts.now c.requires.of_plant (atoms_of c.args.moves.now) [] c.args.judgement.now c.requires.behind.behind

pub settle_sure-requires-clause-unsettled : goal.settle_sure-requires-clause-unsettled
settle_sure-requires-clause-unsettled c =
    let plant = plant_of c.args.system.now in
    let judged = c.judge_moved-changes in
    let sights = c.see_moved-is_seen_new in
    let states = c.shown.ensures.states in
    unsettled plant (interactions_in c.args.system.now) c.args.system.now.ranks c.args.parts.now c.requires.of_plant (atoms_of c.args.moves.now) [] c.args.judgement.now c.requires.behind.behind
    judged.result 0 sights.result judged.new.offers judged.new.leaves sights.new.seen
    (λ k atom none its. absurd (false≢true its)) (λ k past. no-bit k)
    (subst (λ ss. AreOffered plant.atoms ss judged.new.offers.sets) states judged.ensures.offered) (subst (λ ss. AreMovable plant.atoms ss judged.new.offers.movable) states judged.ensures.movable)
    judged.ensures.counted judged.ensures.leaves judged.ensures.within judged.ensures.told
    sights.ensures.seen sights.ensures.same
