use Rattle.std.proofs.Common.{◌≡◌, ◌+◌, ◌∷◌, ◌∙◌, ap, sym, subst, add-one, ⊎_elim, take, drop, get_or, arith, eqb}
use Rattle.std.specs.List.{list_any}
use Rattle.std.proofs.lemmas.Bool.{eqb-true}
use Rattle.std.proofs.lemmas.List.{drop_more}
use Rattle.std.proofs.lemmas.Option.{slice_get-get_or}
use Rattle.petri_atom.specs.Behind.{movable_set}
use Rattle.petri_atom.specs.Definition.{offered_set}
use Rattle.plant_model.specs.System.{plant_of}
use Rattle.plant_model.specs.Reach.{can_read}
use Rattle.plant_model.specs.declared.choice.Move.{Move}
use Rattle.plant_model.proofs.FirstFault.{list_any-map}
use Rattle.step_core.specs.EnabledTransitions.{AreMovableBut, AreOfferedBut, atoms_of}
use Rattle.step_core.specs.Leaves.{count_of}
use Rattle.step_core.proofs.Again.{any-taken, fired-still, later-apart, one-judged}
use Rattle.step_core.proofs.Telling.{told-then}
use Rattle.step_core.proofs.changes.judge_moved.Goals as goal

pub loop-step-preserved : goal.loop-step-preserved
loop-step-preserved c =
    let plant = plant_of c.args.system.now in
    let states = c.args.states.now in
    let moves = c.args.moves.now in
    let i = c.loop-step.step-index in
    let some_move : Move = record { atom = 0; transition = 0 } in
    let m = get_or moves i some_move in
    let here = slice_get-get_or moves i some_move c.loop-step-test.true in
    let old = c.loop-step.offers in
    let new = c.judge_move.new.offers in
    let told = c.judge_move.ensures in
    let before = c.loop-step.invariant in
    let left : atoms_of (drop i moves) ≡ m.atom ∷ atoms_of (drop (i + 1) moves) = ap atoms_of (drop_more moves i some_move c.loop-step-test.true) in
    record {
      offered = one-judged offered_set plant.atoms states m.atom (atoms_of (drop (i + 1) moves)) old.sets new.sets told.offered told.other_sets
          (subst (λ rest. AreOfferedBut rest plant.atoms states old.sets) left before.offered);
      movable = one-judged movable_set plant.atoms states m.atom (atoms_of (drop (i + 1) moves)) old.movable new.movable told.movable told.other_movable
          (subst (λ rest. AreMovableBut rest plant.atoms states old.movable) left before.movable);
      fired = λ k n a s past at known there.
          let apart = later-apart moves c.requires.apart i k m n (omega (arith, past)) here at in
          fired-still a n.transition s _ _ _ _ (told.other_sets n.atom apart) (told.other_movable n.atom apart) (before.fired k n a s (omega (arith, past)) at known there);
      counted = told.counted;
      leaves = told.leaves;
      told = told-then plant.wires (count_of c.args.offers.now.counts) (count_of old.counts) (count_of new.counts) _ c.loop-step.changes c.judge_move.new.self before.told told.told;
      read = λ k atom out inside.
          ⊎_elim
          (λ earlier. before.read k atom (told.told.not_dirty k out) (list_any-map (λ j. eqb j atom) (λ (x : Move). x.atom) (take i moves) ∙ earlier))
          (λ its. ap (λ j. can_read plant.wires j k) (sym (eqb-true m.atom atom its)) ∙ told.read k out)
          (any-taken (λ (x : Move). eqb x.atom atom) moves i m here
          (ap (λ j. list_any (λ (x : Move). eqb x.atom atom) (take j moves)) (sym (add-one i)) ∙ sym (list_any-map (λ j. eqb j atom) (λ (x : Move). x.atom) (take (i + 1) moves)) ∙ inside));
    }
