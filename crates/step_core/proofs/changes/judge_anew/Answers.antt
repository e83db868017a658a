use Rattle.std.proofs.Common.{◌+◌, ◌∙◌, ap, sym, subst, add-one, ⊎_elim, take, drop, get_or, eqb}
use Rattle.std.proofs.lemmas.Bool.{eqb-true, false≢true}
use Rattle.std.proofs.lemmas.List.{drop_more}
use Rattle.std.proofs.lemmas.Option.{slice_get-get_or}
use Rattle.petri_atom.specs.Behind.{movable_set}
use Rattle.petri_atom.specs.Definition.{offered_set}
use Rattle.petri_atom.specs.Local.{is_in}
use Rattle.plant_model.specs.System.{plant_of}
use Rattle.plant_model.specs.Reach.{can_read}
use Rattle.step_core.specs.EnabledTransitions.{AreMovableBut, AreOfferedBut}
use Rattle.step_core.specs.Leaves.{count_of}
use Rattle.step_core.proofs.Again.{any-taken, of-some-state, of-states, one-judged}
use Rattle.step_core.proofs.Telling.{none-told, told-then}
use Rattle.step_core.proofs.changes.judge_anew.Goals as goal

pub loop-number-init : goal.loop-number-init
loop-number-init c = record {
  offered = c.requires.behind.offered_others;
  movable = c.requires.behind.movable_others;
  before = of-states (plant_of c.args.system.now).atoms c.requires.behind.before c.args.offers.now.sets c.requires.behind.as_many c.requires.behind.offered_before;
  counted = c.requires.counted;
  leaves = c.requires.leaves;
  told = none-told (plant_of c.args.system.now).wires (count_of c.args.offers.now.counts) _;
  read = λ k atom out inside. absurd (false≢true inside);
}

pub loop-number-preserved : goal.loop-number-preserved
loop-number-preserved c =
    let plant = plant_of c.args.system.now in
    let states = c.args.states.now in
    let list = c.args.atoms.now in
    let i = c.loop-number.number-index in
    let number = get_or list i 0 in
    let here = slice_get-get_or list i 0 c.loop-number-test.true in
    let old = c.loop-number.offers in
    let new = c.judge_atom.new.offers in
    let told = c.judge_atom.ensures in
    let before = c.loop-number.invariant in
    let left = drop_more list i 0 c.loop-number-test.true in
    record {
      offered = one-judged offered_set plant.atoms states number (drop (i + 1) list) old.sets new.sets told.offered told.other_sets
          (subst (λ rest. AreOfferedBut rest plant.atoms states old.sets) left before.offered);
      movable = one-judged movable_set plant.atoms states number (drop (i + 1) list) old.movable new.movable told.movable told.other_movable
          (subst (λ rest. AreMovableBut rest plant.atoms states old.movable) left before.movable);
      before = of-some-state plant.atoms states number old.sets new.sets c.requires.of_plant told.offered told.other_sets before.before;
      counted = told.counted;
      leaves = told.leaves;
      told = told-then plant.wires (count_of c.args.offers.now.counts) (count_of old.counts) (count_of new.counts) _ c.loop-number.changes c.judge_atom.new.self before.told told.told;
      read = λ k atom out inside.
          ⊎_elim
          (λ earlier. before.read k atom (told.told.not_dirty k out) earlier)
          (λ its. ap (λ j. can_read plant.wires j k) (sym (eqb-true number atom its)) ∙ told.read k out)
          (any-taken (λ j. eqb j atom) list i number here (ap (λ j. is_in (take j list) atom) (sym (add-one i)) ∙ inside));
    }
