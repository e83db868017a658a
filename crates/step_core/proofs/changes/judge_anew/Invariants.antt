use Rattle.std.proofs.Common.{◌≡◌, ℕ, true, false, take, drop}
use Rattle.std.specs.Prelude.{Some, slice_get, slice_index_or}
use Rattle.petri_atom.specs.Local.{is_in}
use Rattle.petri_atom.specs.Definition.{AtomDefinition}
use Rattle.priority_filter.specs.Members.{has_bit}
use Rattle.plant_model.specs.Reach.{can_read}
use Rattle.plant_model.specs.System.{plant_of}
use Rattle.step_core.specs.EnabledTransitions.{AreCounted, AreMovableBut, AreOfferedBut}
use Rattle.step_core.specs.Leaves.{AreLeaves, count_of}
use Rattle.step_core.specs.Told.{IsOfState, IsTold}
use Rattle.step_core.proofs.changes.judge_anew.Given as goal

abbrev pub invariant-loop-number : goal.invariant-loop-number
invariant-loop-number l = record {
  offered : AreOfferedBut (drop l.number-index l.atoms) (plant_of l.system).atoms l.states l.offers.sets;
  movable : AreMovableBut (drop l.number-index l.atoms) (plant_of l.system).atoms l.states l.offers.movable;
  before : (n : ℕ) (a : AtomDefinition) → slice_get (plant_of l.system).atoms n ≡ Some a → IsOfState a (slice_index_or l.offers.sets n 0);
  counted : AreCounted (plant_of l.system).atoms l.offers.sets l.offers.counts;
  leaves : AreLeaves (plant_of l.system).wires l.offers.counts l.leaves;
  told : IsTold (plant_of l.system).wires (count_of l.fn.offers.counts) (count_of l.offers.counts) l.initial.changes l.changes;
  read : (k atom : ℕ) → has_bit l.changes.dirty k ≡ false → is_in (take l.number-index l.atoms) atom ≡ true → can_read (plant_of l.system).wires atom k ≡ false;
}
