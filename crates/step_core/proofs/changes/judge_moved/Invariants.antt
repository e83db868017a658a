use Rattle.std.proofs.Common.{◌≡◌, ◌≤◌, ℕ, true, false, take, drop}
use Rattle.std.specs.Prelude.{Some, slice_get, slice_index_or}
use Rattle.petri_atom.specs.Local.{Local, is_in}
use Rattle.petri_atom.specs.Definition.{AtomDefinition}
use Rattle.priority_filter.specs.Members.{has_bit}
use Rattle.plant_model.specs.Reach.{can_read}
use Rattle.plant_model.specs.System.{plant_of}
use Rattle.plant_model.specs.declared.choice.Move.{Move}
use Rattle.step_core.specs.EnabledTransitions.{AreCounted, AreMovableBut, AreOfferedBut, IsFired, atoms_of}
use Rattle.step_core.specs.Leaves.{AreLeaves, count_of}
use Rattle.step_core.specs.Told.{IsTold}
use Rattle.step_core.proofs.changes.judge_moved.Given as goal

abbrev pub invariant-loop-step : goal.invariant-loop-step
invariant-loop-step l = record {
  offered : AreOfferedBut (atoms_of (drop l.step-index l.moves)) (plant_of l.system).atoms l.states l.offers.sets;
  movable : AreMovableBut (atoms_of (drop l.step-index l.moves)) (plant_of l.system).atoms l.states l.offers.movable;
  fired : (k : ℕ) (m : Move) (a : AtomDefinition) (s : Local) → l.step-index ≤ k → slice_get l.moves k ≡ Some m → slice_get (plant_of l.system).atoms m.atom ≡ Some a → slice_get l.states m.atom ≡ Some s
      → IsFired a m.transition s (slice_index_or l.offers.sets m.atom 0) (slice_index_or l.offers.movable m.atom 0);
  counted : AreCounted (plant_of l.system).atoms l.offers.sets l.offers.counts;
  leaves : AreLeaves (plant_of l.system).wires l.offers.counts l.leaves;
  told : IsTold (plant_of l.system).wires (count_of l.fn.offers.counts) (count_of l.offers.counts) l.initial.changes l.changes;
  read : (k atom : ℕ) → has_bit l.changes.dirty k ≡ false → is_in (atoms_of (take l.step-index l.moves)) atom ≡ true → can_read (plant_of l.system).wires atom k ≡ false;
}
