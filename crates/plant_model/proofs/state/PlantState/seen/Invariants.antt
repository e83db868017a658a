use Rattle.std.proofs.Common.{◌≡◌, ◌<◌, length}
use Rattle.priority_filter.specs.Active.{may_be_marked}
use Rattle.priority_filter.specs.declared.seen.At.{At}
use Rattle.plant_model.specs.Choice.{is_marked_at}
use Rattle.plant_model.proofs.state.PlantState.seen.Given as goal

-- the rows so far are right
abbrev pub invariant-loop-atom : goal.invariant-loop-atom
invariant-loop-atom l = record {
  long : length l.seen ≡ 64;
  done : (at : At) → at.atom < l.atom → may_be_marked l.seen at ≡ is_marked_at l.self at;
}
