use Rattle.std.proofs.Common.{◌≡◌, ◌≤◌, take, vec_capacity, vec_len}
use Rattle.plant_core.specs.Marks.{marks_of}
use Rattle.plant_core.proofs.marks.marks_of.Given as goal

abbrev pub invariant-loop-fired : goal.invariant-loop-fired
invariant-loop-fired l = record {
  room : l.ring ≤ vec_capacity l.marks;
  many : vec_len l.marks ≡ l.fired-index;
  marks : l.marks.items ≡ marks_of (take l.fired-index l.records);
}
