use Rattle.std.proofs.Common.{◌≡◌, ℕ, ◌<◌, ◌≤◌, false, length}
use Rattle.file_disk.specs.Blocks.{is_marked}
use Rattle.file_disk.proofs.marks.Marks.clear.Given as goal

abbrev pub invariant-loop-block : goal.invariant-loop-block
invariant-loop-block l = record {
  as_many : length l.self.blocks.items ≡ length l.initial.self.blocks.items;
  below : (i : ℕ) → i < l.block → is_marked l.self.blocks.items i ≡ false;
  above : (i : ℕ) → l.initial.self.end ≤ i → is_marked l.self.blocks.items i ≡ false;
}
