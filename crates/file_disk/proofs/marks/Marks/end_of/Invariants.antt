use Rattle.std.proofs.Common.{◌≡◌, ℕ, suc, ◌+◌, ◌<◌, ◌≤◌, ◌||◌, true, false, length}
use Rattle.file_disk.specs.Blocks.{is_marked}
use Rattle.file_disk.proofs.marks.Marks.end_of.Given as goal

abbrev pub invariant-loop-block : goal.invariant-loop-block
invariant-loop-block l = record {
  some : l.first < l.end;
  reached : l.end ≤ l.block;
  near : l.block ≤ l.end + 1;
  within : l.end ≤ length l.self.blocks.items;
  joined : (i : ℕ) → l.first ≤ i → suc i < l.end → (is_marked l.self.blocks.items i || is_marked l.self.blocks.items (suc i)) ≡ true;
  ends : (i : ℕ) → suc i ≡ l.end → is_marked l.self.blocks.items i ≡ true;
  gap : (i : ℕ) → l.end ≤ i → i < l.block → is_marked l.self.blocks.items i ≡ false;
}
