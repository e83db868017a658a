use Rattle.std.proofs.Common.{◌≡◌, ℕ, ◌<◌, ◌≤◌, false}
use Rattle.file_disk.specs.Blocks.{is_marked}
use Rattle.file_disk.proofs.marks.Marks.next_from.Given as goal

abbrev pub invariant-loop-next : goal.invariant-loop-next
invariant-loop-next l = (i : ℕ) → l.block ≤ i → i < l.next → is_marked l.self.blocks.items i ≡ false
