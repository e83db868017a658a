-- Steps that are still to be done.
use Rattle.std.specs.Prelude.{◌≡◌, ℕ, ◌≤◌, List, Some, length, slice_get}
use Rattle.queued_disk.specs.declared.queue.Entry.{Entry}

-- The bytes of each step are among these.
abbrev pub AreWithin : List Entry → List ℕ → Type 0
AreWithin entries bytes = (i : ℕ) (e : Entry) → slice_get entries i ≡ Some e → (e.first ≤ e.end) × (e.end ≤ length bytes)
