-- Which blocks of a file are marked, and which of them go out together.
use Rattle.std.specs.Prelude.{◌≡◌, ℕ, suc, ◌<◌, ◌≤◌, Bool, true, false, ◌||◌, List, length, slice_index_or}
use Rattle.file_disk.specs.declared.marks.Run.{Run}

-- block i is marked
abbrev pub is_marked : List Bool → ℕ → Bool
is_marked marked i = slice_index_or marked i false

-- No block from this one on is marked.
abbrev pub NoneFrom : List Bool → ℕ → Type 0
NoneFrom marked block = (i : ℕ) → block ≤ i → is_marked marked i ≡ false

-- It is the first marked block from that one on.
pub record IsNext (marked : List Bool) (block next : ℕ) : Type 0 where
  pub behind : block ≤ next
  pub within : next < length marked
  pub here : is_marked marked next ≡ true
  pub skipped : (i : ℕ) → block ≤ i → i < next → is_marked marked i ≡ false

-- It is the first run from that block on of blocks that go out together.
pub record IsRun (marked : List Bool) (block : ℕ) (run : Run) : Type 0 where
  pub behind : block ≤ run.first
  pub some : run.first < run.end
  pub within : run.end ≤ length marked
  pub skipped : (i : ℕ) → block ≤ i → i < run.first → is_marked marked i ≡ false
  pub begins : is_marked marked run.first ≡ true
  pub joined : (i : ℕ) → run.first ≤ i → suc i < run.end → (is_marked marked i || is_marked marked (suc i)) ≡ true
  pub ends : (i : ℕ) → suc i ≡ run.end → is_marked marked i ≡ true
  pub next : is_marked marked run.end ≡ false
  pub after_next : is_marked marked (suc run.end) ≡ false
