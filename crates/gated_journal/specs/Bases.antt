-- The base: the number of the first record that is kept, which stands in one of two cells.
use Rattle.std.specs.Prelude.{◌≡◌, ℕ, ◌+◌, ◌-◌, Bool, true, false, nat_lt, if◌then◌else◌, List, Option, Some, None}
use Rattle.std.specs.Option.{option_and_then}
use Rattle.disk_model.specs.Cells.{Cell, cell}
use Rattle.record_codec.specs.Base.{base_in}
use Rattle.record_codec.specs.Ring.{base_cell}
use Rattle.gated_journal.specs.declared.ring.Ring.{Ring}

-- the base that a cell holds: an empty cell holds none
abbrev pub base_held : Cell → Option ℕ
base_held c = option_and_then base_in c

-- a base counts before another: it is the greater, or the only one
abbrev pub counts_before : Option ℕ → Option ℕ → Bool
counts_before None other = false
counts_before (Some base) None = true
counts_before (Some base) (Some other) = nat_lt other base

-- the cell of the base that counts: the first where both are equal
abbrev pub base_cell_of : List Cell → ℕ
base_cell_of cells = if counts_before (base_held (cell cells (base_cell 1))) (base_held (cell cells (base_cell 0))) then base_cell 1 else base_cell 0

-- the base that counts
abbrev pub base_of : List Cell → Option ℕ
base_of cells = base_held (cell cells (base_cell_of cells))

-- the cell of the other base
abbrev pub other_cell : Ring → ℕ
other_cell j = base_cell 0 + base_cell 1 - j.base_cell

-- The journal's base is the one that counts.
pub record IsBased (j : Ring) (cells : List Cell) : Type 0 where
  pub in_cell : base_cell_of cells ≡ j.base_cell
  pub number : base_of cells ≡ Some j.base
