-- The word's row is one of those that are left, if there is one.
use Rattle.std.proofs.Common.{◌≡◌, drop}
use Rattle.shown_fault.specs.Table.{row_of, rows_of}
use Rattle.shown_fault.proofs.table.row_of.Given as goal

abbrev pub invariant-loop-key : goal.invariant-loop-key
invariant-loop-key g l = row_of (rows_of (drop l.key-index l.rows)) l.word ≡ row_of (rows_of l.rows) l.word
