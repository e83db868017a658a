-- The word's row is one of those that are left, if there is one.
use Rattle.std.proofs.Common.{◌≡◌, drop}
use Rattle.shown_fault.specs.Table.{text_of_part, texts_of}
use Rattle.shown_fault.proofs.table.text_of_part.Given as goal

abbrev pub invariant-loop-key : goal.invariant-loop-key
invariant-loop-key l = text_of_part (texts_of (drop l.key-index l.rows)) l.word ≡ text_of_part (texts_of l.rows) l.word
