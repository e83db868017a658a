-- What a stop at any moment of an append and a move of the base behind it leaves.
use Rattle.std.proofs.Common.{inl, inr, ⊎_elim, ℕ, ◌+◌, ◌-◌, List, ◌++◌, length, drop, sym, ◌∙◌, ap, arith}
use Rattle.std.proofs.lemmas.List.{take_all}
use Rattle.disk_model.specs.declared.cells.TheConstants.{BODY}
use Rattle.disk_model.specs.DiskState.{DiskState}
use Rattle.disk_model.specs.Cells.{Cell, seen_cells, Leaves}
use Rattle.disk_model.specs.Moments.{leaves_then, leaves_weaker}
use Rattle.record_codec.specs.Fired.{FiredFields}
use Rattle.gated_journal.specs.declared.ring.Ring.{Ring}
use Rattle.gated_journal.specs.Live.{live}
use Rattle.gated_journal.specs.Bases.{IsBased}
use Rattle.gated_journal.specs.Rings.{IsReadFor, appended}
use Rattle.gated_journal.specs.Stops.{HasAppended, HasAppendedAll, IsMovedOrNot}
use Rattle.device_tests.specs.AppendThenMove.{IsFollowedOrCut}

-- These records are appended to the journal j, whose base counts.
module _ (j : Ring) (base : ℕ) (news : List FiredFields) (old : DiskState) (based : IsBased j (seen_cells (BODY + 1) old)) where
  -- what is left of both
  abbrev P : List Cell → Type 0
  P cells = IsFollowedOrCut base j news (seen_cells (BODY + 1) old) cells

  pub append_leaves : (mid : DiskState) → Leaves (BODY + 1) (HasAppended j news (seen_cells (BODY + 1) old)) old mid → Leaves (BODY + 1) P old mid
  append_leaves mid run = leaves_weaker (BODY + 1) (HasAppended j news (seen_cells (BODY + 1) old)) P old mid
      (λ cells p. inl (record { based = p.based based; count = p.count; within = p.within; reads = p.reads })) run

  module _ (mid : DiskState) (all : HasAppendedAll j news old mid) where
    -- the journal is read for its records, the new ones among them
    pub read_for_all : IsReadFor (appended (length news) j) (seen_cells (BODY + 1) mid)
    read_for_all = let b : IsBased j (seen_cells (BODY + 1) mid) = all.based based in record { based = record { in_cell = b.in_cell; number = b.number }; whole = all.ready.whole }

    moved_left : (cells : List Cell) → IsMovedOrNot base (appended (length news) j) (seen_cells (BODY + 1) mid) cells → P cells
    moved_left cells p = ⊎_elim
        (λ still. inl (record {
          based = record { in_cell = still.based.in_cell; number = still.based.number };
          count = length news;
          within = omega arith;
          reads = still.reads ∙ all.reads ∙ ap (λ (l : List FiredFields). live j (seen_cells (BODY + 1) old) ++ l) (sym (take_all (length news) news (omega arith)));
        }))
        (λ is. inr (record {
          based = record { in_cell = is.based.in_cell; number = is.based.number };
          reads = is.reads ∙ ap (λ (l : List FiredFields). drop (base - j.base) l) all.reads;
        }))
        p

    pub move_leaves : (new : DiskState) → Leaves (BODY + 1) (HasAppended j news (seen_cells (BODY + 1) old)) old mid → Leaves (BODY + 1) (IsMovedOrNot base (appended (length news) j) (seen_cells (BODY + 1) mid)) mid new → Leaves (BODY + 1) P old new
    move_leaves new first second = leaves_then (BODY + 1) P old mid new (append_leaves mid first)
        (leaves_weaker (BODY + 1) (IsMovedOrNot base (appended (length news) j) (seen_cells (BODY + 1) mid)) P mid new moved_left second)
