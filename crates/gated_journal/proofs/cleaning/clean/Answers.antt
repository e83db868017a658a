use Rattle.std.proofs.Common.{◌≡◌, ◌+◌, ◌<◌, ℕ, Bool, List, length, take, sym, ◌∙◌, ap, subst, arith}
use Rattle.std.specs.List.{filter}
use Rattle.disk_model.specs.declared.cells.TheConstants.{BODY}
use Rattle.disk_model.specs.DiskState.{DiskState}
use Rattle.disk_model.specs.Cells.{cell_count, seen_cells, Leaves, OldOrEmpty, Erased}
use Rattle.disk_model.specs.Moments.{leaves_weaker, seen_after, on_ok}
use Rattle.disk_model.specs.Steps.{AreInside, AllDiffer, ReadFull}
use Rattle.gated_journal.specs.declared.ring.Ring.{Ring}
use Rattle.gated_journal.specs.Rings.{is_full_in}
use Rattle.gated_journal.specs.Stops.{IsReady, HasCleaned}
use Rattle.gated_journal.proofs.Places.{places, places_inside, places_all_differ}
use Rattle.gated_journal.proofs.KeptCells.{kept, kept_differ, all_old_or_empty}
use Rattle.gated_journal.proofs.CleanedCells.{is_cleaned, clean_leaves, found_full, row_erased}
use Rattle.gated_journal.proofs.cleaning.clean.Goals as goal

pub erase_full_run-requires : goal.erase_full_run-requires
erase_full_run-requires g c =
    let j : Ring = c.args.ring in
    let s : DiskState = c.args.cells.now in
    let count : ℕ = length c.args.room.now in
    let row : List ℕ = places j (j.last + 1) count in
    let full : ℕ → Bool = is_full_in c.args.found.now in
    let those : take c.keep_full-count.result c.keep_full-count.new.places ≡ filter full row = c.keep_full-count.ensures.kept ∙ ap (filter full) c.write_places.ensures in
    record {
      differ = subst AllDiffer (sym those) (kept_differ full row (places_all_differ j (j.last + 1) count (omega arith)));
      inside = subst (AreInside (BODY + 1) s) (sym those) (kept full row (λ k. k < cell_count (BODY + 1) s) (places_inside (BODY + 1) j (j.last + 1) count s c.requires.ring.some c.requires.inside));
      full = λ keeps. subst (ReadFull (BODY + 1) s) (sym those) (found_full j c.requires.ring count c.requires.as_many c.args.found.now s (c.requires.found keeps));
    }

-- those of the row that were found full were emptied
those : (g : _) (c : goal.After-erase_full_run g) → take c.keep_full-count.result c.keep_full-count.new.places ≡ filter (is_full_in c.args.found.now) (places c.args.ring (c.args.ring.last + 1) (length c.args.room.now))
those g c = c.keep_full-count.ensures.kept ∙ ap (filter (is_full_in c.args.found.now)) c.write_places.ensures

pub returns-clause-leaves : goal.returns-clause-leaves
returns-clause-leaves g c keeps =
    let j : Ring = c.args.ring in
    let old : DiskState = c.args.cells.now in
    let new : DiskState = c.erase_full_run.new.self in
    let row : List ℕ = places j (j.last + 1) (length c.args.room.now) in
    let full : ℕ → Bool = is_full_in c.args.found.now in
    let run : Leaves (BODY + 1) (OldOrEmpty (BODY + 1) old (filter full row)) old new = subst (λ (ks : List ℕ). Leaves (BODY + 1) (OldOrEmpty (BODY + 1) old ks) old new) (those g c) (c.erase_full_run.ensures.leaves keeps) in
    clean_leaves j c.requires.ring (length c.args.room.now) c.requires.as_many old new (c.requires.settled keeps) (c.requires.whole keeps)
    (leaves_weaker (BODY + 1) (OldOrEmpty (BODY + 1) old (filter full row)) (OldOrEmpty (BODY + 1) old row) old new (all_old_or_empty full row (BODY + 1) old) run)

pub returns-clause-cleaned : goal.returns-clause-cleaned
returns-clause-cleaned g c keeps =
    let j : Ring = c.args.ring in
    let old : DiskState = c.args.cells.now in
    let new : DiskState = c.erase_full_run.new.self in
    let count : ℕ = length c.args.room.now in
    let left : HasCleaned j (seen_cells (BODY + 1) old) (seen_cells (BODY + 1) new) = seen_after (BODY + 1) (HasCleaned j (seen_cells (BODY + 1) old)) old new (returns-clause-leaves g c keeps) in
    on_ok c.erase_full_run.result (Erased (BODY + 1) (take c.keep_full-count.result c.keep_full-count.new.places) old new) (IsReady j new)
    (λ erased. is_cleaned j c.requires.ring count c.requires.as_many old new left (c.requires.whole keeps)
    (row_erased j c.requires.ring count c.requires.as_many c.args.found.now old (c.requires.found keeps) new (subst (λ (ks : List ℕ). Erased (BODY + 1) ks old new) (those g c) erased)))
    (c.erase_full_run.ensures.erased keeps)
