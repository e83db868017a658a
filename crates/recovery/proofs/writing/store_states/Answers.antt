use Rattle.std.proofs.Common.{◌≡◌, ◌+◌, ◌*◌, ℕ, List, length, true, false, refl, sym, ◌∙◌, ap, subst, arith}
use Rattle.std.proofs.lemmas.Result.{err_from_is_err_and}
use Rattle.petri_atom.specs.Local.{Local}
use Rattle.disk_model.specs.declared.cells.TheConstants.{BODY}
use Rattle.disk_model.specs.DiskState.{DiskState}
use Rattle.disk_model.specs.Cells.{Cell, cell, seen_cells}
use Rattle.disk_model.specs.Counting.{up_to_more, up_to_then}
use Rattle.disk_model.specs.Moments.{leaves_start, settled_cells}
use Rattle.record_codec.specs.Ring.{identity_cell}
use Rattle.record_codec.specs.Saved.{SavedFields}
use Rattle.record_replay.specs.Records.{count_of}
use Rattle.snapshot_writer.specs.Parcels.{saved_by}
use Rattle.snapshot_writer.specs.Storing.{IsStored}
use Rattle.recovery.proofs.WrittenCells.{next_is_empty, slots_leave, stored_more, stored_none}
use Rattle.recovery.proofs.writing.store_states.Goals as goal

pub loop-atom-init : goal.loop-atom-init
loop-atom-init g c =
    let s : DiskState = c.args.cells.now in
    record {
      counts = record { size = refl; keeps = refl; failures = refl; synced = 0; few = omega arith; syncs = refl };
      stops = λ keeps. leaves_start (BODY + 1) (λ left. cell left identity_cell ≡ cell (seen_cells (BODY + 1) s) identity_cell) s
          (λ cells may. ap (λ (l : List Cell). cell l identity_cell) (settled_cells (BODY + 1) s cells (c.requires.settled keeps) may));
      stored = λ keeps. stored_none c.args.states.now c.args.counts.now c.args.number s (c.requires.settled keeps);
    }

-- what is stored of an atom is its state, with its count
saved_is : (n at number : ℕ) (counts : List ℕ) (state copy : Local) (parcel encoded : SavedFields) → encoded ≡ parcel → parcel ≡ saved_by n (count_of counts at) number copy → at ≡ n → copy ≡ state
    → encoded ≡ saved_by n (count_of counts n) number state
saved_is n at number counts state copy parcel encoded spelled made same copied =
    spelled ∙ made ∙ ap (λ (k : ℕ). saved_by n (count_of counts k) number copy) same ∙ ap (λ (s : Local). saved_by n (count_of counts n) number s) copied

pub store-requires-clause-full : goal.store-requires-clause-full
store-requires-clause-full g c still =
    let old : DiskState = c.args.cells.now in
    let n : ℕ = c.loop-atom.atom in
    let keeps : old.keeps ≡ true = sym c.loop-atom.invariant.counts.keeps ∙ still in
    let atom : c.encode.result.atom ≡ n = ap (λ (s : SavedFields). s.atom) (c.encode.ensures ∙ c.new-parcel.ensures) in
    next_is_empty n c.encode.result.atom c.args.states.now c.args.counts.now c.args.number old c.loop-atom.cells atom (c.loop-atom.invariant.stored keeps) (c.requires.empty keeps n (omega arith))

pub loop-atom-preserved : goal.loop-atom-preserved
loop-atom-preserved g c =
    let old : DiskState = c.args.cells.now in
    let mid : DiskState = c.loop-atom.cells in
    let new : DiskState = c.store.new.cells in
    let n : ℕ = c.loop-atom.atom in
    let states : List Local = c.args.states.now in
    let counts : List ℕ = c.args.counts.now in
    let number : ℕ = c.args.number in
    let saved : c.encode.result ≡ saved_by n (count_of counts n) number c.state.result.now = saved_is n c.from.result number counts c.state.result.now c.copy.result c.new-parcel.result c.encode.result c.encode.ensures c.new-parcel.ensures c.from.ensures c.copy.ensures in
    record {
      counts = up_to_more false (3 * n + 3) (3 * (n + 1)) old new (omega arith) (up_to_then false (3 * n) 3 old mid new c.loop-atom.invariant.counts c.in_ok-store.ensures.counts);
      stops = λ keeps. slots_leave n states counts number c.encode.result old mid new (c.loop-atom.invariant.stored keeps) (c.loop-atom.invariant.stops keeps) (c.store.ensures.leaves (c.loop-atom.invariant.counts.keeps ∙ keeps));
      stored = λ keeps. stored_more n states counts number c.state.result.now old mid new c.state.ensures (c.loop-atom.invariant.stored keeps)
          (subst (λ (w : SavedFields). IsStored 0 w mid new) saved (c.in_ok-store.ensures.stored (c.loop-atom.invariant.counts.keeps ∙ keeps)));
    }

pub returns-in_err-store-clause-counts : goal.returns-in_err-store-clause-counts
returns-in_err-store-clause-counts g c =
    let old : DiskState = c.args.cells.now in
    let n : ℕ = c.loop-atom.atom in
    let p = err_from_is_err_and c.from_residual.result c.from_residual.ensures.1 in
    rw p.1 (up_to_more true (3 * n + 3) (3 * length c.args.states.now) old c.store.new.cells (omega arith)
    (up_to_then true (3 * n) 3 old c.loop-atom.cells c.store.new.cells c.loop-atom.invariant.counts c.in_err-store.ensures.counts))

pub returns-in_err-store-clause-stops : goal.returns-in_err-store-clause-stops
returns-in_err-store-clause-stops g c keeps =
    slots_leave c.loop-atom.atom c.args.states.now c.args.counts.now c.args.number c.encode.result c.args.cells.now c.loop-atom.cells c.store.new.cells (c.loop-atom.invariant.stored keeps) (c.loop-atom.invariant.stops keeps) (c.store.ensures.leaves (c.loop-atom.invariant.counts.keeps ∙ keeps))
