use Rattle.std.proofs.Common.{◌≡◌, ◌<◌, ◌+◌, ℕ, suc, List, ◌∷◌, Some, slice_get, get_or, drop, length, set, sym, ◌∙◌, ap, refl, arith, None}
use Rattle.std.proofs.Math.Seq.{drop-cons}
use Rattle.std.proofs.lemmas.List.{drop_all, length-set}
use Rattle.std.proofs.lemmas.Option.{get_or_from_slice_get}
use Rattle.record_codec.specs.Saved.{SavedFields}
use Rattle.snapshot_writer.specs.Batches.{SlottedFields}
use Rattle.plant_image.proofs.ByAtoms.{element_at}
use Rattle.plant_core.specs.Snapshots.{SnapshotFields, with_slot, with_slots}
use Rattle.plant_core.proofs.snapshots.Snapshots.all_stored.Goals as goal

pub stored-requires-clause-there : goal.stored-requires-clause-there
stored-requires-clause-there c =
    let batch = c.args.batch.now in
    let i : ℕ = c.loop-i.i in
    let there = element_at batch i (omega arith) in
    omega (arith, c.requires i there.0 there.1, ap (λ (s : SavedFields). s.atom) (c.parcel.ensures there.0 there.1), c.loop-i.invariant.many)

pub loop-i-preserved : goal.loop-i-preserved
loop-i-preserved c =
    let batch : List SlottedFields = c.args.batch.now in
    let i : ℕ = c.loop-i.i in
    let within : i < length batch = omega arith in
    let there = element_at batch i within in
    let t : SlottedFields = there.0 in
    let before : SnapshotFields = c.loop-i.self in
    let noted : c.stored.new.self ≡ with_slot t.saved t.slot before =
    c.stored.ensures ∙ ap (λ (s : SavedFields). with_slot s c.slot.result before) (c.parcel.ensures t there.1) ∙ ap (λ (n : ℕ). with_slot t.saved n before) (c.slot.ensures.is t there.1) in
    let one : i + 1 ≡ suc i = omega arith in
    let split : drop i batch ≡ t ∷ drop (i + 1) batch =
    drop-cons batch i t within ∙ ap (λ (x : SlottedFields). x ∷ drop (suc i) batch) (get_or_from_slice_get batch i t t there.1) ∙ ap (λ (n : ℕ). t ∷ drop n batch) (sym one) in
    record {
      left = ap (with_slots (drop (i + 1) batch)) noted ∙ sym (ap (λ (l : List SlottedFields). with_slots l before) split) ∙ c.loop-i.invariant.left;
      many = ap (λ (s : SnapshotFields). length s.kept) noted ∙ length-set before.kept t.saved.atom None ∙ c.loop-i.invariant.many;
    }

pub returns : goal.returns
returns c =
    let batch : List SlottedFields = c.args.batch.now in
    sym (ap (λ (l : List SlottedFields). with_slots l c.loop-i.self) (drop_all c.loop-i.i batch (omega arith))) ∙ c.loop-i.invariant.left
