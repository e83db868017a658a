-- Which bytes of a device are those of another one.
use Rattle.std.proofs.Common.{◌≡◌, ◌⊎◌, inl, inr, ℕ, ◌+◌, ◌-◌, ◌<◌, ◌≤◌, List, length, take, drop, get_or, sym, ◌∙◌, ap, subst, arith}
use Rattle.std.proofs.lemmas.Bool.{cases_lt}
use Rattle.std.proofs.lemmas.List.{places, get_or-take, get_or-drop, ext_get_or}
use Rattle.disk_model.specs.DiskState.{Moment, DiskState, Writes, overwritten, size_of}
use Rattle.image_backup.specs.Copies.{AreCopied}

-- a write of a part of one list over another, where that part has its bytes from
pub part_inside : (at n : ℕ) (image whole : List ℕ) (i : ℕ) → at + n ≤ length image → length whole ≡ length image → at ≤ i → i < at + n
    → get_or (overwritten at (take n (drop at image)) whole) i 0 ≡ get_or image i 0
part_inside at n image whole i fits same low high = grind (arith, places)

pub part_below : (at n : ℕ) (image whole : List ℕ) (i : ℕ) → at + n ≤ length image → length whole ≡ length image → i < at
    → get_or (overwritten at (take n (drop at image)) whole) i 0 ≡ get_or whole i 0
part_below at n image whole i fits same low = grind (arith, places)

pub part_above : (at n : ℕ) (image whole : List ℕ) (i : ℕ) → at + n ≤ length image → length whole ≡ length image → at + n ≤ i
    → get_or (overwritten at (take n (drop at image)) whole) i 0 ≡ get_or whole i 0
part_above at n image whole i fits same high = grind (arith, places)

-- the bytes up to some number are copied, and then those after them
pub copied_more : (from at n : ℕ) (image old new : DiskState) → at + n ≤ size_of image → size_of old ≡ size_of image
    → AreCopied from at image old → Writes at (take n (drop at image.now.seen)) old new → AreCopied from (at + n) image new
copied_more from at n image old new fits same copied wrote = record {
  bytes = λ i low high. ap (λ (l : List ℕ). get_or l i 0) wrote.seen ∙ elim (cases_lt i at) [
    | inl below ↦ part_below at n image.now.seen old.now.seen i fits same below ∙ copied.bytes i low below
    | inr past ↦ part_inside at n image.now.seen old.now.seen i fits same past high
  ];
}

-- all bytes but the first are copied, and then the first: so all are
pub first_copied : (image old new : DiskState) → 1 ≤ size_of image → size_of old ≡ size_of image → size_of new ≡ size_of image
    → AreCopied 1 (size_of image) image old → Writes 0 (take 1 (drop 0 image.now.seen)) old new → new.now.seen ≡ image.now.seen
first_copied image old new some same size copied wrote =
    ext_get_or 0 new.now.seen image.now.seen size (λ i lt. ap (λ (l : List ℕ). get_or l i 0) wrote.seen ∙ elim (cases_lt i 1) [
      | inl first ↦ part_inside 0 1 image.now.seen old.now.seen i some same (omega arith) first
      | inr later ↦ part_above 0 1 image.now.seen old.now.seen i some same later ∙ copied.bytes i later (omega (arith, lt, size))
    ])

-- the bytes after those that are copied are copied next, from an image that was only read meanwhile
pub copied_on : (from at n to : ℕ) (image still old new : DiskState) → at + n ≡ to → to ≤ size_of image → size_of old ≡ size_of image → still.now ≡ image.now
    → AreCopied from at image old → Writes at (take n (drop at still.now.seen)) old new → AreCopied from to image new
copied_on from at n to image still old new end fits same unchanged copied wrote =
    subst (λ (last : ℕ). AreCopied from last image new) end
    (copied_more from at n image old new (omega (arith, end, fits)) same copied
    (subst (λ (m : Moment). Writes at (take n (drop at m.seen)) old new) unchanged wrote))
