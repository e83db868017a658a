-- A write over a part of a list, and the image before a write.
use Rattle.std.proofs.Common.{◌≡◌, ◌⊎◌, inl, inr, ℕ, ◌+◌, ◌-◌, ◌<◌, ◌≤◌, Bool, true, false, ◌||◌, List, length, take, drop, get_or, sym, ◌∙◌, ap, arith}
use Rattle.std.proofs.lemmas.Bool.{cases_lt}
use Rattle.std.proofs.lemmas.Bool.Decides.{nat_tests}
use Rattle.std.proofs.lemmas.List.{places, get_or-take, get_or-drop}
use Rattle.disk_model.specs.DiskState.{DiskState, MayLeave, Writes, overwritten, is_within, is_pending, size_of}

pub length-overwritten : {X : Type 0} (at : ℕ) (part whole : List X) → at + length part ≤ length whole → length (overwritten at part whole) ≡ length whole
length-overwritten at part whole fits = grind (arith, places)

pub overwritten_inside : {X : Type 0} (at : ℕ) (part whole : List X) (i : ℕ) (d : X) → at + length part ≤ length whole → at ≤ i → i < at + length part → get_or (overwritten at part whole) i d ≡ get_or part (i - at) d
overwritten_inside at part whole i d fits low high = grind (arith, places)

pub overwritten_below : {X : Type 0} (at : ℕ) (part whole : List X) (i : ℕ) (d : X) → at + length part ≤ length whole → i < at → get_or (overwritten at part whole) i d ≡ get_or whole i d
overwritten_below at part whole i d fits low = grind (arith, places)

pub overwritten_above : {X : Type 0} (at : ℕ) (part whole : List X) (i : ℕ) (d : X) → at + length part ≤ length whole → at + length part ≤ i → get_or (overwritten at part whole) i d ≡ get_or whole i d
overwritten_above at part whole i d fits high = grind (arith, places)

pub place : (at count i : ℕ) → ((at ≤ i) × (i < at + count)) ⊎ ((i < at) ⊎ (at + count ≤ i))
place at count i = elim (cases_lt i at) [
  | inr low ↦ elim (cases_lt i (at + count)) [
    | inl high ↦ inl (low, high)
    | inr past ↦ inr (inr past)
  ]
  | inl below ↦ inr (inl below)
]

pub within_is : (at count i : ℕ) → at ≤ i → i < at + count → is_within at count i ≡ true
within_is at count i low high = grind (arith, nat_tests)

pub outside_is : (at count i : ℕ) → (i < at) ⊎ (at + count ≤ i) → is_within at count i ≡ false
outside_is at count i (inl below) = grind (arith, nat_tests)
outside_is at count i (inr past) = grind (arith, nat_tests)

pub overwritten_outside : {X : Type 0} (at : ℕ) (part whole : List X) (i : ℕ) (d : X) → at + length part ≤ length whole → (i < at) ⊎ (at + length part ≤ i) → get_or (overwritten at part whole) i d ≡ get_or whole i d
overwritten_outside at part whole i d fits (inl below) = overwritten_below at part whole i d fits below
overwritten_outside at part whole i d fits (inr past) = overwritten_above at part whole i d fits past

-- what a read gave in the range
pub part_of : ℕ → ℕ → List ℕ → List ℕ
part_of at count whole = take count (drop at whole)

pub length-part_of : (at count : ℕ) (whole : List ℕ) → at + count ≤ length whole → length (part_of at count whole) ≡ count
unfolding part_of
length-part_of at count whole fits = grind (arith, places)

pub get_or-part_of : (at count : ℕ) (whole : List ℕ) (i : ℕ) → at ≤ i → i < at + count → get_or (part_of at count whole) (i - at) 0 ≡ get_or whole i 0
unfolding part_of
get_or-part_of at count whole i low high =
    let back : at + (i - at) ≡ i = omega arith in
    let within : i - at < count = omega arith in
    get_or-take count (drop at whole) (i - at) 0 within ∙ get_or-drop at whole (i - at) 0 ∙ ap (λ (k : ℕ). get_or whole k 0) back

-- An image after a write comes of one from before it, which differs from it in the range alone and has there what a read gave.
pub record Before (at count : ℕ) (old : DiskState) (image : List ℕ) : Type 0 where
  pub earlier : List ℕ
  pub left : MayLeave old.now earlier
  pub size : length image ≡ length earlier
  pub outside : (i : ℕ) → (i < at) ⊎ (at + count ≤ i) → get_or image i 0 ≡ get_or earlier i 0
  pub inside : (i : ℕ) → at ≤ i → i < at + count → get_or earlier i 0 ≡ get_or old.now.seen i 0

pub before_write : (at : ℕ) (bytes : List ℕ) (old new : DiskState) (image : List ℕ) → at + length bytes ≤ size_of old → Writes at bytes old new → MayLeave new.now image → Before at (length bytes) old image
before_write at bytes old new image fits w m = record {
  earlier = earlier;
  left = record { size = same_length ∙ whole; others = kept };
  size = sym same_length;
  outside = λ i out. sym (away i out);
  inside = λ i low high. within i low high;
}
  where
    count : ℕ
    count = length bytes

    seen : List ℕ
    seen = old.now.seen

    part : List ℕ
    part = part_of at count seen

    part_length : length part ≡ count
    part_length = length-part_of at count seen fits

    whole : length image ≡ length seen
    whole = m.size ∙ ap (λ (l : List ℕ). length l) w.seen ∙ length-overwritten at bytes seen fits

    image_fits : at + length part ≤ length image
    image_fits = omega (arith, part_length, whole)

    earlier : List ℕ
    earlier = overwritten at part image

    same_length : length earlier ≡ length image
    same_length = length-overwritten at part image image_fits

    away : (i : ℕ) → (i < at) ⊎ (at + count ≤ i) → get_or earlier i 0 ≡ get_or image i 0
    away i (inl below) = overwritten_below at part image i 0 image_fits below
    away i (inr past) = overwritten_above at part image i 0 image_fits (omega (arith, part_length))

    within : (i : ℕ) → at ≤ i → i < at + count → get_or earlier i 0 ≡ get_or seen i 0
    within i low high = overwritten_inside at part image i 0 image_fits low (omega (arith, part_length)) ∙ get_or-part_of at count seen i low high

    kept_outside : (i : ℕ) → (i < at) ⊎ (at + count ≤ i) → is_pending old.now i ≡ false → get_or earlier i 0 ≡ get_or seen i 0
    kept_outside i out is =
        let still : is_pending new.now i ≡ false = w.pending i ∙ ap (λ (b : Bool). b || is_within at count i) is ∙ outside_is at count i out in
        let as_read : get_or image i 0 ≡ get_or new.now.seen i 0 = m.others i still in
        let as_before : get_or new.now.seen i 0 ≡ get_or seen i 0 = ap (λ (l : List ℕ). get_or l i 0) w.seen ∙ overwritten_outside at bytes seen i 0 fits out in
        away i out ∙ as_read ∙ as_before

    kept : (i : ℕ) → is_pending old.now i ≡ false → get_or earlier i 0 ≡ get_or seen i 0
    kept i is = elim (place at count i) [
      | inl range ↦ within i range.0 range.1
      | inr out ↦ kept_outside i out is
    ]
