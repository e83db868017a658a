-- A write to a device in memory, whole or cut short, is a write of some bytes.
use Rattle.std.proofs.Common.{◌≡◌, ◌⊎◌, inl, inr, ⊎_elim, ℕ, ◌+◌, ◌-◌, ◌<◌, ◌≤◌, Bool, true, false, ◌||◌, List, [], ◌∷◌, ◌++◌, length, take, drop, replicate, get_or, refl, sym, ◌∙◌, ap, arith, length-append}
use Rattle.std.proofs.lemmas.Bool.{cases_lt}
use Rattle.std.proofs.lemmas.List.{ext_get_or, take_all, length-replicate, get_or-replicate, length-take-le, length-drop, get_or_append_left, get_or-append_right, get_or-drop}
use Rattle.disk_model.specs.DiskState.{DiskState, Writes, FailsToWrite, overwritten, is_within, size_of}
use Rattle.disk_model.proofs.Overwrites.{place, within_is, outside_is, overwritten_inside, overwritten_outside, length-overwritten, part_of, length-part_of, get_or-part_of}

or_true : (b : Bool) → b || true ≡ true
or_true true = refl
or_true false = refl

or_false : (b : Bool) → b || false ≡ b
or_false true = refl
or_false false = refl

-- the marks of a range
pub marked : (at count : ℕ) (marks : List Bool) (i : ℕ) → at + count ≤ length marks → get_or (overwritten at (replicate count true) marks) i false ≡ (get_or marks i false || is_within at count i)
marked at count marks i fits = elim (place at count i) [
  | inl range ↦
      let at_i : get_or (overwritten at (replicate count true) marks) i false ≡ get_or (replicate count true) (i - at) false = overwritten_inside at (replicate count true) marks i false whole range.0 (omega (arith, many, range.1)) in
      let one : get_or (replicate count true) (i - at) false ≡ true = get_or-replicate count (i - at) true false (omega (arith, range.0, range.1)) in
      at_i ∙ one ∙ sym (ap (λ (b : Bool). get_or marks i false || b) (within_is at count i range.0 range.1) ∙ or_true (get_or marks i false))
  | inr out ↦
      let away : (i < at) ⊎ (at + length (replicate count true) ≤ i) = ⊎_elim (λ below. inl below) (λ past. inr (omega (arith, many, past))) out in
      overwritten_outside at (replicate count true) marks i false whole away ∙ sym (ap (λ (b : Bool). get_or marks i false || b) (outside_is at count i out) ∙ or_false (get_or marks i false))
]
  where
    many : length (replicate count true) ≡ count
    many = length-replicate count true

    whole : at + length (replicate count true) ≤ length marks
    whole = omega (arith, many)

-- a write that was made whole
pub writes_whole : (at : ℕ) (bytes : List ℕ) (old new : DiskState) → length old.now.pending ≡ size_of old → at + length bytes ≤ size_of old → new.now.seen ≡ overwritten at (take (length bytes) bytes) old.now.seen
    → new.now.pending ≡ overwritten at (replicate (length bytes) true) old.now.pending → new.past ≡ old.past ++ old.now ∷ [] → Writes at bytes old new
writes_whole at bytes old new marks fits seen pending past = record {
  seen = seen ∙ ap (λ (l : List ℕ). overwritten at l old.now.seen) (take_all (length bytes) bytes (omega arith));
  pending = λ i. ap (λ (l : List Bool). get_or l i false) pending ∙ marked at (length bytes) old.now.pending i (omega (arith, marks));
  past = past;
}

-- One that was cut short wrote what it wrote, and left what stood there in the rest of the range.
module _ (at put count : ℕ) (front whole : List ℕ) (wrote : length front ≡ put) (part : put ≤ count) (fits : at + count ≤ length whole) where
  abbrev rest : List ℕ
  rest = drop put (part_of at count whole)

  pub length-cut : length (front ++ rest) ≡ count
  length-cut = omega (arith, length-append front rest, wrote, length-drop put (part_of at count whole), length-part_of at count whole fits, part)

  cut_at : (i : ℕ) → at ≤ i → i < at + count → at + put ≤ i → get_or (front ++ rest) (i - at) 0 ≡ get_or whole i 0
  cut_at i low high past =
      let there : put + (i - at - put) ≡ i - at = omega arith in
      get_or-append_right front rest put (i - at) 0 wrote (omega arith) ∙ get_or-drop put (part_of at count whole) (i - at - put) 0
      ∙ ap (λ (n : ℕ). get_or (part_of at count whole) n 0) there ∙ get_or-part_of at count whole i low high

  cut_front : (i : ℕ) → at ≤ i → i < at + put → get_or (front ++ rest) (i - at) 0 ≡ get_or front (i - at) 0
  cut_front i low high = get_or_append_left front rest 0 (i - at) (omega (arith, wrote))

  pub overwritten-cut : overwritten at front whole ≡ overwritten at (front ++ rest) whole
  overwritten-cut = ext_get_or 0 (overwritten at front whole) (overwritten at (front ++ rest) whole) (length-overwritten at front whole short ∙ sym (length-overwritten at (front ++ rest) whole all)) (λ i lt. same i)
    where
      short : at + length front ≤ length whole
      short = omega (arith, wrote, part, fits)

      all : at + length (front ++ rest) ≤ length whole
      all = omega (arith, length-cut, fits)

      same : (i : ℕ) → get_or (overwritten at front whole) i 0 ≡ get_or (overwritten at (front ++ rest) whole) i 0
      same i = elim (place at count i) [
        | inl range ↦ elim (cases_lt i (at + put)) [
          | inl early ↦ overwritten_inside at front whole i 0 short range.0 (omega (arith, wrote)) ∙ sym (overwritten_inside at (front ++ rest) whole i 0 all range.0 (omega (arith, length-cut, range.1)) ∙ cut_front i range.0 early)
          | inr late ↦ overwritten_outside at front whole i 0 short (inr (omega (arith, wrote))) ∙ sym (overwritten_inside at (front ++ rest) whole i 0 all range.0 (omega (arith, length-cut, range.1)) ∙ cut_at i range.0 range.1 late)
        ]
        | inr out ↦ overwritten_outside at front whole i 0 short (⊎_elim (λ below. inl below) (λ past. inr (omega (arith, wrote, part, past))) out) ∙ sym (overwritten_outside at (front ++ rest) whole i 0 all (⊎_elim (λ below. inl below) (λ past. inr (omega (arith, length-cut, past))) out))
      ]

pub writes_part : (at put : ℕ) (bytes : List ℕ) (old new : DiskState) → length old.now.pending ≡ size_of old → at + length bytes ≤ size_of old → put ≤ length bytes → new.now.seen ≡ overwritten at (take put bytes) old.now.seen
    → new.now.pending ≡ overwritten at (replicate (length bytes) true) old.now.pending → new.past ≡ old.past ++ old.now ∷ [] → FailsToWrite at bytes old new
writes_part at put bytes old new marks fits short seen pending past =
    let wrote : length (take put bytes) ≡ put = length-take-le put bytes short in
    let other : List ℕ = take put bytes ++ drop put (part_of at (length bytes) old.now.seen) in
    let many : length other ≡ length bytes = length-cut at put (length bytes) (take put bytes) old.now.seen wrote short fits in
    inr (
      other,
      many,
      record {
        seen = seen ∙ overwritten-cut at put (length bytes) (take put bytes) old.now.seen wrote short fits;
        pending = λ i. ap (λ (l : List Bool). get_or l i false) pending ∙ marked at (length bytes) old.now.pending i (omega (arith, marks)) ∙ ap (λ (n : ℕ). get_or old.now.pending i false || is_within at n i) (sym many);
        past = past;
      },
    )
