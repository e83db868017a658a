-- What a stretch holds, and what stands outside of it.
use Rattle.std.proofs.Common.{◌≡◌, ◌⊎◌, inl, inr, ℕ, ◌+◌, ◌-◌, ◌<◌, ◌≤◌, min, max, Bool, false, List, length, replicate, get_or, sym, ◌∙◌, ap, arith}
use Rattle.std.proofs.lemmas.Bool.{cases_lt}
use Rattle.std.proofs.Math.Nat.{le-max_left, le-max_right, max-le, min-le_left, min-le_right}
use Rattle.std.proofs.lemmas.List.{ext_get_or, get_or-replicate, get_or_past, length-replicate}
use Rattle.disk_model.specs.DiskState.{overwritten}
use Rattle.disk_model.specs.Stretch.{AreClearOutside, AreSameOutside, IsOutside}
use Rattle.disk_model.specs.declared.stretch.Stretch.{Stretch}
use Rattle.disk_model.proofs.Overwrites.{length-overwritten, overwritten_inside, overwritten_outside, place}

-- no mark of a list without marks is set
pub get_or-clear : (n i : ℕ) → get_or (replicate n false) i false ≡ false
get_or-clear n i = elim (cases_lt i n) [
  | inl inside ↦ get_or-replicate n i false false inside
  | inr past ↦ get_or_past (replicate n false) i false (omega (arith, length-replicate n false, past))
]

-- marks of which none is set are a list without marks
all_clear : (marks : List Bool) → ((i : ℕ) → i < length marks → get_or marks i false ≡ false) → marks ≡ replicate (length marks) false
all_clear marks each = ext_get_or false marks (replicate (length marks) false) (sym (length-replicate (length marks) false)) (λ i inside. each i inside ∙ sym (get_or-clear (length marks) i))

-- a number is outside of an empty stretch
outside_empty : (stretch : Stretch) (i : ℕ) → stretch.to ≤ stretch.from → IsOutside stretch i
outside_empty stretch i none = elim (cases_lt i stretch.from) [ inl before ↦ inl before | inr behind ↦ inr (omega (arith, none, behind)) ]

-- marks that are clear outside of an empty stretch are clear
pub clear_empty : (stretch : Stretch) (marks : List Bool) → stretch.to ≤ stretch.from → AreClearOutside stretch marks → marks ≡ replicate (length marks) false
clear_empty stretch marks none clear = all_clear marks (λ i inside. clear i (outside_empty stretch i none))

-- once the marks in the stretch are cleared, all are
pub cleared : (stretch : Stretch) (marks : List Bool) → stretch.from < stretch.to → stretch.to ≤ length marks → AreClearOutside stretch marks
    → overwritten stretch.from (replicate (stretch.to - stretch.from) false) marks ≡ replicate (length marks) false
cleared stretch marks some fits clear = all ∙ ap (λ (n : ℕ). replicate n false) as_many
  where
    count : ℕ
    count = stretch.to - stretch.from

    part : List Bool
    part = replicate count false

    many : length part ≡ count
    many = length-replicate count false

    within : stretch.from + length part ≤ length marks
    within = omega (arith, many, some, fits)

    as_many : length (overwritten stretch.from part marks) ≡ length marks
    as_many = length-overwritten stretch.from part marks within

    each : (i : ℕ) → get_or (overwritten stretch.from part marks) i false ≡ false
    each i = elim (place stretch.from (length part) i) [
      | inl range ↦ overwritten_inside stretch.from part marks i false within range.0 range.1 ∙ get_or-clear count (i - stretch.from)
      | inr (inl before) ↦ overwritten_outside stretch.from part marks i false within (inl before) ∙ clear i (inl before)
      | inr (inr behind) ↦ overwritten_outside stretch.from part marks i false within (inr behind) ∙ clear i (inr (omega (arith, many, some, behind)))
    ]

    all : overwritten stretch.from part marks ≡ replicate (length (overwritten stretch.from part marks)) false
    all = all_clear (overwritten stretch.from part marks) (λ i inside. each i)

module _ (stretch wider : Stretch) (at count : ℕ) (is : (let over : Stretch = record { from = min stretch.from at; to = max stretch.to (at + count) } in wider ≡ over)) where
  -- a stretch that was made wider ends with the longer of both
  pub wider_inside : (n : ℕ) → stretch.to ≤ n → at + count ≤ n → wider.to ≤ n
  wider_inside n old new = omega (arith, ap (λ (s : Stretch). s.to) is, max-le old new)

  -- what is outside of it was outside of the first
  pub was_outside : (i : ℕ) → IsOutside wider i → IsOutside stretch i
  was_outside i (inl before) = inl (omega (arith, before, ap (λ (s : Stretch). s.from) is, min-le_left stretch.from at))
  was_outside i (inr behind) = inr (omega (arith, behind, ap (λ (s : Stretch). s.to) is, le-max_left stretch.to (at + count)))

  -- and is none of the numbers that it was made wider for
  pub is_elsewhere : (i : ℕ) → IsOutside wider i → (i < at) ⊎ (at + count ≤ i)
  is_elsewhere i (inl before) = inl (omega (arith, before, ap (λ (s : Stretch). s.from) is, min-le_right stretch.from at))
  is_elsewhere i (inr behind) = inr (omega (arith, behind, ap (λ (s : Stretch). s.to) is, le-max_right stretch.to (at + count)))

  -- so bytes that were the same outside of the first stay so outside of it, where some of the others are written
  pub same_outside : (one other part : List ℕ) → AreSameOutside stretch one other → length part ≤ count → at + count ≤ length other → AreSameOutside wider one (overwritten at part other)
  same_outside one other part same short fits i out =
      let apart : (i < at) ⊎ (at + length part ≤ i) = elim (is_elsewhere i out) [ inl before ↦ inl before | inr behind ↦ inr (omega (arith, behind, short)) ] in
      same i (was_outside i out) ∙ sym (overwritten_outside at part other i 0 (omega (arith, short, fits)) apart)

  -- and marks that were clear
  pub clear_outside : (marks part : List Bool) → AreClearOutside stretch marks → length part ≡ count → at + count ≤ length marks → AreClearOutside wider (overwritten at part marks)
  clear_outside marks part clear many fits i out =
      let apart : (i < at) ⊎ (at + length part ≤ i) = elim (is_elsewhere i out) [ inl before ↦ inl before | inr behind ↦ inr (omega (arith, behind, many)) ] in
      overwritten_outside at part marks i false (omega (arith, many, fits)) apart ∙ clear i (was_outside i out)
