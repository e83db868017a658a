-- The base of an image with nothing wrong in its base cells.
use Rattle.std.proofs.Common.{◌≡◌, ◌⊎◌, inl, inr, ℕ, ◌≤◌, ◌&&◌, nat_lt, Bool, true, false, if◌then◌else◌, is_none, unwrap_or, List, Option, Some, None, refl, sym, ◌∙◌, ap, arith}
use Rattle.disk_model.specs.Cells.{Cell, cell}
use Rattle.gated_journal.specs.Bases as bases
use Rattle.gated_journal.specs.Bases.{base_of, counts_before}
use Rattle.gated_journal.specs.Rings.{IsReadFor}
use Rattle.record_codec.specs.Base.{base_in}
use Rattle.record_codec.specs.Ring.{base_cell}
use Rattle.plant_image.specs.Contents.{contents_of, base_held, ring_in}
use Rattle.plant_image.specs.Faults.{base_cell_fault, base_fault, is_any, is_full_but_not}
use Rattle.plant_image.specs.declared.fault.ImageFault.TheVariants.{Damaged}
use Rattle.plant_image.proofs.AtomSlots.{Holds, empty_or_holds, no_first, no_later, not_wrong}

-- the base that is held is the greater one, or the only one
chosen_some : (first second : Option ℕ) → (is_none first && is_none second) ≡ false → (base : ℕ) × ((if counts_before second first then second else first) ≡ Some base)
chosen_some None None some = absurd (let some = some in cc)
chosen_some (Some b) None some = (b, refl)
chosen_some None (Some b) some = (b, refl)
chosen_some (Some a) (Some b) some = by_test (nat_lt a b)
  where
    by_test : (t : Bool) → (base : ℕ) × ((if t then Some b else Some a) ≡ Some base)
    by_test true = (b, refl)
    by_test false = (a, refl)

-- a cell with nothing wrong in it holds a base exactly where it is full
held_where_full : (c : Cell) → is_full_but_not base_in (is_any {V = ℕ}) c ≡ false → is_none (bases.base_held c) ≡ is_none c
held_where_full c right = by_cell (empty_or_holds base_in (is_any {V = ℕ}) c right)
  where
    by_cell : (c ≡ None) ⊎ Holds base_in (is_any {V = ℕ}) c → is_none (bases.base_held c) ≡ is_none c
    by_cell (inl empty) = ap (λ (d : Cell). is_none (bases.base_held d)) empty ∙ ap (λ (d : Cell). is_none d) (sym empty)
    by_cell (inr h) = ap (λ (d : Cell). is_none (bases.base_held d)) h.full ∙ ap (λ (o : Option ℕ). is_none o) h.held ∙ ap (λ (d : Cell). is_none d) (sym h.full)

module _ (cells : List Cell) (none : base_fault cells ≡ None) where
  first_right : is_full_but_not base_in (is_any {V = ℕ}) (cell cells 1) ≡ false
  first_right = not_wrong (is_full_but_not base_in (is_any {V = ℕ}) (cell cells 1)) (Damaged 1) (no_first (base_cell_fault cells 0) _ none)

  second_right : is_full_but_not base_in (is_any {V = ℕ}) (cell cells 2) ≡ false
  second_right = not_wrong (is_full_but_not base_in (is_any {V = ℕ}) (cell cells 2)) (Damaged 2) (no_first (base_cell_fault cells 1) _ (no_later (base_cell_fault cells 0) _ none))

  one_full : (is_none (cell cells 1) && is_none (cell cells 2)) ≡ false
  one_full = not_wrong (is_none (cell cells 1) && is_none (cell cells 2)) (Damaged 1) (no_first _ None (no_later (base_cell_fault cells 1) _ (no_later (base_cell_fault cells 0) _ none)))

  -- so there is one
  base_there : base_of cells ≡ Some (base_held cells)
  base_there =
      let held = chosen_some (bases.base_held (cell cells 1)) (bases.base_held (cell cells 2)) (ap (λ (t : Bool). t && is_none (bases.base_held (cell cells 2))) (held_where_full (cell cells 1) first_right) ∙ ap (λ (t : Bool). is_none (cell cells 1) && t) (held_where_full (cell cells 2) second_right) ∙ one_full) in
      let is : base_of cells ≡ Some held.0 = by_test (counts_before (bases.base_held (cell cells 2)) (bases.base_held (cell cells 1))) ∙ held.1 in
      is ∙ ap (λ (o : Option ℕ). Some (unwrap_or o 1)) (sym is)
    where
      by_test : (t : Bool) → bases.base_held (cell cells (if t then base_cell 1 else base_cell 0)) ≡ (if t then bases.base_held (cell cells 2) else bases.base_held (cell cells 1))
      by_test true = refl
      by_test false = refl

  -- and the cells read for their journal
  pub reads_for : (atoms : ℕ) → 1 ≤ base_held cells → IsReadFor (ring_in atoms (contents_of atoms cells)) cells
  reads_for atoms some = record { based = record { in_cell = refl; number = base_there }; whole = omega (arith, some) }
