-- Which of the two base cells counts.
use Rattle.std.proofs.Common.{◌≡◌, ◌≢◌, ◌⊎◌, inl, inr, ⊎_elim, ℕ, ◌<◌, ◌≤◌, Bool, if◌then◌else◌, List, Option, Some, None, sym, ◌∙◌, ap, subst, arith}
use Rattle.std.proofs.lemmas.Bool.{cases_eq, lt-ltb, le-ltb}
use Rattle.disk_model.specs.Cells.{Cell, cell}
use Rattle.gated_journal.specs.declared.ring.Ring.{Ring}
use Rattle.record_codec.specs.Ring.{base_cell}
use Rattle.gated_journal.specs.Live.{place}
use Rattle.gated_journal.specs.Bases.{base_held, counts_before, base_cell_of, other_cell, IsBased}
use Rattle.gated_journal.specs.Rings.{IsRing}
use Rattle.gated_journal.specs.Stops.{moved}

-- the cell that counts, of what the second and the first hold
abbrev chosen : Option ℕ → Option ℕ → ℕ
chosen second first = if counts_before second first then 2 else 1

chosen_is : (cells : List Cell) (second first : Option ℕ) → base_held (cell cells 2) ≡ second → base_held (cell cells 1) ≡ first → base_cell_of cells ≡ chosen second first
chosen_is cells second first is was = ap (λ (o : Option ℕ). chosen o (base_held (cell cells 1))) is ∙ ap (λ (o : Option ℕ). chosen second o) was

-- the base in the cell that counts
pub held_at : (j : Ring) (cells : List Cell) → IsBased j cells → base_held (cell cells j.base_cell) ≡ Some j.base
held_at j cells b = sym (ap (λ (k : ℕ). base_held (cell cells k)) b.in_cell) ∙ b.number

based_at : (j : Ring) (cells : List Cell) → base_cell_of cells ≡ j.base_cell → base_held (cell cells j.base_cell) ≡ Some j.base → IsBased j cells
based_at j cells counts held = record { in_cell = counts; number = ap (λ (k : ℕ). base_held (cell cells k)) counts ∙ held }

one_or_two : (j : Ring) → IsRing j → (j.base_cell ≡ 1) ⊎ (j.base_cell ≡ 2)
one_or_two j ring = ⊎_elim (λ is. inl is) (λ ne. inr (let from = ring.cell_from in let to = ring.cell_to in omega (arith, ne))) (cases_eq j.base_cell 1)

-- Where the base's cell is as it was, and the other as it was or empty, the same base counts.
pub based_still : (j : Ring) (before cells : List Cell) → IsRing j → IsBased j before → cell cells j.base_cell ≡ cell before j.base_cell
    → (cell cells (other_cell j) ≡ cell before (other_cell j)) ⊎ (cell cells (other_cell j) ≡ None) → IsBased j cells
based_still j before cells ring b same other =
    let held : base_held (cell cells j.base_cell) ≡ Some j.base = ap base_held same ∙ held_at j before b in
    based_at j cells (⊎_elim
    (λ first.
    let second : other_cell j ≡ 2 = omega (arith, first) in
    let here : cell cells 1 ≡ cell before 1 = subst (λ (k : ℕ). cell cells k ≡ cell before k) first same in
    ⊎_elim
    (λ kept. chosen_is cells (base_held (cell before 2)) (base_held (cell before 1)) (ap base_held (subst (λ (k : ℕ). cell cells k ≡ cell before k) second kept)) (ap base_held here) ∙ b.in_cell)
    (λ empty. chosen_is cells None (base_held (cell before 1)) (ap base_held (subst (λ (k : ℕ). cell cells k ≡ None) second empty)) (ap base_held here) ∙ sym first)
    other)
    (λ second.
    let first : other_cell j ≡ 1 = omega (arith, second) in
    let here : cell cells 2 ≡ cell before 2 = subst (λ (k : ℕ). cell cells k ≡ cell before k) second same in
    ⊎_elim
    (λ kept. chosen_is cells (base_held (cell before 2)) (base_held (cell before 1)) (ap base_held here) (ap base_held (subst (λ (k : ℕ). cell cells k ≡ cell before k) first kept)) ∙ b.in_cell)
    (λ empty. chosen_is cells (Some j.base) None (subst (λ (k : ℕ). base_held (cell cells k) ≡ Some j.base) second held) (ap base_held (subst (λ (k : ℕ). cell cells k ≡ None) first empty)) ∙ sym second)
    other)
    (one_or_two j ring)) held

-- no record stands in a base cell
pub place_after : (j : Ring) (n k : ℕ) → k ≤ base_cell 1 → place j n ≢ k
place_after j n k low = λ same. omega (arith, same)

-- Where both base cells are as they were, the same base counts.
pub based_same : (j : Ring) (before cells : List Cell) → IsRing j → ((k : ℕ) → k ≤ base_cell 1 → cell cells k ≡ cell before k) → IsBased j before → IsBased j cells
based_same j before cells ring same b =
    based_still j before cells ring b (same j.base_cell ring.cell_to) (inl (same (other_cell j) (let from = ring.cell_from in omega arith)))

-- Where the other cell holds a greater base, that one counts.
pub based_moved : (j : Ring) (base : ℕ) (cells : List Cell) → IsRing j → j.base < base → base_held (cell cells j.base_cell) ≡ Some j.base → base_held (cell cells (other_cell j)) ≡ Some base → IsBased (moved base j) cells
based_moved j base cells ring above old new = based_at (moved base j) cells (⊎_elim
    (λ first.
    let second : other_cell j ≡ 2 = omega (arith, first) in
    chosen_is cells (Some base) (Some j.base) (subst (λ (k : ℕ). base_held (cell cells k) ≡ Some base) second new) (subst (λ (k : ℕ). base_held (cell cells k) ≡ Some j.base) first old)
    ∙ ap (λ (b : Bool). if b then 2 else 1) (lt-ltb j.base base above) ∙ sym second)
    (λ second.
    let first : other_cell j ≡ 1 = omega (arith, second) in
    chosen_is cells (Some j.base) (Some base) (subst (λ (k : ℕ). base_held (cell cells k) ≡ Some j.base) second old) (subst (λ (k : ℕ). base_held (cell cells k) ≡ Some base) first new)
    ∙ ap (λ (b : Bool). if b then 2 else 1) (le-ltb base j.base (omega (arith, above))) ∙ sym first)
    (one_or_two j ring)) new
