-- What a write inside one cell does to the cells of each image.
use Rattle.std.proofs.Common.{◌≡◌, ◌≢◌, ◌⊎◌, inl, inr, ℕ, ◌+◌, ◌-◌, ◌*◌, ◌<◌, ◌≤◌, List, length, get_or, sym, ◌∙◌, ap, subst, arith, add-zero}
use Rattle.std.proofs.lemmas.Bool.{cases_eq}
use Rattle.disk_model.specs.DiskState.{DiskState, Writes, size_of}
use Rattle.disk_model.specs.Cells.{body_at, cells_in, cells_of, cell}
use Rattle.disk_model.specs.Moments.{length-cells_of}
use Rattle.disk_model.proofs.Overwrites.{Before, overwritten_outside, length-overwritten}
use Rattle.disk_model.proofs.CellBytes.{same_body, same_cell, same_entry, cells_apart}

-- Two images that differ inside a part of cell k alone.
pub record DifferIn (size k at count : ℕ) (a b : List ℕ) : Type 0 where
  pub size_same : length a ≡ length b
  pub low : size * k ≤ at
  pub high : at + count ≤ size * k + size
  pub outside : (i : ℕ) → (i < at) ⊎ (at + count ≤ i) → get_or a i 0 ≡ get_or b i 0

module _ (size k at count : ℕ) (a b : List ℕ) (d : DifferIn size k at count a b) where
  byte_of_other : (j : ℕ) → j ≢ k → (i : ℕ) → i < size → get_or a (size * j + i) 0 ≡ get_or b (size * j + i) 0
  byte_of_other j ne i lt = elim (cells_apart size j k i ne lt) [
    | inl below ↦ d.outside (size * j + i) (inl (omega (arith, d.low)))
    | inr above ↦ d.outside (size * j + i) (inr (omega (arith, d.high)))
  ]

  pub other_body : (j : ℕ) → j ≢ k → body_at size a j ≡ body_at size b j
  other_body j ne = same_body size j a b d.size_same (λ i low lt. byte_of_other j ne i lt)

  pub other_cell : (j : ℕ) → 0 < size → j ≢ k → cell (cells_of size a) j ≡ cell (cells_of size b) j
  other_cell j sized ne =
      let gate : get_or a (size * j) 0 ≡ get_or b (size * j) 0 = rw add-zero at (byte_of_other j ne 0 sized) in
      same_entry size j a b d.size_same (λ lt. same_cell size j a b gate (other_body j ne))

  pub same_count : length (cells_of size a) ≡ length (cells_of size b)
  same_count = length-cells_of size a ∙ ap (λ (n : ℕ). cells_in size n) d.size_same ∙ sym (length-cells_of size b)

-- a gate was written: the body behind it stays
pub gate_keeps_body : (size k : ℕ) (a b : List ℕ) → DifferIn size k (size * k) 1 a b → body_at size a k ≡ body_at size b k
gate_keeps_body size k a b d = same_body size k a b d.size_same (λ i low lt. d.outside (size * k + i) (inr (omega arith)))

pub gate_keeps_bodies : (size k : ℕ) (a b : List ℕ) → DifferIn size k (size * k) 1 a b → (j : ℕ) → body_at size a j ≡ body_at size b j
gate_keeps_bodies size k a b d j = elim (cases_eq j k) [
  | inl is ↦ subst (λ (n : ℕ). body_at size a n ≡ body_at size b n) (sym is) (gate_keeps_body size k a b d)
  | inr ne ↦ other_body size k (size * k) 1 a b d j ne
]

-- a body was written: the gate before it stays
pub body_keeps_gate : (size k : ℕ) (a b : List ℕ) → 0 < size → DifferIn size k (size * k + 1) (size - 1) a b → get_or a (size * k) 0 ≡ get_or b (size * k) 0
body_keeps_gate size k a b sized d = d.outside (size * k) (inl (omega arith))

-- an image and the one from before a write differ where it was written
pub differ_before : (size k at : ℕ) (bytes : List ℕ) (old : DiskState) (image : List ℕ) (b : Before at (length bytes) old image) → size * k ≤ at → at + length bytes ≤ size * k + size → DifferIn size k at (length bytes) image b.earlier
differ_before size k at bytes old image b low high = record { size_same = b.size; low = low; high = high; outside = b.outside }

-- so does what a read gives
pub differ_seen : (size k at : ℕ) (bytes : List ℕ) (old new : DiskState) → Writes at bytes old new → at + length bytes ≤ size_of old → size * k ≤ at → at + length bytes ≤ size * k + size → DifferIn size k at (length bytes) new.now.seen old.now.seen
differ_seen size k at bytes old new w fits low high = record {
  size_same = ap (λ (l : List ℕ). length l) w.seen ∙ length-overwritten at bytes old.now.seen fits;
  low = low;
  high = high;
  outside = λ i out. ap (λ (l : List ℕ). get_or l i 0) w.seen ∙ overwritten_outside at bytes old.now.seen i 0 fits out;
}
