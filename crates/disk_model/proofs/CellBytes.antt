-- What the bytes of an image say of its cells.
use Rattle.std.proofs.Common.{◌≡◌, ◌≢◌, ◌⊎◌, inl, inr, ℕ, ◌+◌, ◌-◌, ◌*◌, ◌/◌, ◌<◌, ◌≤◌, cond, eqb, min, List, length, drop, get_or, Some, None, sym, ◌∙◌, ap, subst, arith}
use Rattle.std.proofs.lemmas.Bool.{cases_lt}
use Rattle.std.proofs.lemmas.List.{get_or-take, get_or-drop, get_or_past, length-take, length-drop, ext_get_or}
use Rattle.std.proofs.lemmas.List.FromFn.{get_or-map-range_with_len}
use Rattle.std.proofs.Math.Nat.{mul-le-mul_left, mul-div-le}
use Rattle.disk_model.specs.Cells.{body_at, cell_at, cells_in, cells_of, cell}
use Rattle.disk_model.specs.Moments.{length-cells_of}

-- Two images of one length with the same bytes behind the gate of cell k have the same body there.
pub same_body : (size k : ℕ) (a b : List ℕ) → length a ≡ length b → ((i : ℕ) → 1 ≤ i → i < size → get_or a (size * k + i) 0 ≡ get_or b (size * k + i) 0) → body_at size a k ≡ body_at size b k
same_body size k a b len same =
    ext_get_or 0 (body_at size a k) (body_at size b k) lengths (λ i lt. bytes i (omega (arith, length-take (size - 1) (drop (size * k + 1) a))))
  where
    lengths : length (body_at size a k) ≡ length (body_at size b k)
    lengths = simp (length-take, length-drop) (ap (λ (n : ℕ). min (size - 1) (n - (size * k + 1))) len)

    bytes : (i : ℕ) → i < size - 1 → get_or (body_at size a k) i 0 ≡ get_or (body_at size b k) i 0
    bytes i lt =
        let here : get_or a (size * k + (1 + i)) 0 ≡ get_or b (size * k + (1 + i)) 0 = same (1 + i) (omega arith) (omega arith) in
        let at : size * k + 1 + i ≡ size * k + (1 + i) = omega arith in
        get_or-take (size - 1) (drop (size * k + 1) a) i 0 lt ∙ get_or-drop (size * k + 1) a i 0
        ∙ ap (λ (n : ℕ). get_or a n 0) at ∙ here ∙ ap (λ (n : ℕ). get_or b n 0) (sym at)
        ∙ sym (get_or-drop (size * k + 1) b i 0) ∙ sym (get_or-take (size - 1) (drop (size * k + 1) b) i 0 lt)

-- and with the same gate they have the same cell
pub same_cell : (size k : ℕ) (a b : List ℕ) → get_or a (size * k) 0 ≡ get_or b (size * k) 0 → body_at size a k ≡ body_at size b k → cell_at size a k ≡ cell_at size b k
same_cell size k a b gate body =
    ap (λ (g : ℕ). cond (eqb g 165) (Some (body_at size a k)) None) gate
    ∙ ap (λ (l : List ℕ). cond (eqb (get_or b (size * k) 0) 165) (Some l) None) body

-- cell k of the cells of an image is what its bytes say
pub cell-cells_of : (size : ℕ) (image : List ℕ) (k : ℕ) → k < cells_in size (length image) → cell (cells_of size image) k ≡ cell_at size image k
cell-cells_of size image k lt = get_or-map-range_with_len (cell_at size image) 0 (cells_in size (length image)) k k None lt (omega arith)

pub cell-past : (size : ℕ) (image : List ℕ) (k : ℕ) → cells_in size (length image) ≤ k → cell (cells_of size image) k ≡ None
cell-past size image k past =
    let out : length (cells_of size image) ≤ k = omega (arith, length-cells_of size image) in
    get_or_past (cells_of size image) k None out

-- Two images of one length with the same cell k, where there is one, have lists of cells with the same entry k.
pub same_entry : (size k : ℕ) (a b : List ℕ) → length a ≡ length b → (k < cells_in size (length b) → cell_at size a k ≡ cell_at size b k) → cell (cells_of size a) k ≡ cell (cells_of size b) k
same_entry size k a b len same = elim (cases_lt k (cells_in size (length b))) [
  | inl lt ↦
      let lt_a : k < cells_in size (length a) = subst (λ (n : ℕ). k < cells_in size n) (sym len) lt in
      cell-cells_of size a k lt_a ∙ same lt ∙ sym (cell-cells_of size b k lt)
  | inr past ↦
      let past_a : cells_in size (length a) ≤ k = subst (λ (n : ℕ). cells_in size n ≤ k) (sym len) past in
      cell-past size a k past_a ∙ sym (cell-past size b k past)
]

-- a whole cell lies inside the device
pub cell_inside : (size bytes k : ℕ) → k < cells_in size bytes → size * k + size ≤ bytes
cell_inside size bytes k lt =
    let up : size * (k + 1) ≤ size * (bytes / size) = mul-le-mul_left size lt_one in
    let down : size * (bytes / size) ≤ bytes = mul-div-le bytes size in
    omega (arith, up, down)
  where
    lt_one : k + 1 ≤ bytes / size
    lt_one = omega arith

-- the bytes of two cells are apart
pub cells_apart : (size j k i : ℕ) → j ≢ k → i < size → (size * j + i < size * k) ⊎ (size * k + size ≤ size * j + i)
cells_apart size j k i ne lt = elim (cases_lt j k) [
  | inl below ↦
      let up : size * (j + 1) ≤ size * k = mul-le-mul_left size (omega arith) in
      inl (omega (arith, up))
  | inr above ↦
      let more : k < j = omega (arith, ne) in
      let up : size * (k + 1) ≤ size * j = mul-le-mul_left size (omega arith) in
      inr (omega (arith, up))
]
