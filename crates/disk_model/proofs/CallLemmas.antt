-- What each device call on a cell does to the cells that a stop may leave, and to those that a read gives.
use Rattle.std.proofs.Common.{◌≡◌, ◌≢◌, ◌⊎◌, inl, inr, ⊎_elim, ℕ, ◌+◌, ◌-◌, ◌*◌, ◌<◌, ◌≤◌, Bool, true, false, ◌||◌, cond, eqb, List, [], ◌∷◌, ◌++◌, length, take, drop, get_or, Some, None, Result, Ok, Err, OnOk, OnErr, MatchResult, refl, sym, ◌∙◌, ap, subst, arith}
use Rattle.disk_model.specs.declared.disk.DiskFault.{DiskFault}
use Rattle.std.proofs.lemmas.Bool.Decides.{nat_tests}
use Rattle.std.proofs.lemmas.List.{ext_get_or, get_or-take, get_or-drop, drop-take, drop-drop, length-drop, length-take-le, append_assoc, drop_at, take_all, take_at}
use Rattle.disk_model.specs.DiskState.{Moment, DiskState, MayLeave, IsSettled, Writes, Syncs, IsUnchanged, FailsToWrite, overwritten, is_within, is_pending, size_of}
use Rattle.disk_model.specs.Cells.{Cell, body_at, cell_at, cells_in, cells_of, cell, cell_count, seen_cells, MayBe, IsClosed, Leaves}
use Rattle.disk_model.specs.Steps.{ChangesOne, IsAsBefore, IsAsBeforeOrEmpty, IsEmptied, IsEmptyOr, HasBody, Steps, IsFirm}
use Rattle.disk_model.specs.Moments.{leaves_unchanged, leaves_changed, unchanged_from}
use Rattle.disk_model.proofs.Overwrites.{Before, before_write, overwritten_inside}
use Rattle.disk_model.proofs.CellBytes.{cell_inside, cell-cells_of}
use Rattle.disk_model.proofs.Steps.{DifferIn, other_body, other_cell, same_count, gate_keeps_body, gate_keeps_bodies, differ_before, differ_seen}

-- a cell whose gate is open has its body
pub open_cell : (size k : ℕ) (a : List ℕ) → get_or a (size * k) 0 ≡ 165 → cell_at size a k ≡ Some (body_at size a k)
open_cell size k a gate = ap (λ (g : ℕ). cond (eqb g 165) (Some (body_at size a k)) None) gate

-- a cell is empty or has its body
pub cell_cases : (size k : ℕ) (a : List ℕ) → (cell_at size a k ≡ None) ⊎ (cell_at size a k ≡ Some (body_at size a k))
cell_cases size k a = elim (eqb (get_or a (size * k) 0) 165) as (λ b. (cond b (Some (body_at size a k)) None ≡ None) ⊎ (cond b (Some (body_at size a k)) None ≡ Some (body_at size a k))) [ true ↦ inr refl | false ↦ inl refl ]

-- whether a cell is empty is for its gate to say
pub shut_by_gate : (size k : ℕ) (a b : List ℕ) → get_or a (size * k) 0 ≡ get_or b (size * k) 0 → cell_at size b k ≡ None → cell_at size a k ≡ None
shut_by_gate size k a b gate shut =
    let moved : cond (eqb (get_or b (size * k) 0) 165) (Some (body_at size a k)) None ≡ None = swap (eqb (get_or b (size * k) 0) 165) (body_at size b k) (body_at size a k) shut in
    ap (λ (g : ℕ). cond (eqb g 165) (Some (body_at size a k)) None) gate ∙ moved
  where
    swap : (is_open : Bool) (x y : List ℕ) → cond is_open (Some x) None ≡ None → cond is_open (Some y) None ≡ None
    swap true x y is = absurd (cc)
    swap false x y is = refl

module _ (size k : ℕ) (sized : 0 < size) where
  -- what each image has is enough
  pub steps_from : (S : Cell → Cell → Type 0) (old new : DiskState) → IsUnchanged old new ⊎ (new.past ≡ old.past ++ old.now ∷ [])
      → ((image : List ℕ) → MayLeave new.now image → (earlier : List ℕ) × MayLeave old.now earlier × ChangesOne k S (cells_of size earlier) (cells_of size image)) → Steps size k S old new
  steps_from S old new time each = record {
    time = time;
    follows = λ cells may.
        let e : (earlier : List ℕ) × MayLeave old.now earlier × ChangesOne k S (cells_of size earlier) (cells_of size may.image) = each may.image may.left in
        (cells_of size e.0, record { image = e.0; left = e.1; same = refl }, subst (λ (l : List Cell). ChangesOne k S (cells_of size e.0) l) (sym may.same) e.2);
  }

  -- a call that changed nothing
  pub steps_unchanged : (S : Cell → Cell → Type 0) (old new : DiskState) → ((image : List ℕ) → MayLeave old.now image → S (cell (cells_of size image) k) (cell (cells_of size image) k)) → IsUnchanged old new → Steps size k S old new
  steps_unchanged S old new stays same = steps_from S old new (inl same) (λ image left.
      let was : MayLeave old.now image = subst (λ (m : Moment). MayLeave m image) same.now left in
      (image, was, record { count = refl; here = stays image was; others = λ j ne. refl }))

  -- an image after a write inside cell k, and the one that it comes of
  pub steps_write : (S : Cell → Cell → Type 0) (at : ℕ) (bytes : List ℕ) (old new : DiskState) → k < cell_count size old → size * k ≤ at → at + length bytes ≤ size * k + size → Writes at bytes old new
      → ((image : List ℕ) (b : Before at (length bytes) old image) → DifferIn size k at (length bytes) image b.earlier → MayLeave new.now image → S (cell_at size b.earlier k) (cell_at size image k)) → Steps size k S old new
  steps_write S at bytes old new inside low high w here = steps_from S old new (inr w.past) (λ image left.
      let whole : size * k + size ≤ size_of old = cell_inside size (size_of old) k inside in
      let b : Before at (length bytes) old image = before_write at bytes old new image (omega arith) w left in
      let d : DifferIn size k at (length bytes) image b.earlier = differ_before size k at bytes old image b low high in
      let in_earlier : k < cells_in size (length b.earlier) = subst (λ (n : ℕ). k < cells_in size n) (sym b.left.size) inside in
      let in_image : k < cells_in size (length image) = subst (λ (n : ℕ). k < cells_in size n) (sym b.size) in_earlier in
      let cells : S (cell_at size b.earlier k) (cell_at size image k) = here image b d left in
      let half : S (cell (cells_of size b.earlier) k) (cell_at size image k) = subst (λ (c : Cell). S c (cell_at size image k)) (sym (cell-cells_of size b.earlier k in_earlier)) cells in
      let both : S (cell (cells_of size b.earlier) k) (cell (cells_of size image) k) = subst (λ (c : Cell). S (cell (cells_of size b.earlier) k) c) (sym (cell-cells_of size image k in_image)) half in
      (b.earlier, b.left, record { count = same_count size k at (length bytes) image b.earlier d; here = both; others = λ j ne. other_cell size k at (length bytes) image b.earlier d j sized ne }))

  -- what a read gives after a write inside cell k
  pub seen_write : (S : Cell → Cell → Type 0) (at : ℕ) (bytes : List ℕ) (old new : DiskState) → k < cell_count size old → size * k ≤ at → at + length bytes ≤ size * k + size → Writes at bytes old new
      → (DifferIn size k at (length bytes) new.now.seen old.now.seen → S (cell_at size old.now.seen k) (cell_at size new.now.seen k)) → ChangesOne k S (seen_cells size old) (seen_cells size new)
  seen_write S at bytes old new inside low high w here =
      let whole : size * k + size ≤ size_of old = cell_inside size (size_of old) k inside in
      let d : DifferIn size k at (length bytes) new.now.seen old.now.seen = differ_seen size k at bytes old new w (omega arith) low high in
      let in_new : k < cells_in size (length new.now.seen) = subst (λ (n : ℕ). k < cells_in size n) (sym d.size_same) inside in
      let half : S (cell (seen_cells size old) k) (cell_at size new.now.seen k) = subst (λ (c : Cell). S c (cell_at size new.now.seen k)) (sym (cell-cells_of size old.now.seen k inside)) (here d) in
      let both : S (cell (seen_cells size old) k) (cell (seen_cells size new) k) = subst (λ (c : Cell). S (cell (seen_cells size old) k) c) (sym (cell-cells_of size new.now.seen k in_new)) half in
      record { count = same_count size k at (length bytes) new.now.seen old.now.seen d; here = both; others = λ j ne. other_cell size k at (length bytes) new.now.seen old.now.seen d j sized ne }

  -- the gate of a cell that reads open is written: the cell is as it was, or empty
  pub steps_close : (bytes : List ℕ) (old new : DiskState) → k < cell_count size old → length bytes ≡ 1 → get_or old.now.seen (size * k) 0 ≡ 165 → FailsToWrite (size * k) bytes old new → Steps size k IsAsBeforeOrEmpty old new
  steps_close bytes old new inside one gate (inl same) = steps_unchanged IsAsBeforeOrEmpty old new (λ image left. inl refl) same
  steps_close bytes old new inside one gate (inr (other, len, w)) =
      steps_write IsAsBeforeOrEmpty (size * k) other old new inside (omega arith) (omega (arith, len)) w (λ image b d left. here image b d)
    where
      here : (image : List ℕ) (b : Before (size * k) (length other) old image) → DifferIn size k (size * k) (length other) image b.earlier → IsAsBeforeOrEmpty (cell_at size b.earlier k) (cell_at size image k)
      here image b d =
          let was_open : get_or b.earlier (size * k) 0 ≡ 165 = b.inside (size * k) (omega arith) (omega (arith, len)) ∙ gate in
          let narrow : DifferIn size k (size * k) 1 image b.earlier = subst (λ (n : ℕ). DifferIn size k (size * k) n image b.earlier) (len ∙ one) d in
          let body : body_at size image k ≡ body_at size b.earlier k = gate_keeps_body size k image b.earlier narrow in
          ⊎_elim (λ none. inr none) (λ some. inl (some ∙ ap (λ (l : List ℕ). Some l) body ∙ sym (open_cell size k b.earlier was_open))) (cell_cases size k image)

  -- a written gate is what a read gives
  gate_written : (old new : DiskState) (g : ℕ) → k < cell_count size old → Writes (size * k) (g ∷ []) old new → get_or new.now.seen (size * k) 0 ≡ g
  gate_written old new g inside w =
      let whole : size * k + size ≤ size_of old = cell_inside size (size_of old) k inside in
      let here : get_or (overwritten (size * k) (g ∷ []) old.now.seen) (size * k) 0 ≡ get_or (g ∷ []) (size * k - size * k) 0 = overwritten_inside (size * k) (g ∷ []) old.now.seen (size * k) 0 (omega arith) (omega arith) (omega arith) in
      let none : size * k - size * k ≡ 0 = omega arith in
      ap (λ (l : List ℕ). get_or l (size * k) 0) w.seen ∙ here ∙ ap (λ (n : ℕ). get_or (g ∷ []) n 0) none

  -- after which it reads empty
  pub seen_close : (old new : DiskState) → k < cell_count size old → Writes (size * k) (0 ∷ []) old new → ChangesOne k IsEmptied (seen_cells size old) (seen_cells size new)
  seen_close old new inside w =
      seen_write IsEmptied (size * k) (0 ∷ []) old new inside (omega arith) (omega arith) w (λ d.
      let gate : get_or new.now.seen (size * k) 0 ≡ 0 = gate_written old new 0 inside w in
      ap (λ (g : ℕ). cond (eqb g 165) (Some (body_at size new.now.seen k)) None) gate)

  -- a cell that is closed has its gate shut in each image
  closed_at : (old : DiskState) → k < cell_count size old → IsClosed size old k → (image : List ℕ) → MayLeave old.now image → cell_at size image k ≡ None
  closed_at old inside closed image left =
      let in_image : k < cells_in size (length image) = subst (λ (n : ℕ). k < cells_in size n) (sym left.size) inside in
      sym (cell-cells_of size image k in_image) ∙ closed (cells_of size image) (record { image = image; left = left; same = refl })

  -- a body is written behind a gate that is closed: no cell changes
  pub steps_body : (bytes : List ℕ) (old new : DiskState) → k < cell_count size old → length bytes + 1 ≡ size → IsClosed size old k → FailsToWrite (size * k + 1) bytes old new → Steps size k IsAsBefore old new
  steps_body bytes old new inside whole closed (inl same) = steps_unchanged IsAsBefore old new (λ image left. refl) same
  steps_body bytes old new inside whole closed (inr (other, len, w)) =
      steps_write IsAsBefore (size * k + 1) other old new inside (omega arith) (omega (arith, len)) w (λ image b d left. here image b d)
    where
      here : (image : List ℕ) (b : Before (size * k + 1) (length other) old image) → DifferIn size k (size * k + 1) (length other) image b.earlier → cell_at size image k ≡ cell_at size b.earlier k
      here image b d =
          let shut : cell_at size b.earlier k ≡ None = closed_at old inside closed b.earlier b.left in
          let gate : get_or image (size * k) 0 ≡ get_or b.earlier (size * k) 0 = d.outside (size * k) (inl (omega arith)) in
          shut_by_gate size k image b.earlier gate shut ∙ sym shut

  -- nor one that a read gives
  pub seen_body : (bytes : List ℕ) (old new : DiskState) → k < cell_count size old → length bytes + 1 ≡ size → IsClosed size old k → Writes (size * k + 1) bytes old new → ChangesOne k IsAsBefore (seen_cells size old) (seen_cells size new)
  seen_body bytes old new inside whole closed w =
      seen_write IsAsBefore (size * k + 1) bytes old new inside (omega arith) (omega arith) w (λ d.
      let shut : cell_at size old.now.seen k ≡ None = closed_at old inside closed old.now.seen (record { size = refl; others = λ i is. refl }) in
      let gate : get_or new.now.seen (size * k) 0 ≡ get_or old.now.seen (size * k) 0 = d.outside (size * k) (inl (omega arith)) in
      shut_by_gate size k new.now.seen old.now.seen gate shut ∙ sym shut)

  -- and a read gives the body
  pub body_written : (bytes : List ℕ) (old new : DiskState) → k < cell_count size old → length bytes + 1 ≡ size → Writes (size * k + 1) bytes old new → body_at size new.now.seen k ≡ bytes
  body_written bytes old new inside whole w =
      let fits : size * k + size ≤ size_of old = cell_inside size (size_of old) k inside in
      let count : size - 1 ≡ length bytes = omega arith in
      ap (λ (l : List ℕ). body_at size l k) w.seen ∙ ap (λ (n : ℕ). take n (drop (size * k + 1) (overwritten (size * k + 1) bytes old.now.seen))) count ∙ taken (size * k + 1) bytes old.now.seen (omega arith)
    where
      taken : (at : ℕ) (part whole : List ℕ) → at + length part ≤ length whole → take (length part) (drop at (overwritten at part whole)) ≡ part
      taken at part whole fits =
          let front : length (take at whole) ≡ at = length-take-le at whole (omega arith) in
          ap (λ (l : List ℕ). take (length part) (drop at l)) (append_assoc (take at whole) part (drop (at + length part) whole))
          ∙ ap (λ (l : List ℕ). take (length part) l) (drop_at (take at whole) (part ++ drop (at + length part) whole) at front)
          ∙ take_at part (drop (at + length part) whole) (length part) refl

  -- the bodies of the other cells stay
  pub others_written : (bytes : List ℕ) (old new : DiskState) → k < cell_count size old → length bytes + 1 ≡ size → Writes (size * k + 1) bytes old new → (j : ℕ) → j ≢ k → body_at size new.now.seen j ≡ body_at size old.now.seen j
  others_written bytes old new inside whole w j ne =
      let fits : size * k + size ≤ size_of old = cell_inside size (size_of old) k inside in
      other_body size k (size * k + 1) (length bytes) new.now.seen old.now.seen (differ_seen size k (size * k + 1) bytes old new w (omega arith) (omega arith) (omega arith)) j ne

  -- the gate of a cell with a firm body is written: the cell is empty or has that body
  pub steps_open : (bytes body : List ℕ) (old new : DiskState) → k < cell_count size old → length bytes ≡ 1 → IsFirm size old k body → FailsToWrite (size * k) bytes old new → Steps size k (IsEmptyOr body) old new
  steps_open bytes body old new inside one firm (inl same) = steps_unchanged (IsEmptyOr body) old new stays same
    where
      stays : (image : List ℕ) → MayLeave old.now image → IsEmptyOr body (cell (cells_of size image) k) (cell (cells_of size image) k)
      stays image left =
          let in_image : k < cells_in size (length image) = subst (λ (n : ℕ). k < cells_in size n) (sym left.size) inside in
          let at : cell (cells_of size image) k ≡ cell_at size image k = cell-cells_of size image k in_image in
          ⊎_elim (λ none. inl (at ∙ none)) (λ some. inr (at ∙ some ∙ ap (λ (l : List ℕ). Some l) (firm image left))) (cell_cases size k image)
  steps_open bytes body old new inside one firm (inr (other, len, w)) =
      steps_write (IsEmptyOr body) (size * k) other old new inside (omega arith) (omega (arith, len)) w (λ image b d left. here image b d)
    where
      here : (image : List ℕ) (b : Before (size * k) (length other) old image) → DifferIn size k (size * k) (length other) image b.earlier → IsEmptyOr body (cell_at size b.earlier k) (cell_at size image k)
      here image b d =
          let narrow : DifferIn size k (size * k) 1 image b.earlier = subst (λ (n : ℕ). DifferIn size k (size * k) n image b.earlier) (len ∙ one) d in
          let same : body_at size image k ≡ body = gate_keeps_body size k image b.earlier narrow ∙ firm b.earlier b.left in
          ⊎_elim (λ none. inl none) (λ some. inr (some ∙ ap (λ (l : List ℕ). Some l) same)) (cell_cases size k image)

  -- each body that is firm stays so
  pub firm_open : (bytes : List ℕ) (old new : DiskState) → k < cell_count size old → length bytes ≡ 1 → FailsToWrite (size * k) bytes old new → (j : ℕ) (body : List ℕ) → IsFirm size old j body → IsFirm size new j body
  firm_open bytes old new inside one (inl same) j body firm image left = firm image (subst (λ (m : Moment). MayLeave m image) same.now left)
  firm_open bytes old new inside one (inr (other, len, w)) j body firm image left =
      let whole : size * k + size ≤ size_of old = cell_inside size (size_of old) k inside in
      let b : Before (size * k) (length other) old image = before_write (size * k) other old new image (omega (arith, len)) w left in
      let d : DifferIn size k (size * k) (length other) image b.earlier = differ_before size k (size * k) other old image b (omega arith) (omega (arith, len)) in
      let narrow : DifferIn size k (size * k) 1 image b.earlier = subst (λ (n : ℕ). DifferIn size k (size * k) n image b.earlier) (len ∙ one) d in
      gate_keeps_bodies size k image b.earlier narrow j ∙ firm b.earlier b.left

  -- after which it reads full with the body that a read gave
  pub seen_open : (old new : DiskState) → k < cell_count size old → Writes (size * k) (165 ∷ []) old new → ChangesOne k (HasBody (body_at size old.now.seen k)) (seen_cells size old) (seen_cells size new)
  seen_open old new inside w =
      seen_write (HasBody (body_at size old.now.seen k)) (size * k) (165 ∷ []) old new inside (omega arith) (omega arith) w (λ d.
      let gate : get_or new.now.seen (size * k) 0 ≡ 165 = gate_written old new 165 inside w in
      open_cell size k new.now.seen gate ∙ ap (λ (l : List ℕ). Some l) (gate_keeps_body size k new.now.seen old.now.seen d))

  pub bodies_open : (old new : DiskState) → k < cell_count size old → Writes (size * k) (165 ∷ []) old new → (j : ℕ) → body_at size new.now.seen j ≡ body_at size old.now.seen j
  bodies_open old new inside w j =
      let whole : size * k + size ≤ size_of old = cell_inside size (size_of old) k inside in
      gate_keeps_bodies size k new.now.seen old.now.seen (differ_seen size k (size * k) (165 ∷ []) old new w (omega arith) (omega arith) (omega arith)) j

-- after a sync a stop leaves what a read gives
pub settled_by_sync : (old new : DiskState) → Syncs old new → IsSettled new.now
settled_by_sync old new s image left = ext_get_or 0 image new.now.seen left.size (λ i lt. left.others i (s.pending i))

-- which is what a read gave before it
pub steps_sync : (size k : ℕ) (old new : DiskState) → 0 < size → Syncs old new → Steps size k IsAsBefore old new
steps_sync size k old new sized s = steps_from size k sized IsAsBefore old new (inr s.past) (λ image left.
    let same : image ≡ old.now.seen = settled_by_sync old new s image left ∙ s.seen in
    (old.now.seen, record { size = refl; others = λ i is. refl }, subst (λ (l : List ℕ). ChangesOne k IsAsBefore (cells_of size old.now.seen) (cells_of size l)) (sym same) (record { count = refl; here = refl; others = λ j ne. refl })))

-- A call's step goes on with what a stop leaves.
pub leaves_step : (size k : ℕ) (S : Cell → Cell → Type 0) (P : List Cell → Type 0) (old new : DiskState) → Steps size k S old new → ((cells : List Cell) → MayBe size old cells → P cells)
    → ((before cells : List Cell) → MayBe size old before → P before → ChangesOne k S before cells → P cells) → Leaves size P old new
leaves_step size k S P old new steps was goes = elim steps.time [
  | inl same ↦ leaves_unchanged size P old new same was
  | inr past ↦ leaves_changed size P old new past was (λ cells may.
      let b : (before : List Cell) × MayBe size old before × ChangesOne k S before cells = steps.follows cells may in
      goes b.0 cells b.1 (was b.0 b.1) b.2)
]

-- a call that comes after one that changed nothing
pub writes_from : (at : ℕ) (bytes : List ℕ) (old mid new : DiskState) → IsUnchanged old mid → Writes at bytes mid new → Writes at bytes old new
writes_from at bytes old mid new same w = record {
  seen = w.seen ∙ ap (λ (m : Moment). overwritten at bytes m.seen) same.now;
  pending = λ i. w.pending i ∙ ap (λ (m : Moment). is_pending m i || is_within at (length bytes) i) same.now;
  past = w.past ∙ ap (λ (l : List Moment). l ++ mid.now ∷ []) same.past ∙ ap (λ (m : Moment). old.past ++ m ∷ []) same.now;
}

pub fails_from : (at : ℕ) (bytes : List ℕ) (old mid new : DiskState) → IsUnchanged old mid → FailsToWrite at bytes mid new → FailsToWrite at bytes old new
fails_from at bytes old mid new same (inl none) = inl (unchanged_from old mid new same none)
fails_from at bytes old mid new same (inr (other, len, w)) = inr (other, len, writes_from at other old mid new same w)

-- a write, whether it failed or not
pub written_or_failed : (r : Result (Unit {0}) DiskFault) (at : ℕ) (bytes : List ℕ) (old new : DiskState) → OnOk r (Writes at bytes old new) → OnErr r (FailsToWrite at bytes old new) → FailsToWrite at bytes old new
written_or_failed (Ok v) at bytes old new ok err = inr (bytes, refl, ok)
written_or_failed (Err e) at bytes old new ok err = err

-- a gate that is not open reads as an empty cell
pub seen_shut : (size k : ℕ) (old new : DiskState) → k < cell_count size old → eqb (get_or old.now.seen (size * k) 0) 165 ≡ false → IsUnchanged old new → ChangesOne k IsEmptied (seen_cells size old) (seen_cells size new)
seen_shut size k old new inside gate same = subst (λ (m : Moment). ChangesOne k IsEmptied (seen_cells size old) (cells_of size m.seen)) (sym same.now) (record { count = refl; here = empty; others = λ j ne. refl })
  where
    empty : cell (seen_cells size old) k ≡ None
    empty = cell-cells_of size old.now.seen k inside ∙ ap (λ (b : Bool). cond b (Some (body_at size old.now.seen k)) None) gate

pub gate_from_test : (b : Bool) (g : ℕ) → b ≡ true → b ≡ eqb g 165 → g ≡ 165
gate_from_test b g is test =
    let same : eqb g 165 ≡ true = sym test ∙ is in
    grind (arith, nat_tests)

-- a cell whose gate is not open
pub cell_empty : (size k : ℕ) (old : DiskState) → k < cell_count size old → eqb (get_or old.now.seen (size * k) 0) 165 ≡ false → cell (seen_cells size old) k ≡ None
cell_empty size k old inside gate = cell-cells_of size old.now.seen k inside ∙ ap (λ (b : Bool). cond b (Some (body_at size old.now.seen k)) None) gate

-- a whole cell was read by one call
module _ (size k n : ℕ) (old : DiskState) (whole : List ℕ) (sized : 0 < size) (inside : k < cell_count size old) (room : n ≡ size) (read : whole ≡ take n (drop (size * k) old.now.seen)) where
  -- its gate is the first byte
  gate_read : get_or whole 0 0 ≡ get_or old.now.seen (size * k) 0
  gate_read =
      let at : size * k + 0 ≡ size * k = omega arith in
      ap (λ (l : List ℕ). get_or l 0 0) read ∙ get_or-take n (drop (size * k) old.now.seen) 0 0 (omega (arith, sized, room)) ∙ get_or-drop (size * k) old.now.seen 0 0
      ∙ ap (λ (i : ℕ). get_or old.now.seen i 0) at

  -- and its body the rest
  body_read : take (length whole - 1) (drop 1 whole) ≡ body_at size old.now.seen k
  body_read =
      let parts : n ≡ 1 + (size - 1) = omega (arith, sized, room) in
      take_all (length whole - 1) (drop 1 whole) (omega (arith, length-drop 1 whole))
      ∙ ap (λ (l : List ℕ). drop 1 l) (read ∙ ap (λ (i : ℕ). take i (drop (size * k) old.now.seen)) parts)
      ∙ drop-take 1 (size - 1) (drop (size * k) old.now.seen)
      ∙ ap (λ (l : List ℕ). take (size - 1) l) (drop-drop 1 (size * k) old.now.seen)

  -- so it tells whether the cell is full, and its body then
  pub read_empty : get_or whole 0 0 ≢ 165 → cell (seen_cells size old) k ≡ None
  read_empty shut = cell_empty size k old inside (not_equal (get_or old.now.seen (size * k) 0) (λ is. shut (gate_read ∙ is)))
    where
      not_equal : (g : ℕ) → g ≢ 165 → eqb g 165 ≡ false
      not_equal g ne = grind (arith, nat_tests)

  pub read_full : get_or whole 0 0 ≡ 165 → cell (seen_cells size old) k ≡ Some (take (length whole - 1) (drop 1 whole))
  read_full gate = cell-cells_of size old.now.seen k inside ∙ open_cell size k old.now.seen (sym gate_read ∙ gate) ∙ ap (λ (l : List ℕ). Some l) (sym body_read)

-- a cell that reads full has its gate open
pub open_of_full : (size k : ℕ) (old : DiskState) → k < cell_count size old → cell (seen_cells size old) k ≢ None → true ≡ eqb (get_or old.now.seen (size * k) 0) 165
open_of_full size k old inside full = by_test (eqb (get_or old.now.seen (size * k) 0) 165) refl
  where
    by_test : (is_open : Bool) → eqb (get_or old.now.seen (size * k) 0) 165 ≡ is_open → true ≡ is_open
    by_test true is = refl
    by_test false is = absurd (full (cell_empty size k old inside is))

-- a cell whose gate reads open does not read empty
pub not_empty : (size k : ℕ) (old : DiskState) → k < cell_count size old → get_or old.now.seen (size * k) 0 ≡ 165 → cell (seen_cells size old) k ≡ None → ⊥
not_empty size k old inside gate none =
    let some : cell (seen_cells size old) k ≡ Some (body_at size old.now.seen k) = cell-cells_of size old.now.seen k inside ∙ open_cell size k old.now.seen gate in
    cc (none, some)

pub syncs_from : (old mid new : DiskState) → IsUnchanged old mid → Syncs mid new → Syncs old new
syncs_from old mid new same s = record {
  seen = s.seen ∙ ap (λ (m : Moment). m.seen) same.now;
  pending = s.pending;
  past = s.past ∙ ap (λ (l : List Moment). l ++ mid.now ∷ []) same.past ∙ ap (λ (m : Moment). old.past ++ m ∷ []) same.now;
}

pub only_sync : (r : Result (Unit {0}) DiskFault) (old mid new : DiskState) → IsUnchanged old mid → OnOk r (Syncs mid new) → OnErr r (IsUnchanged mid new) → MatchResult r (λ v. Syncs old new) (λ e. IsUnchanged old new)
only_sync (Ok v) old mid new same ok err = syncs_from old mid new same ok
only_sync (Err e) old mid new same ok err = unchanged_from old mid new same err

-- the cells that a call which changed nothing left read as before
pub reads_same : (size k : ℕ) (old mid : DiskState) → IsUnchanged old mid → cell (seen_cells size old) k ≡ None → cell (seen_cells size mid) k ≡ None
reads_same size k old mid same none = ap (λ (m : Moment). cell (cells_of size m.seen) k) same.now ∙ none
