-- What moving the base leaves: the old base and list, or the new base and the cut list.
use Rattle.std.proofs.Common.{◌≡◌, ◌≢◌, ◌⊎◌, inl, inr, ⊎_elim, ℕ, ◌+◌, ◌-◌, ◌<◌, ◌≤◌, Bool, List, length, drop, eqb, if◌then◌else◌, Option, Some, None, sym, ◌∙◌, ap, subst, arith}
use Rattle.std.specs.Option.{option_and_then}
use Rattle.std.proofs.lemmas.Bool.{cases_lt, ne_eqb, eqb-true, cases_Bool}
use Rattle.std.proofs.lemmas.List.{length-drop}
use Rattle.disk_model.specs.declared.cells.TheConstants.{BODY}
use Rattle.disk_model.specs.DiskState.{DiskState, size_of}
use Rattle.disk_model.specs.Cells.{Cell, cell, seen_cells, IsNoneOf, Leaves, OldOrEmpty, OldOrEmptyAt, OldEmptyOrNewAt, Erased, Replaced}
use Rattle.disk_model.specs.Moments.{leaves_then, leaves_weaker, old_or_empty_seen}
use Rattle.record_codec.specs.Base.{base_in}
use Rattle.record_codec.specs.Fired.{FiredFields}
use Rattle.gated_journal.specs.declared.ring.Ring.{Ring}
use Rattle.gated_journal.specs.Live.{held_in, if_numbered, record_in, place, live}
use Rattle.gated_journal.specs.Bases.{base_held, other_cell, IsBased}
use Rattle.gated_journal.specs.Rings.{IsRing, IsWhole, IsReadFor}
use Rattle.gated_journal.specs.Stops.{IsKept, IsUnmoved, IsMoved, IsMovedOrNot, HasMoved, moved}
use Rattle.gated_journal.proofs.Fronts.{front, front_same, front_drops, front_some}
use Rattle.gated_journal.proofs.Places.{places, places_length, places_at, places_differ, place_round, none_of_places}
use Rattle.gated_journal.proofs.BaseCells.{held_at, based_still, based_moved}
use Rattle.gated_journal.proofs.CleanedCells.{same_live, next_is_none}

-- what a cell with record n holds
held_there : (n : ℕ) (o : Option FiredFields) (r : FiredFields) → option_and_then (if_numbered n) o ≡ Some r → (o ≡ Some r) × (r.number ≡ n)
held_there n None r is = absurd (let is = is in cc)
held_there n (Some x) r is = elim (cases_Bool (eqb x.number n)) [
  | inl it_is ↦
      let same : Some x ≡ Some r = sym (ap (λ (b : Bool). if b then Some x else None) it_is) ∙ is in
      let x_is : x ≡ r = let same = same in cc in
      (same, sym (ap (λ (f : FiredFields). f.number) x_is) ∙ eqb-true x.number n it_is)
  | inr it_is_not ↦ absurd (let none : None ≡ Some r = sym (ap (λ (b : Bool). if b then Some x else None) it_is_not) ∙ is in let none = none in cc)
]

-- a cell with a record of another number does not hold record n
held_another : (n : ℕ) (o : Option FiredFields) (r : FiredFields) → o ≡ Some r → r.number ≢ n → option_and_then (if_numbered n) o ≡ None
held_another n o r is ne = ap (option_and_then (if_numbered n)) is ∙ ap (λ (b : Bool). if b then Some r else None) (ne_eqb r.number n ne)

-- The base of the journal j is moved, whose cells were these.
module _ (j : Ring) (ring : IsRing j) (base : ℕ) (above : j.base < base) (within : base ≤ j.last + 1) (before : List Cell) (based : IsBased j before) (whole : IsWhole j before) where
  place_apart : (n : ℕ) → place j n ≢ other_cell j
  place_apart n = λ same. let from = ring.cell_from in omega (arith, same)

  base_apart : j.base_cell ≢ other_cell j
  base_apart = λ same. let from = ring.cell_from in let to = ring.cell_to in omega (arith, same)

  pub is_unmoved : (cells : List Cell) → length cells ≡ length before → (cell cells (other_cell j) ≡ cell before (other_cell j)) ⊎ (cell cells (other_cell j) ≡ None)
      → ((k : ℕ) → k ≢ other_cell j → cell cells k ≡ cell before k) → IsUnmoved j before cells
  is_unmoved cells size other others = record {
    size = size;
    based = based_still j before cells ring based (others j.base_cell base_apart) other;
    reads = same_live j before cells whole (λ n from to. others (place j n) (place_apart n))
        (λ next. ap (record_in (j.last + 1)) (others (place j (j.last + 1)) (place_apart (j.last + 1))) ∙ next_is_none j before whole next);
    other = other;
    others = others;
  }

  module _ (cells : List Cell) (each : (k : ℕ) → k ≢ other_cell j → (cell cells k ≡ cell before k) ⊎ (cell cells k ≡ None)) (others : (k : ℕ) → k ≢ other_cell j → IsKept base j k → cell cells k ≡ cell before k) where
    -- the cell after the last record, where the ring was full
    behind : j.last + 1 ≡ j.base + j.ring → (cell cells (place j (j.last + 1)) ≡ None) ⊎ ((r : FiredFields) × (held_in (cell cells (place j (j.last + 1))) ≡ Some r) × (r.number < base))
    behind round = ⊎_elim
        (λ same.
        let first : place j (j.last + 1) ≡ place j j.base = ap (place j) round ∙ place_round j j.base in
        let some = front_some (λ n. record_in n (cell before (place j n))) j.base j.ring 0 j.base (omega (arith, whole, within, above)) (omega arith) in
        let there = held_there j.base (held_in (cell before (place j j.base))) some.0 some.1 in
        inr (some.0, ap held_in (same ∙ ap (cell before) first) ∙ there.0, omega (arith, there.1, above)))
        (λ empty. inl empty)
        (each (place j (j.last + 1)) (place_apart (j.last + 1)))

    behind_none : record_in (j.last + 1) (cell cells (place j (j.last + 1))) ≡ None
    behind_none = elim (cases_lt (j.last + 1) (j.base + j.ring)) [
      | inl free ↦ ⊎_elim
          (λ same. ap (record_in (j.last + 1)) same ∙ next_is_none j before whole (record { from = omega arith; to = free }))
          (λ empty. ap (record_in (j.last + 1)) empty)
          (each (place j (j.last + 1)) (place_apart (j.last + 1)))
      | inr full ↦ ⊎_elim
          (λ empty. ap (record_in (j.last + 1)) empty)
          (λ dropped. held_another (j.last + 1) (held_in (cell cells (place j (j.last + 1)))) dropped.0 dropped.1 (λ same. omega (arith, same, dropped.2, within)))
          (behind (let room = ring.room in omega (arith, full)))
    ]

    kept : (n : ℕ) → base ≤ n → n ≤ j.last → IsKept base j (place j n)
    kept n from to m m_from m_to = λ same. let room = ring.room in places_differ j m n (omega (arith, from, m_to)) (omega (arith, to, m_from, room)) same

    reads : live (moved base j) cells ≡ drop (base - j.base) (live j before)
    reads =
        let k : ℕ = base - j.base in
        let room = ring.room in
        let h : ℕ → Option FiredFields = λ n. record_in n (cell before (place j n)) in
        let from : j.base + k ≡ base = omega (arith, above) in
        let short : k ≤ length (live j before) = omega (arith, whole, within, from) in
        let fits : k ≤ j.ring = omega (arith, within, room, from) in
        let m : ℕ = j.ring - k in
        let rest : j.ring ≡ k + m = omega (arith, fits) in
        let cut : front h base m ≡ drop k (live j before) = front_drops h j.base j.ring k base m short from rest in
        let c : ℕ = j.last + 1 - base in
        let long : length (front h base m) ≡ c = ap (λ (l : List FiredFields). length l) cut ∙ omega (arith, length-drop k (live j before), whole, from, within) in
        front_same (λ n. record_in n (cell cells (place j n))) h base m j.ring c (j.last + 1) long (omega (arith, within, room, above)) (omega (arith, within))
        (λ n n_from n_to. ap (record_in n) (others (place j n) (place_apart n) (kept n n_from (omega (arith, n_to)))))
        (λ next. behind_none)
        ∙ cut

    pub is_moved : length cells ≡ length before → base_held (cell cells (other_cell j)) ≡ Some base → IsMoved base j before cells
    is_moved size held =
        let to = ring.cell_to in
        let old : base_held (cell cells j.base_cell) ≡ Some j.base = ap base_held (others j.base_cell base_apart (λ n n_from n_to same. omega (arith, same, to))) ∙ held_at j before based in
        record {
          size = size;
          based = based_moved j base cells ring above old held;
          reads = reads;
          behind = behind;
          each = each;
          others = others;
        }

-- ---- the calls

-- The base of the journal j is moved on a device that is ready.
module _ (j : Ring) (ring : IsRing j) (base : ℕ) (above : j.base < base) (within : base ≤ j.last + 1) (old : DiskState) (read : IsReadFor j (seen_cells (BODY + 1) old)) where
  -- writing the base into the other cell
  module _ (body : List ℕ) (holds : base_in body ≡ Some base) where
    set_left : (cells : List Cell) → OldEmptyOrNewAt (other_cell j) body (seen_cells (BODY + 1) old) cells → IsMovedOrNot base j (seen_cells (BODY + 1) old) cells
    set_left cells left =
        let still : (cell cells (other_cell j) ≡ cell (seen_cells (BODY + 1) old) (other_cell j)) ⊎ (cell cells (other_cell j) ≡ None) → IsMovedOrNot base j (seen_cells (BODY + 1) old) cells = λ other. inl (is_unmoved j ring base above within (seen_cells (BODY + 1) old) read.based read.whole cells left.count other left.others) in
        ⊎_elim
        (λ same. still (inl same))
        (λ changed. ⊎_elim
        (λ empty. still (inr empty))
        (λ full. inr (is_moved j ring base above within (seen_cells (BODY + 1) old) read.based read.whole cells (λ k ne. inl (left.others k ne)) (λ k ne kept. left.others k ne) left.count (ap base_held full ∙ holds)))
        changed)
        left.here

    pub set_leaves : (mid : DiskState) → Leaves (BODY + 1) (OldEmptyOrNewAt (other_cell j) body (seen_cells (BODY + 1) old)) old mid → Leaves (BODY + 1) (IsMovedOrNot base j (seen_cells (BODY + 1) old)) old mid
    set_leaves mid run = leaves_weaker (BODY + 1) (OldEmptyOrNewAt (other_cell j) body (seen_cells (BODY + 1) old)) (IsMovedOrNot base j (seen_cells (BODY + 1) old)) old mid set_left run

    -- and then emptying the cells of the dropped records
    module _ (mid : DiskState) (set : Replaced (BODY + 1) (other_cell j) body old mid) (count : ℕ) (row : j.base + count ≡ base) where
      row_apart : IsNoneOf (places j j.base count) (other_cell j)
      row_apart = none_of_places j j.base count (other_cell j) (λ n from to. place_apart j ring base above within (seen_cells (BODY + 1) old) read.based read.whole n)

      drop_left : (cells : List Cell) → OldOrEmptyAt (places j j.base count) (seen_cells (BODY + 1) mid) cells → IsMoved base j (seen_cells (BODY + 1) old) cells
      drop_left cells left = is_moved j ring base above within (seen_cells (BODY + 1) old) read.based read.whole cells
          (λ k ne. ⊎_elim (λ as_before. inl (as_before ∙ set.others k ne)) (λ empty. inr empty) (left.each k))
          (λ k ne kept. left.others k (none_of_places j j.base count k (λ n from to. kept n from (omega (arith, to, row)))) ∙ set.others k ne)
          (left.count ∙ set.count)
          (ap base_held (left.others (other_cell j) row_apart) ∙ ap base_held set.here ∙ holds)

      pub drop_leaves : (new : DiskState) → Leaves (BODY + 1) (IsMovedOrNot base j (seen_cells (BODY + 1) old)) old mid → Leaves (BODY + 1) (OldOrEmpty (BODY + 1) mid (places j j.base count)) mid new → Leaves (BODY + 1) (IsMovedOrNot base j (seen_cells (BODY + 1) old)) old new
      drop_leaves new first second = leaves_then (BODY + 1) (IsMovedOrNot base j (seen_cells (BODY + 1) old)) old mid new first
          (leaves_weaker (BODY + 1) (OldOrEmpty (BODY + 1) mid (places j j.base count)) (IsMovedOrNot base j (seen_cells (BODY + 1) old)) mid new
          (λ cells p. inr (drop_left cells (old_or_empty_seen (BODY + 1) mid (places j j.base count) cells set.settled p))) second)

      pub has_moved : (new : DiskState) → size_of new ≡ size_of mid → Erased (BODY + 1) (places j j.base count) mid new → OldOrEmptyAt (places j j.base count) (seen_cells (BODY + 1) mid) (seen_cells (BODY + 1) new) → HasMoved base j old new
      has_moved new as_before erased left =
          let is : IsMoved base j (seen_cells (BODY + 1) old) (seen_cells (BODY + 1) new) = drop_left (seen_cells (BODY + 1) new) left in
          let whole = read.whole in
          let still : IsWhole (moved base j) (seen_cells (BODY + 1) new) = omega (arith, ap (λ (l : List FiredFields). length l) is.reads, length-drop (base - j.base) (live j (seen_cells (BODY + 1) old)), whole, above, within) in
          record {
            settled = erased.settled;
            is = is;
            whole = still;
            ready = λ ready. record {
              settled = erased.settled;
              whole = still;
              ahead = λ n later. elim (cases_lt n (j.base + j.ring)) [
                | inl free ↦ ⊎_elim
                    (λ same. same ∙ ready.ahead n (record { from = later.from; to = free }))
                    (λ empty. empty)
                    (is.each (place j n) (place_apart j ring base above within (seen_cells (BODY + 1) old) read.based read.whole n))
                | inr round ↦
                    let m : ℕ = n - j.ring in
                    let some = ring.some in
                    let n_is : n ≡ m + j.ring = omega (arith, round) in
                    let same : place j n ≡ place j m = ap (place j) n_is ∙ place_round j m in
                    let i : ℕ = m - j.base in
                    let at : j.base + i ≡ m = omega (arith, n_is, round) in
                    let to = later.to in
                    let inside : i < length (places j j.base count) = omega (arith, at, n_is, to, row, places_length j j.base count) in
                    subst (λ (k : ℕ). cell (seen_cells (BODY + 1) new) k ≡ None) (places_at j j.base count i m inside at ∙ sym same) (erased.each i inside)
              ];
            };
          }
