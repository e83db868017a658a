-- Batches of states: the cells that they go in, what storing them leaves, and that it is one store after another.
use Rattle.std.proofs.Common.{◌≡◌, ◌≢◌, inl, inr, ⊎_elim, ℕ, zero, suc, ◌+◌, ◌-◌, ◌<◌, ◌≤◌, Bool, true, false, cond, List, [], ◌∷◌, ◌++◌, length, get_or, None, Some, is_some, refl, sym, ◌∙◌, ap, subst, arith}
use Rattle.std.specs.List.{All, filter, slice_get}
use Rattle.std.proofs.lemmas.Bool.{cases_lt, cases_eq}
use Rattle.std.proofs.lemmas.List.{append-nil, ext_get_or, get_or-map, get_or-set_same, get_or-set_other, length-map, map-append}
use Rattle.std.proofs.lemmas.List.Elements.{All-append, All-filter, filter-append, filter_passes}
use Rattle.std.proofs.lemmas.List.Kept.{AllPairs-filter}
use Rattle.std.proofs.lemmas.List.Sums.{count_by-le-length, length-filter}
use Rattle.std.proofs.lemmas.List.Quantifiers.{all_pairs_push}
use Rattle.std.proofs.lemmas.Option.{get_or_from_slice_get, slice_get-get_or, slice_get_within}
use Rattle.std.proofs.Math.ListN.{get_or-eq_default, length-set, set}
use Rattle.disk_model.specs.declared.cells.TheConstants.{BODY}
use Rattle.disk_model.specs.DiskState.{DiskState, size_of}
use Rattle.disk_model.specs.Cells.{Cell, cell, cell_count, seen_cells, Filled, IsOneOf, Leaves, OldEmptyOrNewRun}
use Rattle.disk_model.specs.Moments.{leaves_weaker, same_count}
use Rattle.disk_model.specs.Steps.{AllDiffer, AreInside, AreTheFull}
use Rattle.record_codec.specs.declared.layout.TheConstants.{MOST_ATOMS}
use Rattle.snapshot_writer.specs.Batches.{SlottedFields, AreStored, HaveStored, IsBatch, IsBelow, IsNoCellOf, IsSlotted, bodies_of, cell_of, cells_of, full_cells_of, with_first}
use Rattle.snapshot_writer.specs.Parcels.{IsBodyOf, slot_body}
use Rattle.snapshot_writer.specs.Storing.{HasStored, HoldsSaved}
use Rattle.snapshot_writer.proofs.StoredCells.{holds_saved}

-- a state that is read where there is none
nobody : SlottedFields
nobody = record { slot = 0; full = false; saved = record { atom = 0; count = 0; at = 0; marking = 0; values = [] } }

-- a cell that is not empty is full
is_full_cell : (c : Cell) → c ≢ None → is_some c ≡ true
is_full_cell None some = absurd (some refl)
is_full_cell (Some body) some = refl

is_no_empty_cell : (c : Cell) → is_some c ≡ true → c ≢ None
is_no_empty_cell None full = λ same. cc
is_no_empty_cell (Some body) full = λ same. cc

-- ---- the states of a batch

-- a state more
pub batch_more : (batch : List SlottedFields) (s : SlottedFields) → IsBatch batch → IsSlotted s → ((i : ℕ) (t : SlottedFields) → slice_get batch i ≡ Some t → IsBelow t s) → IsBatch (batch ++ s ∷ [])
batch_more batch s is slotted rises = record {
  rise = all_pairs_push IsBelow batch s is.rise (λ k d lt. rises k (get_or batch k d) (slice_get-get_or batch k d lt));
  slotted = All-append IsSlotted batch (s ∷ []) is.slotted one;
}
  where
    one : (k : ℕ) (d : SlottedFields) → k < length (s ∷ []) → IsSlotted (get_or (s ∷ []) k d)
    one zero d lt = slotted
    one (suc k) d lt = absurd (omega arith)

-- the number of an atom is no smaller than that of the states before its own
module _ (batch : List SlottedFields) (is : IsBatch batch) where
  counted : (i : ℕ) → i < length batch → i ≤ (get_or batch i nobody).saved.atom
  counted zero lt = omega arith
  counted (suc i) lt = omega (arith, counted i (omega arith), is.rise i (suc i) nobody (omega arith) lt)

  -- so there is room for one more
  pub has_room : (atom : ℕ) → atom < MOST_ATOMS → ((i : ℕ) (t : SlottedFields) → slice_get batch i ≡ Some t → t.saved.atom < atom) → length batch < MOST_ATOMS
  has_room atom within rises = elim (cases_lt 0 (length batch)) [
    | inl some ↦
        let last : length batch - 1 < length batch = omega arith in
        omega (arith, counted (length batch - 1) last, rises (length batch - 1) (get_or batch (length batch - 1) nobody) (slice_get-get_or batch (length batch - 1) nobody last), within)
    | inr none ↦ omega (arith, none, within)
  ]

-- the cell and the body of a state of the batch
cell_at : (batch : List SlottedFields) (i : ℕ) (d : SlottedFields) → i < length batch → get_or (cells_of batch) i 0 ≡ cell_of (get_or batch i d)
cell_at batch i d lt = get_or-map cell_of batch i d 0 lt

body_at : (batch : List SlottedFields) (i : ℕ) (d : SlottedFields) → i < length batch → get_or (bodies_of batch) i [] ≡ slot_body (get_or batch i d).saved
body_at batch i d lt = get_or-map (λ (s : SlottedFields). slot_body s.saved) batch i d [] lt

many : (batch : List SlottedFields) (i : ℕ) → i < length (cells_of batch) → i < length batch
many batch i lt = omega (arith, length-map batch cell_of)

-- the lists of a batch with a state more
module _ (batch : List SlottedFields) (s : SlottedFields) where
  pub cells_more : cells_of (batch ++ s ∷ []) ≡ cells_of batch ++ cell_of s ∷ []
  cells_more = map-append cell_of batch (s ∷ [])

  pub bodies_more : bodies_of (batch ++ s ∷ []) ≡ bodies_of batch ++ slot_body s.saved ∷ []
  bodies_more = map-append (λ (t : SlottedFields). slot_body t.saved) batch (s ∷ [])

  full_added : full_cells_of (batch ++ s ∷ []) ≡ full_cells_of batch ++ cells_of (cond s.full (s ∷ []) [])
  full_added = ap cells_of (filter-append (λ (t : SlottedFields). t.full) batch (s ∷ [])) ∙ map-append cell_of (filter (λ (t : SlottedFields). t.full) batch) (cond s.full (s ∷ []) [])

  pub full_more : s.full ≡ true → full_cells_of (batch ++ s ∷ []) ≡ full_cells_of batch ++ cell_of s ∷ []
  full_more full = full_added ∙ ap (λ (b : Bool). full_cells_of batch ++ cells_of (cond b (s ∷ []) [])) full

  pub full_same : s.full ≡ false → full_cells_of (batch ++ s ∷ []) ≡ full_cells_of batch
  full_same empty = full_added ∙ ap (λ (b : Bool). full_cells_of batch ++ cells_of (cond b (s ∷ []) [])) empty ∙ append-nil (full_cells_of batch)

-- no more cells are full than there are
pub full_few : (batch : List SlottedFields) → length (full_cells_of batch) ≤ length batch
full_few batch = omega (arith, length-map (filter (λ (t : SlottedFields). t.full) batch) cell_of, length-filter (λ (t : SlottedFields). t.full) batch, count_by-le-length (λ (t : SlottedFields). t.full) batch)

-- the cells of a batch differ
cells_rise : (batch : List SlottedFields) → IsBatch batch → (i j : ℕ) → i < j → j < length batch → cell_of (get_or batch i nobody) < cell_of (get_or batch j nobody)
cells_rise batch is i j lt within = omega (arith, is.rise i j nobody lt within, (is.slotted i nobody (omega arith)).slot, (is.slotted j nobody within).slot)

pub cells_differ : (batch : List SlottedFields) → IsBatch batch → AllDiffer (cells_of batch)
cells_differ batch is i j i_lt j_lt same =
    let i_in : i < length batch = many batch i i_lt in
    let j_in : j < length batch = many batch j j_lt in
    let equal : cell_of (get_or batch i nobody) ≡ cell_of (get_or batch j nobody) = sym (cell_at batch i nobody i_in) ∙ same ∙ cell_at batch j nobody j_in in
    elim (cases_lt i j) [
      | inl before ↦ absurd (omega (arith, equal, cells_rise batch is i j before j_in))
      | inr from ↦ elim (cases_lt j i) [
        | inl after ↦ absurd (omega (arith, equal, cells_rise batch is j i after i_in))
        | inr to ↦ omega arith
      ]
    ]

-- they are inside the device, if each is
pub cells_inside : (batch : List SlottedFields) (s : DiskState) → ((i : ℕ) (t : SlottedFields) → slice_get batch i ≡ Some t → cell_of t < cell_count (BODY + 1) s) → AreInside (BODY + 1) s (cells_of batch)
cells_inside batch s inside i lt =
    let within : i < length batch = many batch i lt in
    subst (λ (k : ℕ). k < cell_count (BODY + 1) s) (sym (cell_at batch i nobody within)) (inside i (get_or batch i nobody) (slice_get-get_or batch i nobody within))

-- a state that goes in a full slot is among those that do
is_among_full : (batch : List SlottedFields) (i : ℕ) → i < length batch → (get_or batch i nobody).full ≡ true → IsOneOf (full_cells_of batch) (cell_of (get_or batch i nobody))
is_among_full [] i lt full = absurd (omega arith)
is_among_full (s ∷ rest) zero lt full =
    subst (λ (b : Bool). IsOneOf (cells_of (cond b (s ∷ filter (λ (t : SlottedFields). t.full) rest) (filter (λ (t : SlottedFields). t.full) rest))) (cell_of s)) (sym full) (0, omega arith, refl)
is_among_full (s ∷ rest) (suc i) lt full =
    let one : IsOneOf (full_cells_of rest) (cell_of (get_or rest i nobody)) = is_among_full rest i (omega arith) full in
    elim s.full as (λ b. IsOneOf (cells_of (cond b (s ∷ filter (λ (t : SlottedFields). t.full) rest) (filter (λ (t : SlottedFields). t.full) rest))) (cell_of (get_or rest i nobody))) [
      | true ↦ (suc one.0, omega (arith, one.1), one.2)
      | false ↦ one
    ]

-- the cells that are full are those that the batch says, if it says so of each
module _ (batch : List SlottedFields) (is : IsBatch batch) (s : DiskState) (told : s.keeps ≡ true → (i : ℕ) (t : SlottedFields) → slice_get batch i ≡ Some t → is_some (cell (seen_cells (BODY + 1) s) (cell_of t)) ≡ t.full) where
  pub full_differ : AllDiffer (full_cells_of batch)
  full_differ = cells_differ (filter (λ (t : SlottedFields). t.full) batch) (record {
    rise = AllPairs-filter IsBelow (λ (t : SlottedFields). t.full) batch is.rise;
    slotted = All-filter (λ (t : SlottedFields). t.full) IsSlotted batch is.slotted;
  })

  full_among : (i : ℕ) → i < length (full_cells_of batch) → IsOneOf (cells_of batch) (get_or (full_cells_of batch) i 0)
  full_among i lt =
      let P : SlottedFields → Type 0 = λ t. IsOneOf (cells_of batch) (cell_of t) in
      let each : All P batch = λ k d within. (k, omega (arith, within, length-map batch cell_of), cell_at batch k d within) in
      let within : i < length (filter (λ (t : SlottedFields). t.full) batch) = many (filter (λ (t : SlottedFields). t.full) batch) i lt in
      subst (IsOneOf (cells_of batch)) (sym (cell_at (filter (λ (t : SlottedFields). t.full) batch) i nobody within)) (All-filter (λ (t : SlottedFields). t.full) P batch each i nobody within)

  full_read : s.keeps ≡ true → (i : ℕ) → i < length (full_cells_of batch) → cell (seen_cells (BODY + 1) s) (get_or (full_cells_of batch) i 0) ≢ None
  full_read keeps i lt =
      let P : SlottedFields → Type 0 = λ t. is_some (cell (seen_cells (BODY + 1) s) (cell_of t)) ≡ t.full in
      let each : All P batch = λ k d within. told keeps k (get_or batch k d) (slice_get-get_or batch k d within) in
      let within : i < length (filter (λ (t : SlottedFields). t.full) batch) = many (filter (λ (t : SlottedFields). t.full) batch) i lt in
      let here : SlottedFields = get_or (filter (λ (t : SlottedFields). t.full) batch) i nobody in
      let full : is_some (cell (seen_cells (BODY + 1) s) (cell_of here)) ≡ true = All-filter (λ (t : SlottedFields). t.full) P batch each i nobody within ∙ filter_passes (λ (t : SlottedFields). t.full) batch i nobody within in
      subst (λ (k : ℕ). cell (seen_cells (BODY + 1) s) k ≢ None) (sym (cell_at (filter (λ (t : SlottedFields). t.full) batch) i nobody within)) (is_no_empty_cell (cell (seen_cells (BODY + 1) s) (cell_of here)) full)

  no_other_full : s.keeps ≡ true → (i : ℕ) → i < length (cells_of batch) → cell (seen_cells (BODY + 1) s) (get_or (cells_of batch) i 0) ≢ None → IsOneOf (full_cells_of batch) (get_or (cells_of batch) i 0)
  no_other_full keeps i lt full =
      let within : i < length batch = many batch i lt in
      let here : SlottedFields = get_or batch i nobody in
      let there : cell (seen_cells (BODY + 1) s) (cell_of here) ≢ None = subst (λ (k : ℕ). cell (seen_cells (BODY + 1) s) k ≢ None) (cell_at batch i nobody within) full in
      subst (IsOneOf (full_cells_of batch)) (sym (cell_at batch i nobody within))
      (is_among_full batch i within (sym (told keeps i here (slice_get-get_or batch i nobody within)) ∙ is_full_cell (cell (seen_cells (BODY + 1) s) (cell_of here)) there))

  pub are_the_full : AreTheFull (BODY + 1) s (cells_of batch) (full_cells_of batch)
  are_the_full = record { differ = full_differ; among = full_among; read_full = full_read; no_other = no_other_full }

-- ---- what storing them leaves

module _ (batch : List SlottedFields) (is : IsBatch batch) where
  none_of_cells : (k : ℕ) → IsNoCellOf batch k → (i : ℕ) → i < length (cells_of batch) → get_or (cells_of batch) i 0 ≢ k
  none_of_cells k none i lt same =
      let within : i < length batch = many batch i lt in
      none i (get_or batch i nobody) (slice_get-get_or batch i nobody within) (sym same ∙ cell_at batch i nobody within)

  module _ (i : ℕ) (s : SlottedFields) (at : slice_get batch i ≡ Some s) where
    cell_is : get_or (cells_of batch) i 0 ≡ cell_of s
    cell_is = cell_at batch i s (slice_get_within batch i s at) ∙ ap cell_of (get_or_from_slice_get batch i s s at)

    body_is : get_or (bodies_of batch) i [] ≡ slot_body s.saved
    body_is = body_at batch i s (slice_get_within batch i s at) ∙ ap (λ (t : SlottedFields). slot_body t.saved) (get_or_from_slice_get batch i s s at)

    listed : i < length (cells_of batch)
    listed = omega (arith, slice_get_within batch i s at, length-map batch cell_of)

    holds : (cells : List Cell) → cell cells (get_or (cells_of batch) i 0) ≡ Some (get_or (bodies_of batch) i []) → HoldsSaved s.saved (cell cells (cell_of s))
    holds cells full =
        let spelled : IsBodyOf (slot_body s.saved) s.saved = subst (λ (t : SlottedFields). IsBodyOf (slot_body t.saved) t.saved) (get_or_from_slice_get batch i s s at) (is.slotted i s (slice_get_within batch i s at)).body in
        holds_saved s.saved (slot_body s.saved) (cell cells (cell_of s)) spelled (ap (cell cells) (sym cell_is) ∙ full ∙ ap (λ (body : List ℕ). Some body) body_is)

  have_stored : (before cells : List Cell) → OldEmptyOrNewRun (cells_of batch) (bodies_of batch) before cells → HaveStored batch before cells
  have_stored before cells left = record {
    count = left.count;
    each = λ i s at. ⊎_elim
        (λ same. inl (ap (cell cells) (sym (cell_is i s at)) ∙ same ∙ ap (cell before) (cell_is i s at)))
        (λ rest. inr (⊎_elim (λ empty. inl (ap (cell cells) (sym (cell_is i s at)) ∙ empty)) (λ full. inr (holds i s at cells full)) rest))
        (left.each i (listed i s at));
    others = λ k none. left.others k (none_of_cells k none);
  }

  module _ (old new : DiskState) where
    pub batch_leaves : Leaves (BODY + 1) (OldEmptyOrNewRun (cells_of batch) (bodies_of batch) (seen_cells (BODY + 1) old)) old new → Leaves (BODY + 1) (HaveStored batch (seen_cells (BODY + 1) old)) old new
    batch_leaves run = leaves_weaker (BODY + 1) (OldEmptyOrNewRun (cells_of batch) (bodies_of batch) (seen_cells (BODY + 1) old)) (HaveStored batch (seen_cells (BODY + 1) old)) old new (have_stored (seen_cells (BODY + 1) old)) run

    pub are_stored : size_of new ≡ size_of old → Filled (BODY + 1) (cells_of batch) (bodies_of batch) old new → AreStored batch old new
    are_stored same filled = record {
      settled = filled.settled;
      stored = record {
        count = same_count (BODY + 1) old new same;
        each = λ i s at. inr (inr (holds i s at (seen_cells (BODY + 1) new) (filled.each i (listed i s at))));
        others = λ k none. filled.others k (none_of_cells k none);
      };
      held = λ i s at. holds i s at (seen_cells (BODY + 1) new) (filled.each i (listed i s at));
    }

-- ---- one store after another

module _ (s : SlottedFields) (rest : List SlottedFields) (before cells : List Cell) (left : HaveStored (s ∷ rest) before cells) where
  -- the first state's cell is what it is in the end
  pub first_is_last : cell (with_first s before cells) (cell_of s) ≡ cell cells (cell_of s)
  first_is_last =
      let many : length (set before (cell_of s) (cell cells (cell_of s))) ≡ length before = length-set before (cell_of s) (cell cells (cell_of s)) in
      elim (cases_lt (cell_of s) (length before)) [
        | inl within ↦ get_or-set_same before (cell_of s) (cell cells (cell_of s)) None within
        | inr past ↦
            get_or-eq_default (set before (cell_of s) (cell cells (cell_of s))) None {n = cell_of s} (omega (arith, many, past))
            ∙ sym (get_or-eq_default cells None {n = cell_of s} (omega (arith, left.count, past)))
      ]

  -- and every other as before
  other_is_before : (k : ℕ) → k ≢ cell_of s → cell (with_first s before cells) k ≡ cell before k
  other_is_before k ne = get_or-set_other before (cell_of s) k (cell cells (cell_of s)) None ne

  -- so the first state is stored
  pub first_stored : HasStored s.slot s.saved before (with_first s before cells)
  first_stored = record {
    count = length-set before (cell_of s) (cell cells (cell_of s));
    here = ⊎_elim
        (λ same. inl (first_is_last ∙ same))
        (λ rest. inr (⊎_elim (λ empty. inl (first_is_last ∙ empty)) (λ held. inr (subst (HoldsSaved s.saved) (sym first_is_last) held)) rest))
        (left.each 0 s refl);
    others = other_is_before;
  }

  -- and then the others
  pub rest_stored : HaveStored rest (with_first s before cells) cells
  rest_stored = record {
    count = left.count ∙ sym (length-set before (cell_of s) (cell cells (cell_of s)));
    each = λ i t at. elim (cases_eq (cell_of t) (cell_of s)) [
      | inl is ↦ inl (last (cell_of t) is)
      | inr ne ↦ ⊎_elim (λ same. inl (same ∙ sym (other_is_before (cell_of t) ne))) (λ rest. inr rest) (left.each (suc i) t at)
    ];
    others = λ k none. elim (cases_eq k (cell_of s)) [
      | inl is ↦ last k is
      | inr ne ↦ left.others k (none_of_all k ne none) ∙ sym (other_is_before k ne)
    ];
  }
    where
      last : (k : ℕ) → k ≡ cell_of s → cell cells k ≡ cell (with_first s before cells) k
      last k is = subst (λ (n : ℕ). cell cells n ≡ cell (with_first s before cells) n) (sym is) (sym first_is_last)

      none_of_all : (k : ℕ) → k ≢ cell_of s → IsNoCellOf rest k → IsNoCellOf (s ∷ rest) k
      none_of_all k ne none zero t at = λ same. ne (same ∙ sym (ap cell_of (get_or_from_slice_get (s ∷ rest) 0 t t at)))
      none_of_all k ne none (suc i) t at = none i t at

-- a batch of no state changes nothing
pub nothing_stored : (before cells : List Cell) → HaveStored [] before cells → cells ≡ before
nothing_stored before cells left = ext_get_or None cells before left.count (λ j lt. left.others j (λ i s at. absurd (none i s at)))
  where
    none : (i : ℕ) (s : SlottedFields) → slice_get [] i ≡ Some s → ⊥
    none i s at = cc
