-- What the calls of writing a state afresh leave, by cells.
use Rattle.std.proofs.Common.{◌≡◌, ◌≢◌, ◌⊎◌, inl, inr, ⊎_elim, ℕ, zero, suc, ◌+◌, ◌<◌, ◌≤◌, List, [], ◌∷◌, length, get_or, slice_get, false, true, Some, None, is_some, refl, sym, ◌∙◌, ap, subst, arith}
use Rattle.std.specs.List.{range_with_len}
use Rattle.std.proofs.lemmas.Bool.{cases_lt}
use Rattle.std.proofs.lemmas.List.{ext_get_or, get_or_past}
use Rattle.std.proofs.lemmas.List.FromFn.{get_or-range_with_len, length-range_with_len}
use Rattle.std.proofs.lemmas.Option.{same_Some, slice_get_within}
use Rattle.petri_atom.specs.Local.{Local}
use Rattle.disk_model.specs.declared.cells.TheConstants.{BODY}
use Rattle.disk_model.specs.DiskState.{DiskState, IsSettled, Reads, size_of}
use Rattle.disk_model.specs.Cells.{Cell, cell, cell_count, seen_cells, EmptyOrNew, EmptyOrNewAt, Erased, Filled, IsClosed, IsNoneOf, Leaves, MayBe, OldOrEmpty, OldOrEmptyAt}
use Rattle.disk_model.specs.Moments.{closed_at_rest, empty_or_new_seen, leaves_then, leaves_weaker, old_or_empty_seen, same_count, seen_length, settled_cells}
use Rattle.disk_model.specs.Reading.{may_before, reads_leave}
use Rattle.disk_model.specs.Steps.{AreInside}
use Rattle.disk_model.proofs.Replacing.{none_of_one}
use Rattle.record_codec.specs.Base.{base_bytes}
use Rattle.record_codec.specs.Bytes.{padded}
use Rattle.record_codec.specs.Identity.{IsIdentity, identity_bytes}
use Rattle.record_codec.specs.Ring.{device_cells, identity_cell, record_cell, slot_cell}
use Rattle.record_replay.specs.Records.{count_of}
use Rattle.snapshot_writer.specs.Parcels.{saved_by}
use Rattle.snapshot_writer.specs.Storing.{HasStored, HoldsSaved, IsStored}
use Rattle.plant_model.specs.Plant.{PlantDefinition}
use Rattle.plant_image.specs.Standing.{HasRoom, HoldsState, StandsFor, identity_for}
use Rattle.plant_image.proofs.FormattedImages.{held_stands}
use Rattle.recovery.specs.Formatting.{formatted_size}
use Rattle.recovery.specs.Writing.{HasStoredStates, HasWritten, IsBlank, IsOldOrUnformatted, IsWriting}

-- cells that are the same by their numbers are the same
same_cells : (cells before : List Cell) → length cells ≡ length before → ((j : ℕ) → cell cells j ≡ cell before j) → cells ≡ before
same_cells cells before count each = ext_get_or None cells before count (λ j within. each j)

-- ---- emptying

-- the numbers from 1 on: 0 is none of them, and each is one of a device's with one cell more
none_of_others : (n : ℕ) → IsNoneOf (range_with_len 1 n) 0
none_of_others n i within = λ same. omega (arith, same, get_or-range_with_len 1 n i 0 (omega (arith, within, length-range_with_len 1 n)))

pub others_inside : (s : DiskState) (ks : List ℕ) (n : ℕ) → ks ≡ range_with_len 1 n → n < cell_count (BODY + 1) s → AreInside (BODY + 1) s ks
others_inside s ks n are fit i within =
    let short : i < n = omega (arith, within, ap (λ (l : List ℕ). length l) are, length-range_with_len 1 n) in
    omega (arith, fit, short, ap (λ (l : List ℕ). get_or l i 0) are, get_or-range_with_len 1 n i 0 short)

-- the first cell is emptied
first_left : (old : DiskState) (cells : List Cell) → OldOrEmpty (BODY + 1) old (0 ∷ []) cells → IsOldOrUnformatted old cells
first_left old cells left = ⊎_elim
    (λ same. inl (subst (λ (l : List Cell). MayBe (BODY + 1) old l) (sym (same_cells cells left.before left.count (each same))) left.was))
    (λ empty. inr empty)
    (left.each 0)
  where
    each : cell cells 0 ≡ cell left.before 0 → (j : ℕ) → cell cells j ≡ cell left.before j
    each same zero = same
    each same (suc j) = left.others (suc j) (none_of_one 0 (suc j) (λ is. omega (arith, is)))

pub first_leaves : (old new : DiskState) → Leaves (BODY + 1) (OldOrEmpty (BODY + 1) old (0 ∷ [])) old new → Leaves (BODY + 1) (IsOldOrUnformatted old) old new
first_leaves old new run = leaves_weaker (BODY + 1) (OldOrEmpty (BODY + 1) old (0 ∷ [])) (IsOldOrUnformatted old) old new (first_left old) run

-- and then all others
module _ (old mid new : DiskState) (n : ℕ) (first : Erased (BODY + 1) (0 ∷ []) old mid) where
  others_left : (cells : List Cell) → OldOrEmpty (BODY + 1) mid (range_with_len 1 n) cells → IsOldOrUnformatted old cells
  others_left cells left =
      let at : OldOrEmptyAt (range_with_len 1 n) (seen_cells (BODY + 1) mid) cells = old_or_empty_seen (BODY + 1) mid (range_with_len 1 n) cells first.settled left in
      let within : 0 < length {A = ℕ} (0 ∷ []) = omega arith in
      inr (at.others 0 (none_of_others n) ∙ first.each 0 within)

  pub others_leave : Leaves (BODY + 1) (IsOldOrUnformatted old) old mid → Leaves (BODY + 1) (OldOrEmpty (BODY + 1) mid (range_with_len 1 n)) mid new → Leaves (BODY + 1) (IsOldOrUnformatted old) old new
  others_leave before run = leaves_then (BODY + 1) (IsOldOrUnformatted old) old mid new before
      (leaves_weaker (BODY + 1) (OldOrEmpty (BODY + 1) mid (range_with_len 1 n)) (IsOldOrUnformatted old) mid new others_left run)

  -- then each cell is empty
  pub is_blank : cell_count (BODY + 1) new ≤ n + 1 → Erased (BODY + 1) (range_with_len 1 n) mid new → IsBlank new
  is_blank long erased = record { settled = erased.settled; empty = empty }
    where
      empty : (k : ℕ) → cell (seen_cells (BODY + 1) new) k ≡ None
      empty zero = let within : 0 < length {A = ℕ} (0 ∷ []) = omega arith in erased.others 0 (none_of_others n) ∙ first.each 0 within
      empty (suc k) = elim (cases_lt k n) [
        | inl below ↦
            let within : k < length (range_with_len 1 n) = omega (arith, below, length-range_with_len 1 n) in
            let at : get_or (range_with_len 1 n) k 0 ≡ suc k = omega (arith, get_or-range_with_len 1 n k 0 below) in
            subst (λ (j : ℕ). cell (seen_cells (BODY + 1) new) j ≡ None) at (erased.each k within)
        | inr past ↦ get_or_past (seen_cells (BODY + 1) new) (suc k) None (omega (arith, past, long, seen_length (BODY + 1) new))
      ]

-- ---- storing the states

-- none so far
pub stored_none : (states : List Local) (counts : List ℕ) (number : ℕ) (s : DiskState) → IsSettled s.now → HasStoredStates 0 states counts number s s
stored_none states counts number s settled = record {
  settled = settled;
  stored = λ atom state below at. absurd (omega (arith, below));
  others = λ k none. refl;
}

-- the slot of the next atom still reads empty
pub next_is_empty : (n atom : ℕ) (states : List Local) (counts : List ℕ) (number : ℕ) (old mid : DiskState) → atom ≡ n → HasStoredStates n states counts number old mid → cell (seen_cells (BODY + 1) old) (slot_cell n 0) ≡ None
    → is_some (cell (seen_cells (BODY + 1) mid) (slot_cell atom 0)) ≡ false
next_is_empty n atom states counts number old mid same before empty =
    ap (λ (k : ℕ). is_some (cell (seen_cells (BODY + 1) mid) (slot_cell k 0))) same
    ∙ ap (λ (c : Cell). is_some c) (before.others (slot_cell n 0) (λ other below is. omega (arith, below, is)) ∙ empty)

-- one more
pub stored_more : (n : ℕ) (states : List Local) (counts : List ℕ) (number : ℕ) (state : Local) (old mid new : DiskState) → slice_get states n ≡ Some state → HasStoredStates n states counts number old mid
    → IsStored 0 (saved_by n (count_of counts n) number state) mid new → HasStoredStates (n + 1) states counts number old new
stored_more n states counts number state old mid new at_n before done = record {
  settled = done.settled;
  stored = λ atom its below at. elim (cases_lt atom n) [
    | inl earlier ↦ subst (λ (c : Cell). HoldsSaved (saved_by atom (count_of counts atom) number its) c)
        (sym (done.others (slot_cell atom 0) (λ same. omega (arith, earlier, same)))) (before.stored atom its earlier at)
    | inr past ↦
        let last : n ≡ atom = omega (arith, past, below) in
        let same : state ≡ its = same_Some state its (sym at_n ∙ ap (slice_get states) last ∙ at) in
        subst (λ (k : ℕ). HoldsSaved (saved_by k (count_of counts k) number its) (cell (seen_cells (BODY + 1) new) (slot_cell k 0))) last
        (subst (λ (w : Local). HoldsSaved (saved_by n (count_of counts n) number w) (cell (seen_cells (BODY + 1) new) (slot_cell n 0))) same done.here)
  ];
  others = λ k none.
      done.others k (none n (omega arith)) ∙ before.others k (λ atom below. none atom (omega (arith, below)));
}

-- the first cell is that of before all along
pub slots_leave : (n : ℕ) (states : List Local) (counts : List ℕ) (number : ℕ) (saved : _) (old mid new : DiskState) → HasStoredStates n states counts number old mid
    → Leaves (BODY + 1) (λ left. cell left identity_cell ≡ cell (seen_cells (BODY + 1) old) identity_cell) old mid
    → Leaves (BODY + 1) (HasStored 0 saved (seen_cells (BODY + 1) mid)) mid new
    → Leaves (BODY + 1) (λ left. cell left identity_cell ≡ cell (seen_cells (BODY + 1) old) identity_cell) old new
slots_leave n states counts number saved old mid new before run more =
    let P : List Cell → Type 0 = λ left. cell left identity_cell ≡ cell (seen_cells (BODY + 1) old) identity_cell in
    leaves_then (BODY + 1) P old mid new run
    (leaves_weaker (BODY + 1) (HasStored 0 saved (seen_cells (BODY + 1) mid)) P mid new
    (λ cells left. left.others 0 (λ same. omega (arith, same)) ∙ before.others 0 (λ atom below same. omega (arith, same))) more)

-- ---- the whole

-- the first cell is empty until the identity is set, and the slots are until the states are stored
first_still : (blank based : DiskState) (body : List ℕ) → IsBlank blank → Filled (BODY + 1) (1 ∷ []) (body ∷ []) blank based → cell (seen_cells (BODY + 1) based) 0 ≡ None
first_still blank based body is set = set.others 0 (none_of_one 1 0 (λ same. omega (arith, same))) ∙ is.empty 0

pub slots_still : (blank based : DiskState) (body : List ℕ) → IsBlank blank → Filled (BODY + 1) (1 ∷ []) (body ∷ []) blank based → (atom : ℕ) → cell (seen_cells (BODY + 1) based) (slot_cell atom 0) ≡ None
slots_still blank based body is set atom = set.others (slot_cell atom 0) (none_of_one 1 (slot_cell atom 0) (λ same. omega (arith, same))) ∙ is.empty (slot_cell atom 0)

pub first_closed : (blank based stored : DiskState) (body : List ℕ) (n : ℕ) (states : List Local) (counts : List ℕ) (number : ℕ) → IsBlank blank → Filled (BODY + 1) (1 ∷ []) (body ∷ []) blank based
    → HasStoredStates n states counts number based stored → IsClosed (BODY + 1) stored 0
first_closed blank based stored body n states counts number is set holds = closed_at_rest (BODY + 1) stored 0 holds.settled (holds.others 0 (λ atom below same. omega (arith, same)) ∙ first_still blank based body is set)

module _ (plant : PlantDefinition) (digest : List ℕ) (ring : ℕ) (states : List Local) (counts : List ℕ) (number : ℕ) (old : DiskState) where
  -- until the identity is set
  pub unformatted_leaves : (mid : DiskState) → Leaves (BODY + 1) (IsOldOrUnformatted old) old mid → Leaves (BODY + 1) (IsWriting plant digest states number old) old mid
  unformatted_leaves mid run = leaves_weaker (BODY + 1) (IsOldOrUnformatted old) (IsWriting plant digest states number old) old mid
      (λ cells left. ⊎_elim (λ may. inl may) (λ empty. inr (inl empty)) left) run

  -- the base is set
  module _ (blank based : DiskState) (is : IsBlank blank) (body : List ℕ) where
    pub base_leaves : Leaves (BODY + 1) (IsWriting plant digest states number old) old blank → Leaves (BODY + 1) (EmptyOrNew (BODY + 1) blank (1 ∷ []) (body ∷ [])) blank based
        → Leaves (BODY + 1) (IsWriting plant digest states number old) old based
    base_leaves before run = leaves_then (BODY + 1) (IsWriting plant digest states number old) old blank based before
        (leaves_weaker (BODY + 1) (EmptyOrNew (BODY + 1) blank (1 ∷ []) (body ∷ [])) (IsWriting plant digest states number old) blank based first run)
      where
        first : (cells : List Cell) → EmptyOrNew (BODY + 1) blank (1 ∷ []) (body ∷ []) cells → IsWriting plant digest states number old cells
        first cells left =
            let at : EmptyOrNewAt (1 ∷ []) (body ∷ []) (seen_cells (BODY + 1) blank) cells = empty_or_new_seen (BODY + 1) blank (1 ∷ []) (body ∷ []) cells is.settled left in
            inr (inl (at.others 0 (none_of_one 1 0 (λ same. omega (arith, same))) ∙ is.empty 0))

    -- the states are stored
    module _ (set : Filled (BODY + 1) (1 ∷ []) (body ∷ []) blank based) where
      pub states_leave : (stored : DiskState) → Leaves (BODY + 1) (IsWriting plant digest states number old) old based
          → Leaves (BODY + 1) (λ left. cell left identity_cell ≡ cell (seen_cells (BODY + 1) based) identity_cell) based stored
          → Leaves (BODY + 1) (IsWriting plant digest states number old) old stored
      states_leave stored before run = leaves_then (BODY + 1) (IsWriting plant digest states number old) old based stored before
          (leaves_weaker (BODY + 1) (λ left. cell left identity_cell ≡ cell (seen_cells (BODY + 1) based) identity_cell) (IsWriting plant digest states number old) based stored
          (λ cells same. inr (inl (same ∙ first_still blank based body is set))) run)

      -- the identity is set
      module _ (stored : DiskState) (room : HasRoom plant states counts number) (holds : HasStoredStates (length states) states counts number based stored)
          (spelled : body ≡ padded BODY (base_bytes (number + 1))) where
        -- the cells with it, if all others are as they were
        holds_state : (bytes : ℕ) (cells : List Cell) → bytes ≡ formatted_size plant ring → length cells ≡ device_cells (length plant.atoms) ring
            → cell cells 0 ≡ Some (padded BODY (identity_bytes (identity_for plant digest ring)))
            → ((k : ℕ) → k ≢ 0 → cell cells k ≡ cell (seen_cells (BODY + 1) stored) k) → HoldsState plant digest ring bytes states counts number cells
        holds_state bytes cells size count identity others =
            let many : length states ≡ length plant.atoms = room.of_plant in
            let within : 0 < length {A = ℕ} (1 ∷ []) = omega arith in
            -- a cell that no call filled
            let empty : (k : ℕ) → k ≢ 0 → k ≢ 1 → ((atom : ℕ) → k ≢ slot_cell atom 0) → cell cells k ≡ None = λ k ne0 ne1 ne. others k ne0 ∙ holds.others k (λ atom below. ne atom) ∙ set.others k (none_of_one 1 k ne1) ∙ is.empty k in
            record {
              size = size;
              count = count;
              identity = identity;
              base = others 1 (λ same. omega (arith, same)) ∙ holds.others 1 (λ atom below same. omega (arith, same)) ∙ set.each 0 within ∙ ap (λ (b : List ℕ). Some b) spelled;
              no_base = empty 2 (λ same. omega (arith, same)) (λ same. omega (arith, same)) (λ atom same. omega (arith, same));
              slots = λ atom state its.
                  subst (λ (c : Cell). HoldsSaved (saved_by atom (count_of counts atom) number state) c) (sym (others (slot_cell atom 0) (λ same. omega (arith, same)))) (holds.stored atom state (slice_get_within states atom state its) its);
              no_slots = λ atom below. empty (slot_cell atom 1) (λ same. omega (arith, same)) (λ same. omega (arith, same)) (λ other same. omega (arith, same));
              no_records = λ n. others (record_cell (length plant.atoms) ring n) (λ same. omega (arith, same))
                  ∙ holds.others (record_cell (length plant.atoms) ring n) (λ atom below same. omega (arith, same, below, many))
                  ∙ set.others (record_cell (length plant.atoms) ring n) (none_of_one 1 (record_cell (length plant.atoms) ring n) (λ same. omega (arith, same)))
                  ∙ is.empty (record_cell (length plant.atoms) ring n);
            }

        module _ (new : DiskState) (identity : List ℕ) (of_plant : IsIdentity (identity_for plant digest ring)) (right : identity ≡ padded BODY (identity_bytes (identity_for plant digest ring))) (size : size_of old ≡ formatted_size plant ring)
            (same_size : size_of stored ≡ size_of old) where
          counted : length (seen_cells (BODY + 1) stored) ≡ device_cells (length plant.atoms) ring
          counted = seen_length (BODY + 1) stored ∙ omega (arith, same_size, size)

          last_left : (cells : List Cell) → EmptyOrNew (BODY + 1) stored (0 ∷ []) (identity ∷ []) cells → IsWriting plant digest states number old cells
          last_left cells left =
              let at : EmptyOrNewAt (0 ∷ []) (identity ∷ []) (seen_cells (BODY + 1) stored) cells = empty_or_new_seen (BODY + 1) stored (0 ∷ []) (identity ∷ []) cells holds.settled left in
              let within : 0 < length {A = ℕ} (0 ∷ []) = omega arith in
              ⊎_elim
              (λ empty. inr (inl empty))
              (λ full. inr (inr (held_stands plant digest ring (size_of old) states counts number cells of_plant room
              (holds_state (size_of old) cells size (at.count ∙ counted) (full ∙ ap (λ (b : List ℕ). Some b) right) (λ k ne. at.others k (none_of_one 0 k ne))))))
              (at.each 0 within)

          pub identity_leaves : Leaves (BODY + 1) (IsWriting plant digest states number old) old stored → Leaves (BODY + 1) (EmptyOrNew (BODY + 1) stored (0 ∷ []) (identity ∷ [])) stored new
              → Leaves (BODY + 1) (IsWriting plant digest states number old) old new
          identity_leaves before run = leaves_then (BODY + 1) (IsWriting plant digest states number old) old stored new before
              (leaves_weaker (BODY + 1) (EmptyOrNew (BODY + 1) stored (0 ∷ []) (identity ∷ [])) (IsWriting plant digest states number old) stored new last_left run)

          pub has_written : size_of new ≡ size_of stored → Filled (BODY + 1) (0 ∷ []) (identity ∷ []) stored new → HasWritten plant digest ring states counts number new
          has_written same filled =
              let within : 0 < length {A = ℕ} (0 ∷ []) = omega arith in
              let written : HoldsState plant digest ring (size_of new) states counts number (seen_cells (BODY + 1) new) = holds_state (size_of new) (seen_cells (BODY + 1) new) (same ∙ same_size ∙ size) (same_count (BODY + 1) stored new same ∙ counted)
              (filled.each 0 within ∙ ap (λ (b : List ℕ). Some b) right) (λ k ne. filled.others k (none_of_one 0 k ne)) in
              record {
                settled = filled.settled;
                cells = written;
                stands = λ cells may. subst (λ (l : List Cell). StandsFor plant digest (size_of new) l states number) (sym (settled_cells (BODY + 1) new cells filled.settled may))
                    (held_stands plant digest ring (size_of new) states counts number (seen_cells (BODY + 1) new) of_plant room written);
              }

-- the size is asked first, which changes nothing
pub asked_leaves : (plant : PlantDefinition) (digest : List ℕ) (states : List Local) (number : ℕ) (old mid new : DiskState) → Reads false old mid → old.keeps ≡ true → Leaves (BODY + 1) (IsWriting plant digest states number mid) mid new
    → Leaves (BODY + 1) (IsWriting plant digest states number old) old new
asked_leaves plant digest states number old mid new reads keeps run =
    leaves_then (BODY + 1) (IsWriting plant digest states number old) old mid new
    (reads_leave (BODY + 1) (IsWriting plant digest states number old) old mid reads keeps (λ cells may. inl may))
    (leaves_weaker (BODY + 1) (IsWriting plant digest states number mid) (IsWriting plant digest states number old) mid new
    (λ cells left. ⊎_elim
    (λ may. inl (may_before (BODY + 1) old mid cells reads keeps may))
    (λ rest. inr (subst (λ (bytes : ℕ). (cell cells identity_cell ≡ None) ⊎ StandsFor plant digest bytes cells states number) reads.counts.size rest))
    left) run)
