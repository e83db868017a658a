-- Worked examples of the definitions, as computed facts.
use Rattle.std.proofs.Common.{◌≡◌, ◌⊎◌, inl, inr, ℕ, zero, suc, ◌*◌, ◌<◌, true, false, List, [], ◌∷◌, map, slice_index, slice_index_or, Some, None, refl, arith}
use Rattle.disk_model.specs.declared.cells.TheConstants.{BODY}
use Rattle.disk_model.specs.declared.calls.TheConstants.{OPEN, CLOSED}
use Rattle.disk_model.specs.declared.change.TheConstants.{LONGEST}
use Rattle.disk_model.specs.declared.cells.TheConstants.{FIRST_CELL}
use Rattle.disk_model.specs.declared.change.Tear.{Tear}
use Rattle.disk_model.specs.declared.change.Tear.TheVariants.{Old, New, Gates, Mixed}
use Rattle.disk_model.specs.declared.fuse.Fuse.TheVariants.{Once, Dead, Change}
use Rattle.disk_model.specs.DiskState.{Moment, DiskState, MayLeave, LeftSince, counted, counted_times, overwritten, is_within, moment_of}
use Rattle.disk_model.specs.Cells.{Cell, cell_at, cells_of, cell, IsNoneOf, OldOrEmptyAt, EmptyOrNewAt}
use Rattle.disk_model.specs.Recording.{at_rest, byte_left}
use Rattle.disk_model.specs.Fuse.{burns, fuse_after}

-- the sizes and the bytes of a gate
a_body_has_1023_bytes : BODY ≡ 1023
a_body_has_1023_bytes = refl

a_full_cell_has_gate_165 : OPEN ≡ 165
a_full_cell_has_gate_165 = refl

an_emptied_cell_has_gate_0 : CLOSED ≡ 0
an_emptied_cell_has_gate_0 = refl

a_device_in_memory_takes_1024_bytes_at_once : LONGEST ≡ 1024
a_device_in_memory_takes_1024_bytes_at_once = refl

cells_of_the_first_layout_have_512_bytes : FIRST_CELL ≡ 512
cells_of_the_first_layout_have_512_bytes = refl

-- counts rise by one, and stay at the greatest u64
count_rises : counted true 5 ≡ 6
count_rises = refl

count_of_no_event : counted false 5 ≡ 5
count_of_no_event = refl

count_stays_at_its_greatest : counted true 18446744073709551615 ≡ 18446744073709551615
count_stays_at_its_greatest = refl

three_syncs_more : counted_times 3 5 ≡ 8
three_syncs_more = refl

-- bytes 1 and 2 of four are written over
two_bytes_written : overwritten {X = ℕ} 1 (8 ∷ 9 ∷ []) (1 ∷ 2 ∷ 3 ∷ 4 ∷ []) ≡ 1 ∷ 8 ∷ 9 ∷ 4 ∷ []
two_bytes_written = refl

range_holds_its_last : is_within 2 3 4 ≡ true
range_holds_its_last = refl

range_ends_before_its_end : is_within 2 3 5 ≡ false
range_ends_before_its_end = refl

-- of three bytes the middle one is pending
abbrev one_pending : Moment
one_pending = record { seen = 1 ∷ 2 ∷ 3 ∷ []; pending = false ∷ true ∷ false ∷ [] }

a_pending_byte_is_any : MayLeave one_pending (1 ∷ 77 ∷ 3 ∷ [])
a_pending_byte_is_any = record { size = refl; others = others }
  where
    others : (i : ℕ) → slice_index_or (false ∷ true ∷ false ∷ []) i false ≡ false → slice_index (1 ∷ 77 ∷ 3 ∷ []) i ≡ slice_index (1 ∷ 2 ∷ 3 ∷ []) i
    others zero is = refl
    others (suc zero) is = absurd (cc)
    others (suc (suc zero)) is = refl
    others (suc (suc (suc i))) is = refl

every_other_byte_stays : MayLeave one_pending (9 ∷ 2 ∷ 3 ∷ []) → ⊥
every_other_byte_stays left = let first : 9 ≡ 1 = left.others 0 refl in absurd (omega (arith, first))

no_byte_is_lost : MayLeave one_pending (1 ∷ 2 ∷ []) → ⊥
no_byte_is_lost left = absurd (omega (arith, left.size))

-- a device that held 1 and then 2, both written and synced
abbrev was_one_is_two : DiskState
was_one_is_two = record { now = at_rest (2 ∷ []); past = at_rest (1 ∷ []) ∷ []; failures = 0; syncs = 2; keeps = true }

a_stop_at_first_left_one : LeftSince was_one_is_two 0 (1 ∷ [])
a_stop_at_first_left_one = inr (inl (record { size = refl; others = λ i is. refl }))

a_stop_since_now_leaves_two : LeftSince was_one_is_two 1 (2 ∷ [])
a_stop_since_now_leaves_two = inl (record { size = refl; others = λ i is. refl })

the_moment_is_the_second : moment_of was_one_is_two ≡ 1
the_moment_is_the_second = refl

-- two cells of four bytes, the first full and the second with a body behind a closed gate, and a byte that is no cell
abbrev two_cells : List ℕ
two_cells = 0xA5 ∷ 1 ∷ 2 ∷ 3 ∷ 0 ∷ 7 ∷ 8 ∷ 9 ∷ 0xA5 ∷ []

an_open_gate_shows_its_body : cell_at 4 two_cells 0 ≡ Some (1 ∷ 2 ∷ 3 ∷ [])
an_open_gate_shows_its_body = refl

a_closed_gate_shows_nothing : cell_at 4 two_cells 1 ≡ None
a_closed_gate_shows_nothing = refl

only_one_byte_opens : cell_at 4 (0xA4 ∷ 1 ∷ 2 ∷ 3 ∷ []) 0 ≡ None
only_one_byte_opens = refl

a_part_of_a_cell_is_none : cells_of 4 two_cells ≡ Some (1 ∷ 2 ∷ 3 ∷ []) ∷ None ∷ []
a_part_of_a_cell_is_none = refl

past_the_last_cell_is_nothing : cell (cells_of 4 two_cells) 2 ≡ None
past_the_last_cell_is_nothing = refl

-- of two full cells the second is emptied, and then filled again
abbrev both_full : List Cell
both_full = Some (7 ∷ []) ∷ Some (8 ∷ []) ∷ []

abbrev second_empty : List Cell
second_empty = Some (7 ∷ []) ∷ None ∷ []

abbrev second_new : List Cell
second_new = Some (7 ∷ []) ∷ Some (9 ∷ []) ∷ []

a_stop_may_leave_it_empty : OldOrEmptyAt (1 ∷ []) both_full second_empty
a_stop_may_leave_it_empty = record { count = refl; each = each; others = others }
  where
    each : (j : ℕ) → (cell second_empty j ≡ cell both_full j) ⊎ (cell second_empty j ≡ None)
    each zero = inl refl
    each (suc zero) = inr refl
    each (suc (suc j)) = inl refl

    others : (j : ℕ) → IsNoneOf (1 ∷ []) j → cell second_empty j ≡ cell both_full j
    others zero none = refl
    others (suc zero) none = absurd (none 0 (omega arith) refl)
    others (suc (suc j)) none = refl

a_stop_leaves_no_other_body : OldOrEmptyAt (1 ∷ []) both_full second_new → ⊥
a_stop_leaves_no_other_body left = elim (left.each 1) [ inl old ↦ absurd (cc) | inr empty ↦ absurd (cc) ]

and_may_leave_the_new_one : EmptyOrNewAt (1 ∷ []) ((9 ∷ []) ∷ []) second_empty second_new
and_may_leave_the_new_one = record { count = refl; each = each; others = others }
  where
    each : (i : ℕ) → i < 1 → (cell second_new (slice_index (1 ∷ []) i) ≡ None) ⊎ (cell second_new (slice_index (1 ∷ []) i) ≡ Some (slice_index_or ((9 ∷ []) ∷ []) i []))
    each zero lt = inr refl
    each (suc i) lt = absurd (omega arith)

    others : (j : ℕ) → IsNoneOf (1 ∷ []) j → cell second_new j ≡ cell second_empty j
    others zero none = refl
    others (suc zero) none = absurd (none 0 (omega arith) refl)
    others (suc (suc j)) none = refl

-- cell 9 of cells of 512 bytes begins at byte 4,608
the_ninth_cell : 512 * 9 ≡ 4608
the_ninth_cell = refl

-- a pending byte that was synced as 0x11 and is read as 0x22, after a stop of each pattern: byte 2 of cells of two bytes is in
-- cell 1, byte 1 in cell 0
what_a_stop_leaves_in_an_odd_cell : map (λ (tear : Tear). byte_left tear 2 true 2 0x22 0x11) (Old ∷ New ∷ Gates ∷ Mixed ∷ []) ≡ 0x11 ∷ 0x22 ∷ 0xA5 ∷ 0x22 ∷ []
what_a_stop_leaves_in_an_odd_cell = refl

and_in_an_even_one : map (λ (tear : Tear). byte_left tear 2 true 1 0x22 0x11) (Old ∷ New ∷ Gates ∷ Mixed ∷ []) ≡ 0x11 ∷ 0x22 ∷ 0xA5 ∷ 0x11 ∷ []
and_in_an_even_one = refl

what_is_not_pending_stays : byte_left Gates 2 false 2 0x22 0x11 ≡ 0x22
what_is_not_pending_stays = refl

-- fuses count from 1
the_second_call_fails : burns (fuse_after (Once 2) false) false ≡ true
the_second_call_fails = refl

and_the_third_goes_on : burns (fuse_after (fuse_after (Once 2) false) false) false ≡ false
and_the_third_goes_on = refl

a_dead_device_stays_dead : burns (fuse_after (fuse_after (Dead 1) true) false) true ≡ true
a_dead_device_stays_dead = refl

a_read_is_no_change : burns (fuse_after (Change 1) false) false ≡ false
a_read_is_no_change = refl

after_the_change_all_calls_fail : burns (fuse_after (Change 1) true) false ≡ true
after_the_change_all_calls_fail = refl
