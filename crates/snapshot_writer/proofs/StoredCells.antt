-- What storing a state leaves in the slots, and which state is the newest then.
use Rattle.std.proofs.Common.{◌≡◌, ◌≢◌, inl, inr, ⊎_elim, ℕ, zero, suc, ◌+◌, ◌<◌, Bool, if◌then◌else◌, List, Option, Some, None, refl, sym, ◌∙◌, ap, subst, arith}
use Rattle.std.specs.Option.{option_and_then}
use Rattle.std.proofs.lemmas.Bool.{eq-eqb}
use Rattle.disk_model.specs.DiskState.{DiskState}
use Rattle.disk_model.specs.Cells.{Cell, cell, seen_cells, Leaves, OldEmptyOrNewAt, Replaced}
use Rattle.disk_model.specs.Moments.{leaves_weaker}
use Rattle.disk_model.specs.declared.cells.TheConstants.{BODY}
use Rattle.record_codec.specs.Ring.{slot_cell}
use Rattle.record_codec.specs.Saved.{SavedFields}
use Rattle.snapshot_writer.specs.Parcels.{IsBodyOf}
use Rattle.snapshot_writer.specs.Slots.{if_of_atom, saved_of, saved_at, newest_of, slot_of, newest, newest_slot, IsFree, IsAbove, IsNotBelow, IsSameNewest}
use Rattle.snapshot_writer.specs.Storing.{HoldsSaved, HasStored, IsStored, IsNewestNow, IsKeptOrStored}
use Rattle.snapshot_writer.proofs.NewestStates.{IsIt, first_is_newest, second_is_newest, alone_in_first, alone_in_second, new_in_first, new_in_second, greater_in_first, greater_in_second}

-- a cell with the state's body holds it
pub holds_saved : (saved : SavedFields) (body : List ℕ) (c : Cell) → IsBodyOf body saved → c ≡ Some body → HoldsSaved saved c
holds_saved saved body c is full = record {
  body = full ∙ ap (λ (bytes : List ℕ). Some bytes) is.spelled;
  held = ap (saved_of saved.atom) full ∙ ap (option_and_then (if_of_atom saved.atom)) is.read ∙ ap (λ (t : Bool). if t then Some saved else None) (eq-eqb saved.atom saved.atom refl);
}

module _ (slot : ℕ) (saved : SavedFields) (body : List ℕ) (is : IsBodyOf body saved) where
  has_stored : (before cells : List Cell) → OldEmptyOrNewAt (slot_cell saved.atom slot) body before cells → HasStored slot saved before cells
  has_stored before cells left = record {
    count = left.count;
    here = ⊎_elim (λ same. inl same) (λ rest. inr (⊎_elim (λ empty. inl empty) (λ full. inr (holds_saved saved body (cell cells (slot_cell saved.atom slot)) is full)) rest)) left.here;
    others = left.others;
  }

  module _ (old new : DiskState) where
    pub store_leaves : Leaves (BODY + 1) (OldEmptyOrNewAt (slot_cell saved.atom slot) body (seen_cells (BODY + 1) old)) old new → Leaves (BODY + 1) (HasStored slot saved (seen_cells (BODY + 1) old)) old new
    store_leaves run = leaves_weaker (BODY + 1) (OldEmptyOrNewAt (slot_cell saved.atom slot) body (seen_cells (BODY + 1) old)) (HasStored slot saved (seen_cells (BODY + 1) old)) old new (has_stored (seen_cells (BODY + 1) old)) run

    pub is_stored : Replaced (BODY + 1) (slot_cell saved.atom slot) body old new → IsStored slot saved old new
    is_stored done = record {
      settled = done.settled;
      count = done.count;
      here = holds_saved saved body (cell (seen_cells (BODY + 1) new) (slot_cell saved.atom slot)) is done.here;
      others = done.others;
    }

-- the newest by what the two slots hold
newest_from : (atom : ℕ) (cells : List Cell) (first second : Option SavedFields) → saved_at atom 0 cells ≡ first → saved_at atom 1 cells ≡ second → newest atom cells ≡ newest_of first second
newest_from atom cells first second in_first in_second = ap (λ (o : Option SavedFields). newest_of o (saved_at atom 1 cells)) in_first ∙ ap (λ (o : Option SavedFields). newest_of first o) in_second

slot_from : (atom : ℕ) (cells : List Cell) (first second : Option SavedFields) → saved_at atom 0 cells ≡ first → saved_at atom 1 cells ≡ second → newest_slot atom cells ≡ slot_of first second
slot_from atom cells first second in_first in_second = ap (λ (o : Option SavedFields). slot_of o (saved_at atom 1 cells)) in_first ∙ ap (λ (o : Option SavedFields). slot_of first o) in_second

module _ (saved : SavedFields) (before cells : List Cell) where
  -- a state that stands in its slot is the newest, by what the two slots hold and what the newest was
  is_new : (slot : ℕ) (first second was : Option SavedFields) → saved_at saved.atom 0 cells ≡ first → saved_at saved.atom 1 cells ≡ second → newest saved.atom before ≡ was
      → HoldsSaved saved (cell cells (slot_cell saved.atom slot)) → IsIt saved slot was first second → IsNewestNow slot saved before cells
  is_new slot first second was in_first in_second is_was there it = record {
    here = there;
    newest_is = newest_from saved.atom cells first second in_first in_second ∙ it.newest_is;
    slot_is = slot_from saved.atom cells first second in_first in_second ∙ it.slot_is;
    above = subst (IsNotBelow saved) (sym is_was) it.above;
  }

  -- a state is stored in slot 0
  module _ (free : IsFree saved.atom 0 before) (left : HasStored 0 saved before cells) where
    second_stays : saved_at saved.atom 1 cells ≡ saved_at saved.atom 1 before
    second_stays = ap (saved_of saved.atom) (left.others (slot_cell saved.atom 1) (λ same. omega (arith, same)))

    second_was : newest saved.atom before ≡ saved_at saved.atom 1 before
    second_was = second_is_newest (saved_at saved.atom 0 before) (saved_at saved.atom 1 before) free

    is_new_in_first : HoldsSaved saved (cell cells (slot_cell saved.atom 0)) → IsIt saved 0 (saved_at saved.atom 1 before) (Some saved) (saved_at saved.atom 1 before) → IsNewestNow 0 saved before cells
    is_new_in_first there it = is_new 0 (Some saved) (saved_at saved.atom 1 before) (saved_at saved.atom 1 before) there.held second_stays second_was there it

    first_kept_or_stored : IsKeptOrStored 0 saved before cells
    first_kept_or_stored = ⊎_elim
        (λ same. inl (newest_from saved.atom cells (saved_at saved.atom 0 before) (saved_at saved.atom 1 before) (ap (saved_of saved.atom) same) second_stays))
        (λ rest. ⊎_elim
        (λ empty. inl (newest_from saved.atom cells None (saved_at saved.atom 1 before) (ap (saved_of saved.atom) empty) second_stays ∙ alone_in_second (saved_at saved.atom 1 before) ∙ sym second_was))
        (λ there. ⊎_elim
        (λ older. inl (newest_from saved.atom cells (Some saved) (saved_at saved.atom 1 before) there.held second_stays ∙ older ∙ sym second_was))
        (λ it. inr (is_new_in_first there it))
        (new_in_first saved (saved_at saved.atom 1 before)))
        rest)
        left.here

    first_is_new : HoldsSaved saved (cell cells (slot_cell saved.atom 0)) → IsAbove saved (newest saved.atom before) → IsNewestNow 0 saved before cells
    first_is_new there above = is_new_in_first there (greater_in_first saved (saved_at saved.atom 1 before) (subst (IsAbove saved) second_was above))

  -- a state is stored in slot 1
  module _ (free : IsFree saved.atom 1 before) (left : HasStored 1 saved before cells) where
    first_stays : saved_at saved.atom 0 cells ≡ saved_at saved.atom 0 before
    first_stays = ap (saved_of saved.atom) (left.others (slot_cell saved.atom 0) (λ same. omega (arith, same)))

    first_was : newest saved.atom before ≡ saved_at saved.atom 0 before
    first_was = first_is_newest (saved_at saved.atom 0 before) (saved_at saved.atom 1 before) free

    is_new_in_second : HoldsSaved saved (cell cells (slot_cell saved.atom 1)) → IsIt saved 1 (saved_at saved.atom 0 before) (saved_at saved.atom 0 before) (Some saved) → IsNewestNow 1 saved before cells
    is_new_in_second there it = is_new 1 (saved_at saved.atom 0 before) (Some saved) (saved_at saved.atom 0 before) first_stays there.held first_was there it

    second_kept_or_stored : IsKeptOrStored 1 saved before cells
    second_kept_or_stored = ⊎_elim
        (λ same. inl (newest_from saved.atom cells (saved_at saved.atom 0 before) (saved_at saved.atom 1 before) first_stays (ap (saved_of saved.atom) same)))
        (λ rest. ⊎_elim
        (λ empty. inl (newest_from saved.atom cells (saved_at saved.atom 0 before) None first_stays (ap (saved_of saved.atom) empty) ∙ alone_in_first (saved_at saved.atom 0 before) ∙ sym first_was))
        (λ there. ⊎_elim
        (λ older. inl (newest_from saved.atom cells (saved_at saved.atom 0 before) (Some saved) first_stays there.held ∙ older ∙ sym first_was))
        (λ it. inr (is_new_in_second there it))
        (new_in_second saved (saved_at saved.atom 0 before)))
        rest)
        left.here

    second_is_new : HoldsSaved saved (cell cells (slot_cell saved.atom 1)) → IsAbove saved (newest saved.atom before) → IsNewestNow 1 saved before cells
    second_is_new there above = is_new_in_second there (greater_in_second saved (saved_at saved.atom 0 before) (subst (IsAbove saved) first_was above))

-- in either slot
pub kept_or_stored : (slot : ℕ) (saved : SavedFields) (before cells : List Cell) → slot < 2 → IsFree saved.atom slot before → HasStored slot saved before cells → IsKeptOrStored slot saved before cells
kept_or_stored zero saved before cells within free left = first_kept_or_stored saved before cells free left
kept_or_stored (suc zero) saved before cells within free left = second_kept_or_stored saved before cells free left
kept_or_stored (suc (suc slot)) saved before cells within free left = absurd (omega arith)

pub is_newest_now : (slot : ℕ) (saved : SavedFields) (before cells : List Cell) → slot < 2 → IsFree saved.atom slot before → HasStored slot saved before cells → HoldsSaved saved (cell cells (slot_cell saved.atom slot))
    → IsAbove saved (newest saved.atom before) → IsNewestNow slot saved before cells
is_newest_now zero saved before cells within free left there above = first_is_new saved before cells free left there above
is_newest_now (suc zero) saved before cells within free left there above = second_is_new saved before cells free left there above
is_newest_now (suc (suc slot)) saved before cells within free left there above = absurd (omega arith)

-- the slots of another atom
pub others_stay : (slot atom : ℕ) (saved : SavedFields) (before cells : List Cell) → slot < 2 → atom ≢ saved.atom → HasStored slot saved before cells → IsSameNewest atom before cells
others_stay slot atom saved before cells within ne left =
    let first : saved_at atom 0 cells ≡ saved_at atom 0 before = ap (saved_of atom) (left.others (slot_cell atom 0) (λ same. ne (omega (arith, same, within)))) in
    let second : saved_at atom 1 cells ≡ saved_at atom 1 before = ap (saved_of atom) (left.others (slot_cell atom 1) (λ same. ne (omega (arith, same, within)))) in
    record {
      newest_same = newest_from atom cells (saved_at atom 0 before) (saved_at atom 1 before) first second;
      slot_same = slot_from atom cells (saved_at atom 0 before) (saved_at atom 1 before) first second;
    }
