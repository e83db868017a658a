-- A new device has no full cell. With base 1 written into cell 1, it is ready for a journal without records.
use Rattle.std.proofs.Common.{◌≡◌, ◌≢◌, inl, inr, ℕ, zero, suc, ◌+◌, ◌*◌, ◌==◌, if◌then◌else◌, true, List, [], ◌∷◌, length, map, replicate, get_or, Some, None, refl, ◌∙◌, ap, arith}
use Rattle.std.specs.List.{range_with_len}
use Rattle.std.specs.Option.{some_prefix}
use Rattle.std.proofs.lemmas.Bool.{cases_lt}
use Rattle.std.proofs.lemmas.List.{get_or_past}
use Rattle.std.proofs.lemmas.List.FromFn.{get_or-map-range_with_len}
use Rattle.disk_model.specs.declared.cells.TheConstants.{BODY}
use Rattle.disk_model.specs.DiskState.{DiskState}
use Rattle.disk_model.specs.Cells.{Cell, body_at, cell_at, cells_of, cells_in, cell, seen_cells, Replaced, Settles}
use Rattle.disk_model.specs.MemDisk.{fresh}
use Rattle.disk_model.specs.Moments.{length-cells_of}
use Rattle.record_codec.specs.Base.{base_in}
use Rattle.record_codec.specs.Fired.{fired_in}
use Rattle.gated_journal.specs.Live.{record_in, place, AreRecords}
use Rattle.gated_journal.specs.Bases.{base_held, counts_before, IsBased}
use Rattle.gated_journal.specs.Rings.{IsWhole, IsReadFor}
use Rattle.gated_journal.specs.Stops.{IsReady}
use Rattle.device_tests.specs.AppendThenMove.{empty_journal, record_of}

zero_at : (n i : ℕ) → ◌≡◌ {A = ℕ} (get_or (replicate n 0) i 0) 0
zero_at zero i = refl
zero_at (suc n) zero = refl
zero_at (suc n) (suc i) = zero_at n i

-- no cell of zeros is full
pub no_cell : (size n k : ℕ) → cell (cells_of size (replicate n 0)) k ≡ None
no_cell size n k =
    let image : List ℕ = replicate n 0 in
    elim (cases_lt k (cells_in size (length image))) [
      | inl within ↦
          get_or-map-range_with_len (cell_at size image) 0 (cells_in size (length image)) k k None within (omega arith)
          ∙ ap (λ (b : ℕ). if b == 0xA5 then Some (body_at size image k) else None) (zero_at n (size * k))
      | inr past ↦ get_or_past (cells_of size image) k None (omega (arith, length-cells_of size image, past))
    ]

-- A new device has none, whether what stands on it is synced or not.
none_is_full : (n : ℕ) (old new : DiskState) → old ≡ fresh (replicate n 0) → Settles (BODY + 1) old new → (k : ℕ) → cell (seen_cells (BODY + 1) new) k ≡ None
none_is_full n old new is settles k =
    ap (λ (l : List Cell). cell l k) settles.same ∙ ap (λ (s : DiskState). cell (seen_cells (BODY + 1) s) k) is ∙ no_cell (BODY + 1) n k

-- these three bodies hold records 1 to 3
pub three_records : (a b c : List ℕ) → fired_in a ≡ Some (record_of 1) → fired_in b ≡ Some (record_of 2) → fired_in c ≡ Some (record_of 3) → AreRecords 1 (a ∷ b ∷ c ∷ []) (record_of 1 ∷ record_of 2 ∷ record_of 3 ∷ [])
three_records a b c first second third = record { held = cc; numbered = refl }

-- A device without full cells got this base 1 into cell 1.
module _ (old new : DiskState) (none : (k : ℕ) → cell (seen_cells (BODY + 1) old) k ≡ None) (body : List ℕ) (holds : base_in body ≡ Some 1) (replaced : Replaced (BODY + 1) 1 body old new) where
  no_other : (k : ℕ) → k ≢ 1 → cell (seen_cells (BODY + 1) new) k ≡ None
  no_other k ne = replaced.others k ne ∙ none k

  pub based : IsBased empty_journal (seen_cells (BODY + 1) new)
  based =
      let counts : (if counts_before (base_held (cell (seen_cells (BODY + 1) new) 2)) (base_held (cell (seen_cells (BODY + 1) new) 1)) then 2 else 1) ≡ 1 = ap (λ (c : Cell). if counts_before (base_held c) (base_held (cell (seen_cells (BODY + 1) new) 1)) then 2 else 1) (no_other 2 (omega arith)) in
      record {
        in_cell = counts;
        number = ap (λ (k : ℕ). base_held (cell (seen_cells (BODY + 1) new) k)) counts ∙ ap base_held replaced.here ∙ holds;
      }

  pub whole : IsWhole empty_journal (seen_cells (BODY + 1) new)
  whole = ap (λ (c : Cell). 1 + length (some_prefix (record_in 1 c ∷ map (λ n. record_in n (cell (seen_cells (BODY + 1) new) (place empty_journal n))) (range_with_len 2 7)))) (no_other 8 (omega arith))

  ready : IsReady empty_journal new
  ready = record { settled = replaced.settled; whole = whole; ahead = λ n later. no_other (place empty_journal n) (λ same. omega (arith, same)) }

  -- its cells read for the journal
  read : IsReadFor empty_journal (seen_cells (BODY + 1) new)
  read = record { based = based; whole = whole }

-- a new device that was synced, and got this base 1 into cell 1
pub new_device : (start old new : DiskState) (body : List ℕ) → start ≡ fresh (replicate 15360 0) → (start.keeps ≡ true → Settles (BODY + 1) start old) → old.keeps ≡ start.keeps → base_in body ≡ Some 1
    → (old.keeps ≡ true → Replaced (BODY + 1) 1 body old new) → IsReady empty_journal new × IsReadFor empty_journal (seen_cells (BODY + 1) new)
new_device start old new body is settles same holds replaced =
    let keeps : start.keeps ≡ true = ap (λ (s : DiskState). s.keeps) is in
    let none : (k : ℕ) → cell (seen_cells (BODY + 1) old) k ≡ None = none_is_full 15360 start old is (settles keeps) in
    let done : Replaced (BODY + 1) 1 body old new = replaced (same ∙ keeps) in
    (ready old new none body holds done, read old new none body holds done)
