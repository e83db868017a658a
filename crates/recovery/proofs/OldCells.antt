-- Today's cells of those of the first layout, one by one.
use Rattle.std.proofs.Common.{◌≡◌, ℕ, zero, suc, ◌+◌, ◌<◌, ◌≤◌, [], ◌∷◌, List, Option, None, Some, is_none, refl, ◌∙◌, ap, arith}
use Rattle.std.specs.Option.{option_and_then, option_map}
use Rattle.std.proofs.lemmas.Bool.Decides.{nat_tests}
use Rattle.disk_model.specs.Cells.{Cell, cell}
use Rattle.record_codec.specs.declared.v1.TheConstants.{VERSION as FIRST_VERSION, MOST_ENTRIES as FIRST_MOST_ENTRIES}
use Rattle.record_codec.specs.Base.{base_in}
use Rattle.record_codec.specs.Fired.{fired_in, fired_up_to}
use Rattle.record_codec.specs.FirstLayout.{todays_body, todays_record, todays_version}
use Rattle.record_codec.specs.Identity.{identity_in, identity_of, version_in}
use Rattle.record_codec.specs.Ring.{base_cell, device_cells, identity_cell, record_cell, slot_cell}
use Rattle.record_codec.specs.Saved.{saved_in}
use Rattle.record_codec.proofs.FirstLayout.{base_in-todays_body, fired_in-todays_record, identity_in-todays_identity, saved_in-todays_body, version_in-todays_identity}
use Rattle.recovery.specs.OldImage.{AreOldCells, todays_body_at, todays_cell, todays_cells, todays_from}

by_cell : (atoms from k : ℕ) (cells : List Cell) → cell (todays_from atoms from cells) k ≡ todays_cell atoms (from + k) (cell cells k)
by_cell atoms from k [] = refl
by_cell atoms from zero (c ∷ rest) = let same : from ≡ from + 0 = omega arith in ap (λ (n : ℕ). todays_cell atoms n c) same
by_cell atoms from (suc k) (c ∷ rest) =
    let same : suc from + k ≡ from + suc k = omega arith in
    by_cell atoms (suc from) k rest ∙ ap (λ (n : ℕ). todays_cell atoms n (cell rest k)) same

-- each is today's of that with its number
pub cell-todays_cells : (atoms k : ℕ) (cells : List Cell) → cell (todays_cells atoms cells) k ≡ todays_cell atoms k (cell cells k)
cell-todays_cells atoms k cells = let same : 0 + k ≡ k = omega arith in by_cell atoms 0 k cells ∙ ap (λ (n : ℕ). todays_cell atoms n (cell cells k)) same

-- ---- what they hold

-- in front of the ring, and in it
before_ring : (atoms k : ℕ) (body : List ℕ) → 0 < k → k < device_cells atoms 0 → todays_body_at atoms k body ≡ todays_body body
before_ring atoms k body some low = grind (arith, nat_tests)

in_ring : (atoms k : ℕ) (body : List ℕ) → device_cells atoms 0 ≤ k → todays_body_at atoms k body ≡ todays_record body
in_ring atoms k body high = grind (arith, nat_tests)

module _ (atoms k : ℕ) (cells : List Cell) where
  -- a cell is full if the old one is
  pub full_same : is_none (cell (todays_cells atoms cells) k) ≡ is_none (cell cells k)
  full_same = ap is_none (cell-todays_cells atoms k cells) ∙ by_cell (cell cells k)
    where
      by_cell : (c : Cell) → is_none (todays_cell atoms k c) ≡ is_none c
      by_cell None = refl
      by_cell (Some body) = refl

  -- and holds what today's body of it holds
  module _ {V : Type 0} (reading old : List ℕ → Option V) (same : (body : List ℕ) → cell cells k ≡ Some body → reading (todays_body_at atoms k body) ≡ old body) where
    pub held_same : option_and_then reading (cell (todays_cells atoms cells) k) ≡ option_and_then old (cell cells k)
    held_same = ap (option_and_then reading) (cell-todays_cells atoms k cells) ∙ by_cell (cell cells k) refl
      where
        by_cell : (c : Cell) → cell cells k ≡ c → option_and_then reading (todays_cell atoms k c) ≡ option_and_then old c
        by_cell None is = refl
        by_cell (Some body) is = same body is

module _ (atoms : ℕ) (cells : List Cell) (old : AreOldCells cells) where
  pub version_same : option_and_then version_in (cell (todays_cells atoms cells) identity_cell) ≡ option_map todays_version (option_and_then version_in (cell cells identity_cell))
  version_same =
      held_same atoms identity_cell cells version_in (λ body. option_map todays_version (version_in body)) (λ body is. version_in-todays_identity body (old identity_cell body is).0 (old identity_cell body is).1)
      ∙ by_cell (cell cells identity_cell)
    where
      by_cell : (c : Cell) → option_and_then (λ body. option_map todays_version (version_in body)) c ≡ option_map todays_version (option_and_then version_in c)
      by_cell None = refl
      by_cell (Some body) = refl

  pub identity_same : option_and_then identity_in (cell (todays_cells atoms cells) identity_cell) ≡ option_and_then (identity_of FIRST_VERSION) (cell cells identity_cell)
  identity_same = held_same atoms identity_cell cells identity_in (identity_of FIRST_VERSION) (λ body is. identity_in-todays_identity body (old identity_cell body is).0 (old identity_cell body is).1)

  pub base_same : (base : ℕ) → base < 2 → option_and_then base_in (cell (todays_cells atoms cells) (base_cell base)) ≡ option_and_then base_in (cell cells (base_cell base))
  base_same base two = held_same atoms (base_cell base) cells base_in base_in (λ body is.
      ap base_in (before_ring atoms (base_cell base) body (omega arith) (omega arith)) ∙ base_in-todays_body body (old (base_cell base) body is).1)

  pub slot_same : (atom slot : ℕ) → atom < atoms → slot < 2 → option_and_then saved_in (cell (todays_cells atoms cells) (slot_cell atom slot)) ≡ option_and_then saved_in (cell cells (slot_cell atom slot))
  slot_same atom slot below two = held_same atoms (slot_cell atom slot) cells saved_in saved_in (λ body is.
      ap saved_in (before_ring atoms (slot_cell atom slot) body (omega arith) (omega arith)) ∙ saved_in-todays_body body (old (slot_cell atom slot) body is).0 (old (slot_cell atom slot) body is).1)

  pub record_same : (ring number : ℕ) → option_and_then fired_in (cell (todays_cells atoms cells) (record_cell atoms ring number)) ≡ option_and_then (fired_up_to FIRST_MOST_ENTRIES) (cell cells (record_cell atoms ring number))
  record_same ring number = held_same atoms (record_cell atoms ring number) cells fired_in (fired_up_to FIRST_MOST_ENTRIES) (λ body is.
      ap fired_in (in_ring atoms (record_cell atoms ring number) body (omega arith))
      ∙ fired_in-todays_record body (old (record_cell atoms ring number) body is).0 (old (record_cell atoms ring number) body is).1)
