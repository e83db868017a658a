-- The cells of records in a row: which are live, and what is wrong with these and with the one that ends them.
use Rattle.std.proofs.Common.{◌≡◌, ℕ, zero, suc, ◌+◌, List, [], ◌∷◌, length, map, take, Option, Some, None, is_some, true, false, refl, sym, ◌∙◌, ap, subst}
use Rattle.std.proofs.lemmas.Bool.{false≢true, true≢false}
use Rattle.std.specs.List.{range_with_len}
use Rattle.disk_model.specs.Cells.{Cell, cell}
use Rattle.gated_journal.specs.Live.{record_in}
use Rattle.gated_journal.proofs.Fronts.{front, first_is, front_stops}
use Rattle.record_codec.specs.Fired.{FiredFields}
use Rattle.record_codec.specs.Ring.{record_cell}
use Rattle.plant_model.specs.Plant.{PlantDefinition}
use Rattle.plant_model.specs.Rules.{first_of}
use Rattle.plant_image.specs.Faults.{first_fault, numbers_fault, record_fault}
use Rattle.plant_image.specs.declared.fault.ImageFault.{ImageFault}

-- a test whether something is there says what is
pub none_there : {X : Type 0} (o : Option X) → is_some o ≡ false → o ≡ None
none_there None none = refl
none_there (Some x) none = absurd (true≢false none)

pub some_there : {X : Type 0} (o : Option X) → is_some o ≡ true → (x : X) × (o ≡ Some x)
some_there None some = absurd (false≢true some)
some_there (Some x) some = (x, refl)

-- the record with a number, if its cell holds it
abbrev pub record_at : PlantDefinition → List Cell → ℕ → ℕ → Option FiredFields
record_at plant cells ring n = record_in n (cell cells (record_cell (length plant.atoms) ring n))

module _ (plant : PlantDefinition) (cells : List Cell) (ring : ℕ) where
  -- the first of the cells is judged before the others
  pub numbers_first : (n k m : ℕ) → m ≡ suc k → numbers_fault plant cells ring (range_with_len n m)
      ≡ first_of (record_fault plant cells ring n) (first_fault (map (record_fault plant cells ring) (take (length (front (record_at plant cells ring) n m)) (range_with_len (n + 1) k))))
  numbers_first n k m is = subst (λ (m : ℕ). numbers_fault plant cells ring (range_with_len n m) ≡ first_of (record_fault plant cells ring n) (first_fault (map (record_fault plant cells ring) (take (length (front (record_at plant cells ring) n m)) (range_with_len (n + 1) k))))) (sym is) refl

  -- a record that is there is live, before those after it
  pub live_first : (n k m : ℕ) (x : FiredFields) → m ≡ suc k → record_at plant cells ring n ≡ Some x → front (record_at plant cells ring) n m ≡ x ∷ front (record_at plant cells ring) (n + 1) k
  live_first n k m x is there = ap (front (record_at plant cells ring) n) is ∙ first_is (record_at plant cells ring) n k (Some x) there

  -- and if nothing is wrong with its cell, they tell what is wrong
  pub numbers_rest : (n k m : ℕ) (x : FiredFields) → m ≡ suc k → record_at plant cells ring n ≡ Some x → record_fault plant cells ring n ≡ None
      → numbers_fault plant cells ring (range_with_len n m) ≡ numbers_fault plant cells ring (range_with_len (n + 1) k)
  numbers_rest n k m x is there none =
      numbers_first n k m is
      ∙ ap (λ (o : Option ImageFault). first_of o (first_fault (map (record_fault plant cells ring) (take (length (front (record_at plant cells ring) n m)) (range_with_len (n + 1) k))))) none
      ∙ ap (λ (l : List FiredFields). first_fault (map (record_fault plant cells ring) (take (length l) (range_with_len (n + 1) k)))) (live_first n k m x is there)

  -- if no record is there, the row ends
  pub live_ends : (n m : ℕ) → record_at plant cells ring n ≡ None → front (record_at plant cells ring) n m ≡ []
  live_ends n m none = front_stops (record_at plant cells ring) n m (λ some. none)

  pub numbers_end : (n m : ℕ) → record_at plant cells ring n ≡ None → record_fault plant cells ring n ≡ None → numbers_fault plant cells ring (range_with_len n m) ≡ None
  numbers_end n zero there none = refl
  numbers_end n (suc k) there none =
      numbers_first n k (suc k) refl
      ∙ ap (λ (o : Option ImageFault). first_of o (first_fault (map (record_fault plant cells ring) (take (length (front (record_at plant cells ring) n (suc k))) (range_with_len (n + 1) k))))) none
      ∙ ap (λ (l : List FiredFields). first_fault (map (record_fault plant cells ring) (take (length l) (range_with_len (n + 1) k)))) (live_ends n (suc k) there)
