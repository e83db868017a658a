-- Appending adds a front of the new records to what the cells hold.
use Rattle.std.proofs.Common.{◌≡◌, ℕ, ◌+◌, ◌-◌, ◌*◌, ◌<◌, ◌≤◌, ◌&&◌, Bool, true, List, ◌++◌, length, take, drop, None, sym, ◌∙◌, ap, arith}
use Rattle.std.specs.List.{list_all}
use Rattle.std.proofs.lemmas.Bool.{and_parts}
use Rattle.std.proofs.lemmas.List.{length-append, length-take, take-append-drop}
use Rattle.std.proofs.lemmas.List.Folds.{list_all-append}
use Rattle.disk_model.specs.Cells.{Cell, cell}
use Rattle.gated_journal.specs.Stops.{HasAppended}
use Rattle.record_codec.specs.Fired.{FiredFields}
use Rattle.record_replay.specs.OfPlant.{is_record_of}
use Rattle.plant_model.specs.Plant.{PlantDefinition}
use Rattle.plant_image.specs.Contents.{contents_of, ring_held, base_held, ring_in}
use Rattle.plant_image.specs.Faults.{cells_fault, record_fault}
use Rattle.plant_image.specs.Standing.{with_records}
use Rattle.plant_image.proofs.KeptCells.{IsSound, none_of, behind_slots, identity_same, ring_same, base_fault_same, base_cell_same, base_same, slots_fault_same, slots_same, record_empty, live_fit, records_none}
use Rattle.plant_image.proofs.LiveFits.{RowFits}
use Rattle.plant_image.proofs.Standings.{base_some}
use Rattle.plant_image.proofs.WholeImage.{records_read, same_contents}

-- a test of a list is one of its front, and of what is after it
pub all_front : (p : FiredFields → Bool) (k : ℕ) (xs : List FiredFields) → list_all p xs ≡ true → (list_all p (take k xs) ≡ true) × (list_all p (drop k xs) ≡ true)
all_front p k xs all = and_parts (list_all p (take k xs)) (list_all p (drop k xs)) (sym (list_all-append p (take k xs) (drop k xs)) ∙ ap (list_all p) (take-append-drop k xs) ∙ all)

pub all_both : (p : FiredFields → Bool) (xs ys : List FiredFields) → list_all p xs ≡ true → list_all p ys ≡ true → list_all p (xs ++ ys) ≡ true
all_both p xs ys first second = list_all-append p xs ys ∙ ap (λ (t : Bool). t && list_all p ys) first ∙ second

module _ (plant : PlantDefinition) (digest : List ℕ) (bytes : ℕ) (news : List FiredFields) (before cells : List Cell) (sound : IsSound plant digest bytes before) (fit : list_all (is_record_of plant) news ≡ true) (left : HasAppended (ring_in (length plant.atoms) (contents_of (length plant.atoms) before)) news before cells) where
  low : (k : ℕ) → k < 3 + 2 * length plant.atoms → cell cells k ≡ cell before k
  low k below = left.others k (λ n from to. behind_slots (ring_in (length plant.atoms) (contents_of (length plant.atoms) before)) n k below)

  ring_is : ring_held before ≡ ring_held cells
  ring_is = sym (ring_same before cells (low 0 (omega arith)))

  base_is : base_held before ≡ base_held cells
  base_is = sym (base_same before cells (low 1 (omega arith)) (low 2 (omega arith)))

  fits : RowFits plant cells (ring_held before) (base_held before) (ring_held before) ((contents_of (length plant.atoms) before).records ++ take left.count news)
  fits =
      let olds : List FiredFields = (contents_of (length plant.atoms) before).records in
      let long : length (olds ++ take left.count news) ≡ length olds + left.count = length-append olds (take left.count news) ∙ ap (λ (k : ℕ). length olds + k) (omega (arith, length-take left.count news, left.within)) in
      let some : 1 ≤ base_held before = base_some before in
      let n : ℕ = base_held before + length olds - 1 + left.count + 1 in
      record {
        fit = all_both (is_record_of plant) olds (take left.count news) (live_fit plant before sound.records).fit (all_front (is_record_of plant) left.count news fit).0;
        behind = λ more. ap (record_fault plant cells (ring_held before)) (omega (arith, long, some))
            ∙ record_empty plant cells (ring_held before) n (left.behind (record { from = omega arith; to = omega (arith, more, long, some) }));
      }

  pub appended_none : cells_fault plant digest bytes cells ≡ None
  appended_none = none_of plant digest bytes cells (record {
    identity = identity_same before cells (low 0 (omega arith)) (length plant.atoms) digest bytes ∙ sound.identity;
    base = base_fault_same before cells (low 1 (omega arith)) (low 2 (omega arith)) ∙ sound.base;
    slots = slots_fault_same before cells plant.atoms (λ k from to. low k to) ∙ sound.slots;
    records = records_none plant cells (ring_held before) (base_held before) ((contents_of (length plant.atoms) before).records ++ take left.count news) ring_is base_is left.reads fits;
  })

  pub appended_reads : contents_of (length plant.atoms) cells ≡ with_records (take left.count news) (contents_of (length plant.atoms) before)
  appended_reads = same_contents (contents_of (length plant.atoms) cells) (with_records (take left.count news) (contents_of (length plant.atoms) before))
      (sym ring_is)
      (base_cell_same before cells (low 1 (omega arith)) (low 2 (omega arith)))
      (sym base_is)
      (slots_same before cells plant.atoms (λ k from to. low k to))
      (sym (records_read cells (ring_held before) (base_held before) ring_is base_is (length plant.atoms)) ∙ left.reads)
