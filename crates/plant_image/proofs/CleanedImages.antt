-- Cleaning leaves what the cells hold.
use Rattle.std.proofs.Common.{◌≡◌, ⊎_elim, ℕ, ◌+◌, ◌*◌, ◌<◌, List, length, None, sym, ◌∙◌, arith}
use Rattle.disk_model.specs.Cells.{Cell, cell}
use Rattle.gated_journal.specs.Live.{place}
use Rattle.gated_journal.specs.Stops.{HasCleaned}
use Rattle.plant_model.specs.Plant.{PlantDefinition}
use Rattle.plant_image.specs.Contents.{contents_of, ring_held, base_held, ring_in}
use Rattle.plant_image.specs.Faults.{cells_fault}
use Rattle.plant_image.proofs.KeptCells.{IsSound, none_of, behind_slots, identity_same, ring_same, base_fault_same, base_cell_same, base_same, slots_fault_same, slots_same, record_same, record_empty, live_fit, records_none}
use Rattle.plant_image.proofs.LiveFits.{RowFits}
use Rattle.plant_image.proofs.WholeImage.{records_read, same_contents}

module _ (plant : PlantDefinition) (digest : List ℕ) (bytes : ℕ) (before cells : List Cell) (sound : IsSound plant digest bytes before) (cleaned : HasCleaned (ring_in (length plant.atoms) (contents_of (length plant.atoms) before)) before cells) where
  low : (k : ℕ) → k < 3 + 2 * length plant.atoms → cell cells k ≡ cell before k
  low k below = cleaned.others k (λ n ahead. behind_slots (ring_in (length plant.atoms) (contents_of (length plant.atoms) before)) n k below)

  ring_is : ring_held before ≡ ring_held cells
  ring_is = sym (ring_same before cells (low 0 (omega arith)))

  base_is : base_held before ≡ base_held cells
  base_is = sym (base_same before cells (low 1 (omega arith)) (low 2 (omega arith)))

  fits : RowFits plant cells (ring_held before) (base_held before) (ring_held before) (contents_of (length plant.atoms) before).records
  fits =
      let there = live_fit plant before sound.records in
      let n : ℕ = base_held before + length (contents_of (length plant.atoms) before).records in
      record {
        fit = there.fit;
        behind = λ some. ⊎_elim
            (λ same. record_same before cells plant (ring_held before) n same ∙ there.behind some)
            (λ empty. record_empty plant cells (ring_held before) n empty)
            (cleaned.each (place (ring_in (length plant.atoms) (contents_of (length plant.atoms) before)) n));
      }

  pub cleaned_none : cells_fault plant digest bytes cells ≡ None
  cleaned_none = none_of plant digest bytes cells (record {
    identity = identity_same before cells (low 0 (omega arith)) (length plant.atoms) digest bytes ∙ sound.identity;
    base = base_fault_same before cells (low 1 (omega arith)) (low 2 (omega arith)) ∙ sound.base;
    slots = slots_fault_same before cells plant.atoms (λ k from to. low k to) ∙ sound.slots;
    records = records_none plant cells (ring_held before) (base_held before) (contents_of (length plant.atoms) before).records ring_is base_is cleaned.reads fits;
  })

  pub cleaned_same : contents_of (length plant.atoms) cells ≡ contents_of (length plant.atoms) before
  cleaned_same = same_contents (contents_of (length plant.atoms) cells) (contents_of (length plant.atoms) before)
      (sym ring_is)
      (base_cell_same before cells (low 1 (omega arith)) (low 2 (omega arith)))
      (sym base_is)
      (slots_same before cells plant.atoms (λ k from to. low k to))
      (sym (records_read cells (ring_held before) (base_held before) ring_is base_is (length plant.atoms)) ∙ cleaned.reads)
